use Rattle.rm_store.proofs.Common.{◌≤◌, length, arith, nat_tests}
use Rattle.rm_frame.proofs.Payloads.{read_to_end, whole_payload}
use Rattle.rm_store.proofs.reading.operation_of.Goals as goal

pub returns-then-count-payload-clause-none : goal.returns-then-count-payload-clause-none
returns-then-count-payload-clause-none c = λ op is.
    let same = c.in-Ok.ensures.only op (length c.args.payload.now) (whole_payload c.args.payload.now op is.can is.is) in
    absurd (omega (arith, same.1, c.if-count-payload.true))

pub returns-in-Err-BadFrame-clause-none : goal.returns-in-Err-BadFrame-clause-none
returns-in-Err-BadFrame-clause-none c = λ op is. c.in-Err-BadFrame.ensures.no_frame _ c.in-Err-BadFrame.field-0-is op (length c.args.payload.now) (whole_payload c.args.payload.now op is.can is.is)

pub returns-else-count-payload-clause-some : goal.returns-else-count-payload-clause-some
returns-else-count-payload-clause-some c =
    let past = c.if-count-payload.false in
    let all : length c.args.payload.now ≤ c.in-Ok.count = grind (arith, nat_tests) in
    record { can = c.in-Ok.ensures.framed.can; is = read_to_end c.args.payload.now c.in-Ok.op c.in-Ok.count c.in-Ok.ensures.framed all }
