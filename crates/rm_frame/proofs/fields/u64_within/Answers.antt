use Rattle.std.proofs.Common.{arith, rules, ◌^◌}
use Rattle.std.specs.Int.{w64}
use Rattle.rm_frame.specs.Fields.{NumberFrom}
use Rattle.rm_frame.proofs.Numbers.{wide64}
use Rattle.rm_frame.proofs.Faults.{number_reads, number_stands, stops_at}
use Rattle.rm_frame.proofs.fields.u64_within.Goals.{then-number-least-via-then-number-least, then-number-least-via-else-number-least+then-greatest-number}
use Rattle.rm_frame.proofs.fields.u64_within.Goals as goal

pub returns-in_default-clause-bad : goal.returns-in_default-clause-bad
returns-in_default-clause-bad c =
    stops_at (NumberFrom w64 c.args.least c.args.greatest) c.args.bytes.now
    (λ s. let t = number_stands w64 c.args.least c.args.greatest c.args.bytes.now s in let short = c.u64_at.ensures.none (search rules) in omega arith)

pub returns-then-number-least-clause-bad : goal.returns-then-number-least-clause-bad
returns-then-number-least-clause-bad c =
    stops_at (NumberFrom w64 c.args.least c.args.greatest) c.args.bytes.now
    (λ s. let t = number_stands w64 c.args.least c.args.greatest c.args.bytes.now s in
    let n = c.in-Some.ensures.some.1 in
    elim c.then-number-least.branch [
      | then-number-least-via-then-number-least w ↦ omega (arith, w.if-number-least.true)
      | then-number-least-via-else-number-least+then-greatest-number w ↦ omega (arith, w.if-greatest-number.true)
    ])

pub returns-clause-read : goal.returns-clause-read
returns-clause-read c =
    let e = c.in-Some.ensures.some in
    number_reads w64 (2 ^ 64) wide64 c.args.least c.args.greatest c.in-Some.number c.args.bytes.now c.in-Some.rest.now (λ i. omega (arith, c.type_inv.bytes i)) e.0 e.1 e.2
    (omega (arith, c.if-number-least.false)) (omega (arith, c.if-greatest-number.false))
