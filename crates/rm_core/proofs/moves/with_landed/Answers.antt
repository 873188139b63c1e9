use Rattle.std.proofs.Common.{◌≡◌, true, sym, arith, subst}
use Rattle.std.proofs.lemmas.Bool.Decides.{nat_tests}
use Rattle.rm_types.specs.Records.{Records, fits_records}
use Rattle.rm_core.proofs.Listed.{first_of}
use Rattle.rm_core.proofs.moves.with_landed.Goals as goal

pub with_op-requires : goal.with_op-requires
with_op-requires c =
    let front = first_of c.args.t.now.awaiting c.in-Some.op.now (sym c.in-Some.ensures.first) in
    let most = c.requires.one in
    let some = c.if-landed-eq0.false in
    let one : c.args.landed ≡ 1 = grind (arith, nat_tests) in
    subst (λ (r : Records). fits_records r c.in-Some.op.now ≡ true) (sym c.in_ok-own.ensures) (c.requires.fits one c.in-Some.op.now front.0 front.1)
