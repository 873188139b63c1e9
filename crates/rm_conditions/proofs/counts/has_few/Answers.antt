use Rattle.std.proofs.Common.{arith}
use Rattle.rm_conditions.proofs.Few.{fewer_found, fewer_placed}
use Rattle.rm_conditions.proofs.counts.has_few.Goals as goal

pub returns : goal.returns
returns c =
    let apps = c.args.t.now.tree.apps in (
      λ yes id. let h = fewer_found 4294967295 apps (omega arith) (c.have_fewer.ensures.each.0 yes) id in omega (arith, h),
      λ few. c.have_fewer.ensures.each.1 (fewer_placed 4294967295 apps c.have_fewer.ensures.apart (λ id. let h = few id in omega (arith, h))),
    )
