use Rattle.std.proofs.Common.{arith}
use Rattle.rm_conditions.proofs.counts.are_few.Goals as goal

pub returns : goal.returns
returns c = (
  λ yes place app e. let h = c.have_fewer.ensures.each.0 yes place app e in omega (arith, h),
  λ few. c.have_fewer.ensures.each.1 (λ place app e. let h = few place app e in omega (arith, h)),
)
