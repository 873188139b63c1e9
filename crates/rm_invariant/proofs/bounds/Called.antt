-- What calls take of numbers: the next epoch, and how many attempts an application has, fit their type.
use Rattle.rm_invariant.proofs.Common.{◌<◌, ◌+◌, ◌^◌, length, arith, AppId, Settings, attempts_in, Tables, found_in, History}
use Rattle.rm_invariant.specs.Core.{CoreInvariant}
use Rattle.rm_invariant.specs.bounds.InBounds.{InBounds}
use Rattle.rm_invariant.proofs.bounds.Passable.{few_attempts}

-- the next epoch
pub epoch_few : (t : Tables) → InBounds t → t.epoch + 1 < 2 ^ 32
epoch_few t r = let epoch = r.counts.epoch in omega (arith, epoch)

-- the attempts of an application
pub attempts_few : (settings : Settings) (h : History) (t : Tables) → CoreInvariant settings h t → InBounds t → (id : AppId) → length (attempts_in (found_in t id)) < 2 ^ 32
attempts_few settings h t w r id = let few = few_attempts settings h t w r id in omega (arith, few)
