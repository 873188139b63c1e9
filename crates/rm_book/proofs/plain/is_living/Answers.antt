use Rattle.rm_book.proofs.Common.{◌≡◌, Bool, true, false, not, refl, ContainerState, Granted, Acquired, Running, Completed}
use Rattle.std.proofs.Common.{◌↔◌, IsTrue}
use Rattle.rm_book.specs.Books.{is_living_state}
use Rattle.rm_book.proofs.plain.is_living.Goals as goal

living_unless : (s : ContainerState) (b : Bool) → (IsTrue b ↔ (s ≡ Completed)) → not b ≡ is_living_state s
living_unless Granted true which = let e : Granted ≡ Completed = which.0 refl in cc
living_unless Granted false which = refl
living_unless Acquired true which = let e : Acquired ≡ Completed = which.0 refl in cc
living_unless Acquired false which = refl
living_unless Running true which = let e : Running ≡ Completed = which.0 refl in cc
living_unless Running false which = refl
living_unless Completed true which = refl
living_unless Completed false which = let e : false ≡ true = which.1 refl in cc

pub returns : goal.returns
returns c = living_unless c.args.state c.is_final.result c.is_final.ensures.which
