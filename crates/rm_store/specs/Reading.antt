-- Steps of reading a store. This project's own.
use Rattle.std.specs.Prelude.{ℕ, List, ◌++◌}
use Rattle.rm_journal.specs.Walk.{WalkAt, HasWalked}
use Rattle.rm_store.specs.declared.fault.StoreError.{StoreError}
use Rattle.rm_store.specs.declared.fault.StoreError.TheVariants.{Damaged, Stray, Memory}

-- A walk went on over some payloads more.
abbrev pub WalkedOn : WalkAt → WalkAt → List ℕ → Type 0
WalkedOn old new bytes = (given : List (List ℕ)) → HasWalked old bytes given → (more : List (List ℕ)) × HasWalked new bytes (given ++ more)

-- The operation of a payload is not taken in with one of these.
abbrev pub IsTakeError : StoreError → Type 0
IsTakeError (Damaged _) = Unit {0}
IsTakeError (Stray _ _) = Unit {0}
IsTakeError Memory = Unit {0}
IsTakeError _ = ⊥
