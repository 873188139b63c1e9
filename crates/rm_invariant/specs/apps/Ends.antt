-- What becomes of a number that an end sets to nothing. This project's own.
use Rattle.std.specs.Prelude.{ℕ, Bool, true, false}

-- none, where it is of this one
abbrev pub none_if : Bool → ℕ → ℕ
none_if true n = 0
none_if false n = n
