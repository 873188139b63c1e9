-- What a sink took and counted while a page was written to it.
use Rattle.std.specs.Prelude.{◌≡◌, ℕ, ◌<◌, List, Option, length, take}
use Rattle.std.specs.Io.KnownBytes.{Appends}
use Rattle.rm_types.specs.Counts.{Rose}
use Rattle.rm_outside.specs.declared.writes.Written.{Written}
use Rattle.rm_outside.specs.declared.writes.Written.TheVariants.{All, Fault, Nothing, Memory}

-- The sink took a beginning of the bytes, and not all of them.
abbrev pub AppendsPart : Option (List ℕ) → Option (List ℕ) → List ℕ → Type 0
AppendsPart old new bytes = (n : ℕ) × (n < length bytes) × Appends old new (take n bytes)

-- The sink took all the bytes where the page was written, and else only a beginning of them.
abbrev pub IsTaken : Written → Option (List ℕ) → Option (List ℕ) → List ℕ → Type 0
IsTaken All old new bytes = Appends old new bytes
IsTaken Fault old new bytes = AppendsPart old new bytes
IsTaken Nothing old new bytes = AppendsPart old new bytes
IsTaken Memory old new bytes = AppendsPart old new bytes

-- The count of faults rose where a write was refused, and else stayed.
abbrev pub CountsFaults : Written → ℕ → ℕ → Type 0
CountsFaults All before now = now ≡ before
CountsFaults Fault before now = Rose before now
CountsFaults Nothing before now = now ≡ before
CountsFaults Memory before now = now ≡ before

-- The count of idle writes rose where a write took nothing, and else stayed.
abbrev pub CountsIdle : Written → ℕ → ℕ → Type 0
CountsIdle All before now = now ≡ before
CountsIdle Fault before now = now ≡ before
CountsIdle Nothing before now = Rose before now
CountsIdle Memory before now = now ≡ before
