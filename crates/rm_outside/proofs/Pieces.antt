-- Pieces that a sink took one after another.
use Rattle.std.proofs.Common.{ℕ, ◌+◌, List, Option, take, drop}
use Rattle.std.proofs.Math.Seq.{take-add}
use Rattle.std.proofs.KnownBytes.{Appends-trans}
use Rattle.std.specs.Io.KnownBytes.{Appends}

-- one more piece of the bytes
pub Appends-more : (a b c : Option (List ℕ)) (bytes : List ℕ) (n m : ℕ) → Appends a b (take n bytes) → Appends b c (take m (drop n bytes)) → Appends a c (take (n + m) bytes)
Appends-more a b c bytes n m h g = rw (take-add n m bytes) (Appends-trans a b c (take n bytes) (take m (drop n bytes)) h g)
