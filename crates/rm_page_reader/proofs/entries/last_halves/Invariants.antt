use Rattle.std.specs.Prelude.{◌≡◌, ◌≤◌, true, length, drop}
use Rattle.rm_page.proofs.Bytes.{lacks}
use Rattle.rm_page_reader.proofs.entries.last_halves.Given as goal

-- the byte stands nowhere behind the place
abbrev pub invariant-places : goal.invariant-places
invariant-places l = record { within : l.end ≤ length l.text; behind : lacks l.byte (drop l.end l.text) ≡ true }

abbrev pub decreases-places : goal.decreases-places
decreases-places l = l.end
