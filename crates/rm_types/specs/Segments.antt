-- What segments of a script have.
use Rattle.std.specs.Prelude.{ℕ, List, length}
use Rattle.std.specs.List.{sum_by}
use Rattle.rm_types.specs.declared.scripts.Segment.{Segment}

-- how many messages are in the segments
abbrev pub messages_in : List Segment → ℕ
messages_in segments = sum_by (λ segment. length segment.messages) segments
