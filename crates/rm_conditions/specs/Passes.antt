-- What a pass needs of each node, of each row and of each turn by itself. This project's own.
use Rattle.std.specs.Prelude.{◌^◌, nat_le, nat_lt, Bool, true, not, ◌&&◌, ◌||◌, Option, None, Some}
use Rattle.std.specs.List.{list_all}
use Rattle.rm_types.specs.declared.ids.AttemptId.{AttemptId}
use Rattle.rm_types.specs.declared.resources.Resource.{Resource}
use Rattle.rm_book.specs.AskTables.{attempt_asks}
use Rattle.rm_book.specs.Books.{BookOf, capability_of}
use Rattle.rm_book.specs.declared.plain.NodeCapability.{NodeCapability}
use Rattle.rm_sched.specs.fit.Conditions.{are_some_sizes, is_past}
use Rattle.rm_tables.specs.declared.rows.AppRow.{AppRow}
use Rattle.rm_tables.specs.declared.rows.Current.{Current}
use Rattle.rm_tables.specs.declared.tables.Tables.{Tables}
use Rattle.rm_tables.specs.Passing.{asks_some, turn_in}

-- a node offers at most 256 cores, if it offers anything
abbrev pub offers_few : Option Resource → Bool
offers_few None = true
offers_few (Some capability) = nat_le capability.vcores 256

-- the same of a node of a book, if it is there
abbrev pub offers_few_at : BookOf → Option NodeCapability → Bool
offers_few_at book None = true
offers_few_at book (Some one) = offers_few (capability_of book one.node)

-- an attempt was granted so few containers that the sequence of one more is at most 2^39
abbrev pub is_early_at : Option Current → Bool
is_early_at None = true
is_early_at (Some current) = nat_lt current.granted (2 ^ 39)

-- the current attempt of an application was, if the life knows the application
abbrev pub is_early : Option AppRow → Bool
is_early None = true
is_early (Some row) = is_early_at row.current

-- no container of the book is one that an attempt may yet be granted
abbrev pub has_only_past_ids : Tables → AttemptId → Bool
has_only_past_ids t attempt = list_all (is_past t.epoch (turn_in t.rows attempt)) t.book.rows

-- an attempt may have a turn: what it asks for has sizes and, where it asks for something, no container of the book is one that it may
-- yet be granted
abbrev pub may_have_turn : Tables → AttemptId → Bool
may_have_turn t attempt = are_some_sizes (attempt_asks t.asks attempt) && (not (asks_some t.asks attempt) || has_only_past_ids t attempt)
