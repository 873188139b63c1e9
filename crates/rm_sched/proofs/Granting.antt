-- Lists that a pass goes over, and what it grants.
use Rattle.std.proofs.Common.{◌≡◌, ◌≤◌, ℕ, ◌+◌, ◌^◌, nat_le, nat_lt, List, [], ◌∷◌, Bool, true, false, not, Option, None, Some, is_some, is_none, map, filter, option_map, refl, sym, ◌∙◌, ap, arith, Bor}
use Rattle.std.specs.Prelude.{find, IsSomeAnd}
use Rattle.std.specs.Option.{option_copied}
use Rattle.std.proofs.lemmas.Bool.{false≢true}
use Rattle.std.proofs.lemmas.Bool.Decides.{nat_tests}
use Rattle.rm_types.specs.declared.containers.Ask.{Ask}
use Rattle.rm_types.specs.declared.containers.AskLine.{AskLine}
use Rattle.rm_types.specs.declared.ids.AppId.{AppId}
use Rattle.rm_types.specs.declared.ids.AttemptId.{AttemptId}
use Rattle.rm_types.specs.declared.resources.Resource.{Resource}
use Rattle.rm_types.specs.Lists.{is_nil}
use Rattle.rm_types.specs.Passes.{by_priority, put_by_priority}
use Rattle.rm_types.specs.Resources.{difference_of}
use Rattle.rm_book.specs.AskTables.{some_asks}
use Rattle.rm_book.specs.Books.{BookOf, capability_of, free_on, total_on}
use Rattle.rm_sched.specs.fit.Conditions.{are_early}
use Rattle.rm_model.specs.Attempts.{attempt_at}
use Rattle.rm_model.specs.Containers.{is_size}
use Rattle.rm_tables.specs.declared.rows.AppRow.{AppRow}
use Rattle.rm_tables.specs.declared.tables.Tables.{Tables}
use Rattle.rm_tables.specs.Passing.{asks_some, granted_number, turn_in, turns_in}
use Rattle.rm_tables.specs.Rows.{row_of}
use Rattle.rm_sched.specs.CanWork.{CanPass}

-- asks in the order of a pass are there where asks are
put_some : (ask : Ask) (asks : List Ask) → is_nil (put_by_priority ask asks) ≡ false
put_some ask [] = refl
put_some ask (other ∷ asks) = by (nat_lt other.priority ask.priority) refl
  where
    by : (b : Bool) → nat_lt other.priority ask.priority ≡ b → is_nil (put_by_priority ask (other ∷ asks)) ≡ false
    by true e = rw e refl
    by false e = rw e refl

some_put : (asks : List Ask) → is_nil asks ≡ false → is_some (some_asks asks) ≡ true
some_put [] e = cc
some_put (ask ∷ asks) e = refl

pub asked_is : (r : Option (Bor (List AskLine))) (asks : List Ask) → option_map (map (λ line. line.ask)) (option_copied r) ≡ some_asks (by_priority asks) → is_some r ≡ not (is_nil asks)
asked_is None [] e = refl
asked_is (Some lines) [] e = cc
asked_is (Some lines) (ask ∷ asks) e = refl
asked_is None (ask ∷ asks) e =
    let some : is_some (some_asks (by_priority (ask ∷ asks))) ≡ true = some_put (by_priority (ask ∷ asks)) (put_some ask (by_priority asks)) in
    let none : is_some (some_asks (by_priority (ask ∷ asks))) ≡ false = ap is_some (sym e) in
    absurd (false≢true (sym none ∙ some))

pub lines_are : (lines : List AskLine) (asks : List Ask) → option_map (map (λ line. line.ask)) (Some lines) ≡ some_asks (by_priority asks) → map (λ line. line.ask) lines ≡ by_priority asks
lines_are lines asks e = by (by_priority asks) e
  where
    by : (found : List Ask) → Some (map (λ (line : AskLine). line.ask) lines) ≡ some_asks found → map (λ (line : AskLine). line.ask) lines ≡ found
    by [] e = cc
    by (ask ∷ more) e = cc

-- what a grant answers
pub found_line : (lines : List AskLine) (size : Resource)
    → option_map (λ line. line.ask.priority) (find (λ line. is_size line.ask.size size) lines) ≡ option_map (λ ask. ask.priority) (find (λ one. is_size one.size size) (map (λ line. line.ask) lines))
found_line [] size = refl
found_line (line ∷ lines) size = by (is_size line.ask.size size) refl (found_line lines size)
  where
    by : (b : Bool) → is_size line.ask.size size ≡ b
        → option_map (λ one. one.ask.priority) (find (λ one. is_size one.ask.size size) lines) ≡ option_map (λ ask. ask.priority) (find (λ one. is_size one.size size) (map (λ one. one.ask) lines))
        → option_map (λ one. one.ask.priority) (find (λ one. is_size one.ask.size size) (line ∷ lines)) ≡ option_map (λ ask. ask.priority) (find (λ one. is_size one.size size) (map (λ one. one.ask) (line ∷ lines)))
    by true e rest = rw e refl
    by false e rest = rw e rest

-- a node that offers something has room for a pass
pub room_is : (book : BookOf) (name : List ℕ) → is_none (free_on book name) ≡ false → ((capability : Resource) → capability_of book name ≡ Some capability → capability.vcores ≤ 256)
    → IsSomeAnd (free_on book name) (λ free. free.vcores ≤ 256)
room_is book name some few = by (capability_of book name) refl some
  where
    by : (o : Option Resource) → capability_of book name ≡ o → is_none (option_map (λ capability. difference_of capability (total_on name book.rows)) o) ≡ false
        → IsSomeAnd (option_map (λ capability. difference_of capability (total_on name book.rows)) o) (λ free. free.vcores ≤ 256)
    by None e n = cc
    by (Some capability) e n = let h = few capability e in omega (arith, h)

all_early : (rows : List (AppId × Option AppRow)) (ids : List AttemptId) → ((id : AttemptId) → granted_number id.number (row_of rows id.app) + 1 ≤ 2 ^ 39) → are_early (map (turn_in rows) ids) ≡ true
all_early rows [] h = refl
all_early rows (id ∷ ids) h =
    let first : nat_le (granted_number id.number (row_of rows id.app) + 1) (2 ^ 39) ≡ true = let f = h id in grind (arith, nat_tests) in
    rw first (all_early rows ids h)

pub early_is : (t : Tables) → CanPass t → are_early (turns_in t) ≡ true
early_is t can = all_early t.rows (filter (asks_some t.asks) (map attempt_at t.tree.apps)) can.early
