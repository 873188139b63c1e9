-- What a pass needs of all nodes, rows and turns, from what it needs of each by itself, and back.
use Rattle.std.proofs.Common.{◌≡◌, ℕ, zero, suc, ◌+◌, ◌<◌, ◌≤◌, ◌^◌, ◌==◌, nat_le, List, [], ◌∷◌, Bool, true, false, not, ◌&&◌, ◌||◌, Option, None, Some, cond, filter, map, length, option_map, slice_get, refl, sym, ◌∙◌, subst, arith}
use borrow.Author.Count.{below_more}
use Rattle.std.specs.List.{list_all}
use Rattle.std.proofs.lemmas.Bool.{and_from, and_parts}
use Rattle.std.proofs.lemmas.Bool.Decides.{nat_tests}
use Rattle.rm_types.specs.declared.containers.Turn.{Turn}
use Rattle.rm_types.specs.declared.ids.AppId.{AppId}
use Rattle.rm_types.specs.declared.ids.AttemptId.{AttemptId}
use Rattle.rm_types.specs.declared.records.AppRecord.{AppRecord}
use Rattle.rm_types.specs.declared.resources.Resource.{Resource}
use Rattle.rm_types.specs.Ids.{is_app}
use Rattle.rm_types.specs.Lists.{is_nil}
use Rattle.rm_types.proofs.IdLemmas.{same_app}
use Rattle.rm_types.proofs.TestLemmas.{nil_is, number_itself, same_text}
use Rattle.rm_book.specs.AskTables.{attempt_asks}
use Rattle.rm_book.specs.Books.{BookOf, capability_in, capability_of, is_node}
use Rattle.rm_book.specs.declared.plain.NodeCapability.{NodeCapability}
use Rattle.rm_sched.specs.fit.Conditions.{TurnsAreApart, are_past, are_some_sizes, have_sizes}
use Rattle.rm_model.specs.Attempts.{attempt_at}
use Rattle.rm_tables.specs.declared.rows.AppRow.{AppRow}
use Rattle.rm_tables.specs.declared.rows.Current.{Current}
use Rattle.rm_tables.specs.declared.tables.Tables.{Tables}
use Rattle.rm_tables.specs.Passing.{asks_some, granted_number, granted_to, turn_in, turns_in}
use Rattle.rm_tables.specs.Rows.{row_of, slot_of}
use Rattle.rm_sched.specs.CanWork.{CanPass}
use Rattle.rm_conditions.specs.Passes.{is_early, is_early_at, has_only_past_ids, may_have_turn, offers_few}

-- ROOM

abbrev AreFewOffered : BookOf → Type 0
AreFewOffered book = (name : List ℕ) (capability : Resource) → capability_of book name ≡ Some capability → capability.vcores ≤ 256

all_each : {X : Type 0} (p : X → Bool) (xs : List X) → ((x : X) → p x ≡ true) → list_all p xs ≡ true
all_each p [] each = refl
all_each p (x ∷ xs) each = and_from (p x) (list_all p xs) (each x) (all_each p xs each)

-- a node that has a capability is one of those that were looked at
found_few : (p : Option Resource → Bool) (capability_at : List ℕ → Option Resource) (nodes : List NodeCapability) (name : List ℕ) (capability : Resource)
    → list_all (λ one. p (capability_at one.node)) nodes ≡ true → capability_in nodes name ≡ Some capability → p (capability_at name) ≡ true
found_few p capability_at [] name capability all e = cc
found_few p capability_at (one ∷ nodes) name capability all e =
    let parts = and_parts (p (capability_at one.node)) (list_all (λ (other : NodeCapability). p (capability_at other.node)) nodes) all in
    by (is_node name one) refl parts.0 (found_few p capability_at nodes name capability parts.1)
  where
    by : (b : Bool) → is_node name one ≡ b → p (capability_at one.node) ≡ true → (capability_in nodes name ≡ Some capability → p (capability_at name) ≡ true) → p (capability_at name) ≡ true
    by true f first rest = subst (λ (text : List ℕ). p (capability_at text) ≡ true) (same_text one.node name f) first
    by false f first rest = rest (rw f at e)

few_offered : (book : BookOf) → list_all (λ one. offers_few (capability_of book one.node)) book.nodes ≡ true → AreFewOffered book
few_offered book all name capability e =
    let few : offers_few (capability_of book name) ≡ true = found_few offers_few (capability_of book) book.nodes name capability all e in
    let le : nat_le capability.vcores 256 ≡ true = rw e at few in
    grind (arith, nat_tests)

all_offer_few : (book : BookOf) → AreFewOffered book → list_all (λ one. offers_few (capability_of book one.node)) book.nodes ≡ true
all_offer_few book few = all_each (λ (one : NodeCapability). offers_few (capability_of book one.node)) book.nodes (λ one. by one.node (capability_of book one.node) refl)
  where
    by : (name : List ℕ) (o : Option Resource) → capability_of book name ≡ o → offers_few o ≡ true
    by name None e = refl
    by name (Some capability) e = let le = few name capability e in grind (arith, nat_tests)

-- SEQUENCES

-- the application of the slot at a place
abbrev pub EachEarly : List (AppId × Option AppRow) → List (AppId × Option AppRow) → Type 0
EachEarly rows slots = (place : ℕ) (id : AppId) → option_map (λ slot. slot.0) (slice_get slots place) ≡ Some id → is_early (row_of rows id) ≡ true

-- the sequence of the next container of each attempt is in range
abbrev pub AllEarly : List (AppId × Option AppRow) → Type 0
AllEarly rows = (id : AttemptId) → granted_number id.number (row_of rows id.app) + 1 ≤ 2 ^ 39

early_current : (o : Option Current) (number : ℕ) → is_early_at o ≡ true → granted_to number o + 1 ≤ 2 ^ 39
early_current None number early = omega arith
early_current (Some current) number early = by (current.number == number)
  where
    by : (b : Bool) → cond b current.granted 0 + 1 ≤ 2 ^ 39
    by true = grind (arith, nat_tests)
    by false = omega arith

early_row : (o : Option AppRow) (number : ℕ) → is_early o ≡ true → granted_number number o + 1 ≤ 2 ^ 39
early_row None number early = omega arith
early_row (Some row) number early = early_current row.current number early

-- an application that has a row has a slot
slot_early : (rows slots : List (AppId × Option AppRow)) (id : AppId) (slot : Option AppRow) → EachEarly rows slots → slot_of slots id ≡ Some slot → is_early (row_of rows id) ≡ true
slot_early rows [] id slot each e = cc
slot_early rows (one ∷ slots) id slot each e = by (is_app id one.0) refl (slot_early rows slots id slot (λ place other f. each (suc place) other f))
  where
    by : (b : Bool) → is_app id one.0 ≡ b → (slot_of slots id ≡ Some slot → is_early (row_of rows id) ≡ true) → is_early (row_of rows id) ≡ true
    by true f rest = subst (λ (other : AppId). is_early (row_of rows other) ≡ true) (sym (same_app id one.0 f)) (each 0 one.0 refl)
    by false f rest = rest (rw f at e)

all_early : (rows : List (AppId × Option AppRow)) → EachEarly rows rows → AllEarly rows
all_early rows each id = early_row (row_of rows id.app) id.number (by (slot_of rows id.app) refl)
  where
    by : (o : Option (Option AppRow)) → slot_of rows id.app ≡ o → is_early (row_of rows id.app) ≡ true
    by None e = rw e refl
    by (Some slot) e = slot_early rows rows id.app slot each e

current_early : (o : Option Current) → ((number : ℕ) → granted_to number o + 1 ≤ 2 ^ 39) → is_early_at o ≡ true
current_early None all = refl
current_early (Some current) all =
    let own : granted_to current.number (Some current) + 1 ≤ 2 ^ 39 = all current.number in
    let less : current.granted + 1 ≤ 2 ^ 39 = rw (number_itself current.number) at own in
    grind (arith, nat_tests)

row_early : (o : Option AppRow) → ((number : ℕ) → granted_number number o + 1 ≤ 2 ^ 39) → is_early o ≡ true
row_early None all = refl
row_early (Some row) all = current_early row.current all

each_early : (rows : List (AppId × Option AppRow)) → AllEarly rows → EachEarly rows rows
each_early rows all place id e = row_early (row_of rows id) (λ number. all (record { app = id; number = number }))

-- TURNS

-- the attempts that these applications are at may have turns
abbrev pub EachMay : Tables → List AppRecord → Type 0
EachMay t apps = (place : ℕ) (app : AppRecord) → slice_get apps place ≡ Some app → may_have_turn t (attempt_at app) ≡ true

-- what is found at a place stands below the length
got_within : {X : Type 0} (xs : List X) (place : ℕ) (x : X) → slice_get xs place ≡ Some x → place < length xs
got_within [] place x e = cc
got_within (y ∷ xs) zero x e = omega arith
got_within (y ∷ xs) (suc place) x e = let within = got_within xs place x e in omega (arith, within)

-- the same below a place
abbrev pub EachBelow : Tables → ℕ → Type 0
EachBelow t bound = (place : ℕ) (app : AppRecord) → place < bound → slice_get t.tree.apps place ≡ Some app → may_have_turn t (attempt_at app) ≡ true

pub one_below : (t : Tables) (place : ℕ) (app : AppRecord) → EachBelow t place → slice_get t.tree.apps place ≡ Some app → may_have_turn t (attempt_at app) ≡ true → EachBelow t (place + 1)
one_below t place app below e may at one less f =
    below_more (λ k. (x : AppRecord) → slice_get t.tree.apps k ≡ Some x → may_have_turn t (attempt_at x) ≡ true) place (λ k lt x g. below k x lt g) here at less one f
  where
    here : (x : AppRecord) → slice_get t.tree.apps place ≡ Some x → may_have_turn t (attempt_at x) ≡ true
    here x g =
        let both : Some app ≡ Some x = sym e ∙ g in
        let same : app ≡ x = cc in
        subst (λ (y : AppRecord). may_have_turn t (attempt_at y) ≡ true) same may

pub all_below : (t : Tables) (bound : ℕ) → EachBelow t bound → length t.tree.apps ≤ bound → EachMay t t.tree.apps
all_below t bound below over place app e = let within = got_within t.tree.apps place app e in below place app (omega (arith, within, over)) e

module _ (t : Tables) where
  abbrev turns_of : List AttemptId → List Turn
  turns_of ids = map (turn_in t.rows) (filter (asks_some t.asks) ids)

  -- what a pass needs of the turns of these attempts
  record AreReady (ids : List AttemptId) : Type 0 where
    sizes : have_sizes (attempt_asks t.asks) (turns_of ids) ≡ true
    past : are_past t.epoch (turns_of ids) t.book.rows ≡ true

  all_ready : (ids : List AttemptId) → list_all (may_have_turn t) ids ≡ true → AreReady ids
  all_ready [] may = record { sizes = refl; past = refl }
  all_ready (id ∷ ids) may =
      let parts = and_parts (may_have_turn t id) (list_all (may_have_turn t) ids) may in
      let own = and_parts (are_some_sizes (attempt_asks t.asks id)) (not (asks_some t.asks id) || has_only_past_ids t id) parts.0 in
      by (asks_some t.asks id) refl own.0 own.1 (all_ready ids parts.1)
    where
      by : (b : Bool) → asks_some t.asks id ≡ b → are_some_sizes (attempt_asks t.asks id) ≡ true → (not (asks_some t.asks id) || has_only_past_ids t id) ≡ true → AreReady ids → AreReady (id ∷ ids)
      by true e size new rest =
          let past : has_only_past_ids t id ≡ true = rw e at new in
          record { sizes = rw e (and_from (are_some_sizes (attempt_asks t.asks id)) _ size rest.sizes); past = rw e (and_from (has_only_past_ids t id) _ past rest.past) }
      by false e size new rest = record { sizes = rw e rest.sizes; past = rw e rest.past }

  may_all : (ids : List AttemptId) → AreReady ids → list_all (may_have_turn t) ids ≡ true
  may_all [] ready = refl
  may_all (id ∷ ids) ready = by (asks_some t.asks id) refl (may_all ids)
    where
      none_asked : not (is_nil (attempt_asks t.asks id)) ≡ false → is_nil (attempt_asks t.asks id) ≡ true
      none_asked e = turned (is_nil (attempt_asks t.asks id)) e
        where
          turned : (b : Bool) → not b ≡ false → b ≡ true
          turned true f = refl
          turned false f = cc

      by : (b : Bool) → asks_some t.asks id ≡ b → (AreReady ids → list_all (may_have_turn t) ids ≡ true) → list_all (may_have_turn t) (id ∷ ids) ≡ true
      by true e rest =
          let all_sizes : (are_some_sizes (attempt_asks t.asks id) && have_sizes (attempt_asks t.asks) (turns_of ids)) ≡ true = rw e at ready.sizes in
          let all_past : (has_only_past_ids t id && are_past t.epoch (turns_of ids) t.book.rows) ≡ true = rw e at ready.past in
          let sizes = and_parts (are_some_sizes (attempt_asks t.asks id)) (have_sizes (attempt_asks t.asks) (turns_of ids)) all_sizes in
          let past = and_parts (has_only_past_ids t id) (are_past t.epoch (turns_of ids) t.book.rows) all_past in
          rw (e, sizes.0, past.0) (rest (record { sizes = sizes.1; past = past.1 }))
      by false e rest =
          let none : attempt_asks t.asks id ≡ [] = nil_is (attempt_asks t.asks id) (none_asked e) in
          rw (e, none) (rest (record { sizes = rw e at ready.sizes; past = rw e at ready.past }))

  placed_all : (apps : List AppRecord) → EachMay t apps → list_all (may_have_turn t) (map attempt_at apps) ≡ true
  placed_all [] each = refl
  placed_all (app ∷ apps) each = and_from (may_have_turn t (attempt_at app)) _ (each 0 app refl) (placed_all apps (λ place other e. each (suc place) other e))

  all_placed : (apps : List AppRecord) → list_all (may_have_turn t) (map attempt_at apps) ≡ true → EachMay t apps
  all_placed [] all place app e = cc
  all_placed (one ∷ apps) all zero app e =
      let parts = and_parts (may_have_turn t (attempt_at one)) (list_all (may_have_turn t) (map attempt_at apps)) all in
      let same : one ≡ app = cc in
      subst (λ (x : AppRecord). may_have_turn t (attempt_at x) ≡ true) same parts.0
  all_placed (one ∷ apps) all (suc place) app e =
      let parts = and_parts (may_have_turn t (attempt_at one)) (list_all (may_have_turn t) (map attempt_at apps)) all in
      all_placed apps parts.1 place app e

  -- ALL OF IT

  pub passable : TurnsAreApart (turns_in t) → list_all (λ one. offers_few (capability_of t.book one.node)) t.book.nodes ≡ true → EachEarly t.rows t.rows → EachMay t t.tree.apps → CanPass t
  passable apart room early each =
      let ready = all_ready (map attempt_at t.tree.apps) (placed_all t.tree.apps each) in
      record { room = few_offered t.book room; apart = apart; early = all_early t.rows early; sizes = ready.sizes; past = ready.past }

  pub pass_rooms : CanPass t → list_all (λ one. offers_few (capability_of t.book one.node)) t.book.nodes ≡ true
  pass_rooms can = all_offer_few t.book can.room

  pub pass_early : CanPass t → EachEarly t.rows t.rows
  pass_early can = each_early t.rows can.early

  pub pass_turns : CanPass t → EachMay t t.tree.apps
  pass_turns can = all_placed t.tree.apps (may_all (map attempt_at t.tree.apps) (record { sizes = can.sizes; past = can.past }))
