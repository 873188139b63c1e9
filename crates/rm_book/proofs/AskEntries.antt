-- What entries by attempt give of the lists that contracts see, and of the attempts that wait.
use Rattle.rm_book.proofs.Common.{◌≡◌, Bool, true, false, not, List, [], ◌∷◌, ◌++◌, cond, filter, map, Option, None, Some, IfSome, is_some, unwrap_or, refl, sym, ap, subst, ◌∙◌, list_any, keys_of, lookup, set_value, insert_entry, AskLine, AttemptId, is_attempt, same_attempt, inl, inr, cases_Bool}
use Rattle.std.proofs.Common.{Result, Ok, Err, OnOk, OnErr, IfNone, Bor}
use Rattle.std.specs.Prelude.{IsPermutation}
use Rattle.std.specs.HashMap.{HashMap}
use Rattle.std.specs.Option.{option_copied}
use Rattle.indexmap.specs.Layout.{hash_map}
use Rattle.std.specs.List.{AllByRecursion, IsDistinct}
use Rattle.std.specs.Map.{remove_entry}
use Rattle.std.proofs.lemmas.List.Sorted.{IsPermutation-map}
use Rattle.std.proofs.lemmas.Map.Keys.{IsDistinct-cons, IsDistinct-head, IsDistinct-tail}
use Rattle.std.proofs.lemmas.Map.Lookups.{hash_map_IsPermutation_from_get, map_keys}
use Rattle.std.specs.Cmp.{IsEquivalence}
use Rattle.rm_types.specs.declared.duplicate.NoMemory.{NoMemory}
use Rattle.rm_types.specs.Lists.{is_nil}
use Rattle.rm_types.proofs.IdLemmas.{attempt_back, attempt_itself}
use Rattle.rm_book.specs.AskEntries.{AreKept, AskEntry, entries_in, entry_of, has_some, lines_at}
use Rattle.rm_book.specs.AskLines.{AttemptAsks, lines_in, with_lines}

-- attempts are the same both ways, and each of two that are the same is like the other
pub same_ids : IsEquivalence is_attempt
same_ids = record { refl = attempt_itself; symm = attempt_back; congr = alike }
  where
    alike : (x y z : AttemptId) → is_attempt x y ≡ true → is_attempt x z ≡ is_attempt y z
    alike x y z e = ap (λ (a : AttemptId). is_attempt a z) (same_attempt x y e)

-- two attempts beside a third, where the first or the second is that one
same_beside : (attempt one third : AttemptId) → is_attempt attempt third ≡ true → is_attempt attempt one ≡ is_attempt one third
same_beside attempt one third e = ap (λ (a : AttemptId). is_attempt a one) (same_attempt attempt third e) ∙ attempt_back third one

apart_beside : (attempt one third : AttemptId) → is_attempt attempt third ≡ false → is_attempt one third ≡ true → is_attempt attempt one ≡ false
apart_beside attempt one third e f = ap (is_attempt attempt) (same_attempt one third f) ∙ e

none_either : {A : Type 0} (b : Bool) → ◌≡◌ {A = Option A} None (cond b None None)
none_either true = refl
none_either false = refl

-- an attempt is taken from those that are marked, and each other stays
abbrev pub IsUnmarked : AttemptId → List AttemptId → List AttemptId → Type 0
IsUnmarked attempt waiting marked = (one : AttemptId) → list_any (is_attempt one) marked ≡ cond (is_attempt attempt one) false (list_any (is_attempt one) waiting)

-- the entries after a change of an attempt's lines, where it has an entry
abbrev pub changed_entries : AttemptId → (List AskLine → List AskLine) → List AskEntry → List AskEntry
changed_entries attempt change entries = cond (is_some (lookup (is_attempt attempt) entries)) (insert_entry is_attempt entries attempt (change (lines_at entries attempt))) entries

module _ (attempt : AttemptId) where
  -- an attempt's lines
  pub lines_are : (entries : List AskEntry) → lines_in (entries_in entries) attempt ≡ lines_at entries attempt
  lines_are [] = refl
  lines_are (entry ∷ entries) = elim (cases_Bool (is_attempt attempt entry.0)) [
    | inl e ↦ rw (attempt_back entry.0 attempt, e) refl
    | inr e ↦ rw (attempt_back entry.0 attempt, e) (lines_are entries)
  ]

  -- whether it has an entry
  pub known : (entries : List AskEntry) → list_any (λ entry. is_attempt entry.attempt attempt) (entries_in entries) ≡ is_some (lookup (is_attempt attempt) entries)
  known [] = refl
  known (entry ∷ entries) = elim (cases_Bool (is_attempt attempt entry.0)) [
    | inl e ↦ rw (attempt_back entry.0 attempt, e) refl
    | inr e ↦ rw (attempt_back entry.0 attempt, e) (known entries)
  ]

  -- other lines of it
  pub entered : (lines : List AskLine) (entries : List AskEntry) → entries_in (insert_entry is_attempt entries attempt lines) ≡ with_lines attempt lines (entries_in entries)
  entered lines [] = refl
  entered lines (entry ∷ entries) = elim (cases_Bool (is_attempt attempt entry.0)) [
    | inl e ↦ rw (attempt_back entry.0 attempt, e) refl
    | inr e ↦ rw (attempt_back entry.0 attempt, e) (ap (λ (more : List AttemptAsks). entry_of entry ∷ more) (entered lines entries))
  ]

  -- a key that is no other's
  no_key : (entries : List AskEntry) (key : AttemptId) → is_attempt attempt key ≡ true → AllByRecursion (λ y. is_attempt key y ≡ false) (keys_of entries)
      → AllByRecursion (λ y. is_attempt attempt y ≡ false) (keys_of entries)
  no_key [] key e d = tt
  no_key (entry ∷ entries) key e d = (same_ids.congr attempt key entry.0 e ∙ d.0, no_key entries key e d.1)

  not_found : (entries : List AskEntry) → AllByRecursion (λ y. is_attempt attempt y ≡ false) (keys_of entries) → lookup (is_attempt attempt) entries ≡ None
  not_found [] a = refl
  not_found (entry ∷ entries) a = rw a.0 (not_found entries a.1)

  all_stay : (entries : List AskEntry) → AllByRecursion (λ y. is_attempt attempt y ≡ false) (keys_of entries)
      → filter (λ entry. not (is_attempt entry.attempt attempt)) (entries_in entries) ≡ entries_in entries
  all_stay [] a = refl
  all_stay (entry ∷ entries) a = rw (attempt_back entry.0 attempt, a.0) (ap (λ (more : List AttemptAsks). entry_of entry ∷ more) (all_stay entries a.1))

  -- none of it
  pub gone : (entries : List AskEntry) → IsDistinct is_attempt (keys_of entries)
      → entries_in (remove_entry (is_attempt attempt) entries) ≡ filter (λ entry. not (is_attempt entry.attempt attempt)) (entries_in entries)
  gone [] d = refl
  gone (entry ∷ entries) d = elim (cases_Bool (is_attempt attempt entry.0)) [
    | inl e ↦
        rw (attempt_back entry.0 attempt, e) (sym (all_stay entries (no_key entries entry.0 e (IsDistinct-head is_attempt entry.0 (keys_of entries) d))))
    | inr e ↦ rw (attempt_back entry.0 attempt, e) (ap (λ (more : List AttemptAsks). entry_of entry ∷ more) (gone entries (IsDistinct-tail is_attempt entry.0 (keys_of entries) d)))
  ]

  -- a new entry, and a change of one
  pub last_entered : (lines : List AskLine) (entries : List AskEntry) → lookup (is_attempt attempt) entries ≡ None
      → entries ++ (attempt, lines) ∷ [] ≡ insert_entry is_attempt entries attempt lines
  last_entered lines [] l = refl
  last_entered lines (entry ∷ entries) l = elim (cases_Bool (is_attempt attempt entry.0)) [
    | inl e ↦ absurd (let l' = rw e at l in cc)
    | inr e ↦ let l' = rw e at l in rw e (ap (λ (more : List AskEntry). entry ∷ more) (last_entered lines entries l'))
  ]

  pub set_entered : (lines own : List AskLine) (entries : List AskEntry) → lookup (is_attempt attempt) entries ≡ Some own
      → set_value (is_attempt attempt) entries lines ≡ insert_entry is_attempt entries attempt lines
  set_entered lines own [] l = cc
  set_entered lines own (entry ∷ entries) l = elim (cases_Bool (is_attempt attempt entry.0)) [
    | inl e ↦ rw e refl
    | inr e ↦ let l' = rw e at l in rw e (ap (λ (more : List AskEntry). entry ∷ more) (set_entered lines own entries l'))
  ]

  pub same_entered : (own : List AskLine) (entries : List AskEntry) → lookup (is_attempt attempt) entries ≡ Some own → set_value (is_attempt attempt) entries own ≡ entries
  same_entered own [] l = refl
  same_entered own (entry ∷ entries) l = elim (cases_Bool (is_attempt attempt entry.0)) [
    | inl e ↦ let is : entry.1 ≡ own = (let l' = rw e at l in cc) in rw e (ap (λ (v : List AskLine). (entry.0, v) ∷ entries) (sym is))
    | inr e ↦ let l' = rw e at l in rw e (ap (λ (more : List AskEntry). entry ∷ more) (same_entered own entries l'))
  ]

  -- the entry of another in front changes nothing of what is found behind a change
  found_behind : (v : Option (List AskLine)) (one : AttemptId) (entry : AskEntry) (changed entries : List AskEntry) → is_attempt attempt entry.0 ≡ false
      → lookup (is_attempt one) changed ≡ cond (is_attempt attempt one) v (lookup (is_attempt one) entries)
      → lookup (is_attempt one) (entry ∷ changed) ≡ cond (is_attempt attempt one) v (lookup (is_attempt one) (entry ∷ entries))
  found_behind v one entry changed entries e rest = elim (cases_Bool (is_attempt one entry.0)) [
    | inl f ↦ rw (f, apart_beside attempt one entry.0 e f) refl
    | inr f ↦ rw f rest
  ]

  -- what is found then
  pub found_entered : (lines : List AskLine) (one : AttemptId) (entries : List AskEntry)
      → lookup (is_attempt one) (insert_entry is_attempt entries attempt lines) ≡ cond (is_attempt attempt one) (Some lines) (lookup (is_attempt one) entries)
  found_entered lines one [] = rw (attempt_back attempt one) refl
  found_entered lines one (entry ∷ entries) = elim (cases_Bool (is_attempt attempt entry.0)) [
    | inl e ↦ rw (e, same_beside attempt one entry.0 e) (first (is_attempt one entry.0))
    | inr e ↦ rw e (found_behind (Some lines) one entry (insert_entry is_attempt entries attempt lines) entries e (found_entered lines one entries))
  ]
    where
      first : (b : Bool) → cond b (Some lines) (lookup (is_attempt one) entries) ≡ cond b (Some lines) (cond b (Some entry.1) (lookup (is_attempt one) entries))
      first true = refl
      first false = refl

  -- no two keys are the same then
  all_entered : (key : AttemptId) (lines : List AskLine) (entries : List AskEntry) → is_attempt key attempt ≡ false → AllByRecursion (λ y. is_attempt key y ≡ false) (keys_of entries)
      → AllByRecursion (λ y. is_attempt key y ≡ false) (keys_of (insert_entry is_attempt entries attempt lines))
  all_entered key lines [] n a = (n, tt)
  all_entered key lines (entry ∷ entries) n a = elim (cases_Bool (is_attempt attempt entry.0)) [
    | inl e ↦ rw e a
    | inr e ↦ rw e (a.0, all_entered key lines entries n a.1)
  ]

  unique_entered : (lines : List AskLine) (entries : List AskEntry) → IsDistinct is_attempt (keys_of entries) → IsDistinct is_attempt (keys_of (insert_entry is_attempt entries attempt lines))
  unique_entered lines [] d = IsDistinct-cons is_attempt attempt [] tt d
  unique_entered lines (entry ∷ entries) d = elim (cases_Bool (is_attempt attempt entry.0)) [
    | inl e ↦ rw e d
    | inr e ↦
        let other : is_attempt entry.0 attempt ≡ false = attempt_back entry.0 attempt ∙ e in
        rw e
        (IsDistinct-cons is_attempt entry.0 (keys_of (insert_entry is_attempt entries attempt lines))
        (all_entered entry.0 lines entries other (IsDistinct-head is_attempt entry.0 (keys_of entries) d)) (unique_entered lines entries (IsDistinct-tail is_attempt entry.0 (keys_of entries) d)))
  ]

  all_removed : (key : AttemptId) (entries : List AskEntry) → AllByRecursion (λ y. is_attempt key y ≡ false) (keys_of entries)
      → AllByRecursion (λ y. is_attempt key y ≡ false) (keys_of (remove_entry (is_attempt attempt) entries))
  all_removed key [] a = tt
  all_removed key (entry ∷ entries) a = elim (cases_Bool (is_attempt attempt entry.0)) [
    | inl e ↦ rw e a.1
    | inr e ↦ rw e (a.0, all_removed key entries a.1)
  ]

  unique_removed : (entries : List AskEntry) → IsDistinct is_attempt (keys_of entries) → IsDistinct is_attempt (keys_of (remove_entry (is_attempt attempt) entries))
  unique_removed [] d = d
  unique_removed (entry ∷ entries) d = elim (cases_Bool (is_attempt attempt entry.0)) [
    | inl e ↦ rw e (IsDistinct-tail is_attempt entry.0 (keys_of entries) d)
    | inr e ↦
        rw e
        (IsDistinct-cons is_attempt entry.0 (keys_of (remove_entry (is_attempt attempt) entries))
        (all_removed entry.0 entries (IsDistinct-head is_attempt entry.0 (keys_of entries) d)) (unique_removed entries (IsDistinct-tail is_attempt entry.0 (keys_of entries) d)))
  ]

  -- what is found after a removal
  found_removed : (one : AttemptId) (entries : List AskEntry) → IsDistinct is_attempt (keys_of entries)
      → lookup (is_attempt one) (remove_entry (is_attempt attempt) entries) ≡ cond (is_attempt attempt one) None (lookup (is_attempt one) entries)
  found_removed one [] d = none_either (is_attempt attempt one)
  found_removed one (entry ∷ entries) d = elim (cases_Bool (is_attempt attempt entry.0)) [
    | inl e ↦ rw (e, same_beside attempt one entry.0 e) (first e (is_attempt one entry.0) refl)
    | inr e ↦ rw e (found_behind None one entry (remove_entry (is_attempt attempt) entries) entries e (found_removed one entries (IsDistinct-tail is_attempt entry.0 (keys_of entries) d)))
  ]
    where
      first : is_attempt attempt entry.0 ≡ true → (b : Bool) → is_attempt one entry.0 ≡ b → lookup (is_attempt one) entries ≡ cond b None (cond b (Some entry.1) (lookup (is_attempt one) entries))
      first e true f =
          subst (λ (a : AttemptId). lookup (is_attempt a) entries ≡ None) (same_attempt attempt one (same_beside attempt one entry.0 e ∙ f))
          (not_found entries (no_key entries entry.0 e (IsDistinct-head is_attempt entry.0 (keys_of entries) d)))
      first e false f = refl

  -- those that wait after a change
  pub kept_entered : (lines : List AskLine) (entries new : List AskEntry) (waiting marked : List AttemptId) → AreKept entries waiting → new ≡ insert_entry is_attempt entries attempt lines
      → ((one : AttemptId) → list_any (is_attempt one) marked ≡ cond (is_attempt attempt one) (has_some (lookup (is_attempt attempt) new)) (list_any (is_attempt one) waiting)) → AreKept new marked
  kept_entered lines entries new waiting marked k e m = record {
    unique = subst (λ (es : List AskEntry). IsDistinct is_attempt (keys_of es)) (sym e) (unique_entered lines entries k.unique);
    waits = λ one. m one ∙ by one (is_attempt attempt one) refl;
  }
    where
      by : (one : AttemptId) (b : Bool) → is_attempt attempt one ≡ b
          → cond (is_attempt attempt one) (has_some (lookup (is_attempt attempt) new)) (list_any (is_attempt one) waiting) ≡ has_some (lookup (is_attempt one) new)
      by one true f = rw f (ap (λ (a : AttemptId). has_some (lookup (is_attempt a) new)) (same_attempt attempt one f))
      by one false f =
          let same : lookup (is_attempt one) new ≡ lookup (is_attempt one) entries =
          ap (λ (es : List AskEntry). lookup (is_attempt one) es) e ∙ found_entered lines one entries ∙ ap (λ (b : Bool). cond b (Some lines) (lookup (is_attempt one) entries)) f in
          rw f (k.waits one ∙ ap has_some (sym same))

  pub kept_removed : (entries new : List AskEntry) (waiting marked : List AttemptId) → AreKept entries waiting → new ≡ remove_entry (is_attempt attempt) entries → IsUnmarked attempt waiting marked → AreKept new marked
  kept_removed entries new waiting marked k e m = record {
    unique = subst (λ (es : List AskEntry). IsDistinct is_attempt (keys_of es)) (sym e) (unique_removed entries k.unique);
    waits = λ one. m one ∙ by one (is_attempt attempt one) refl;
  }
    where
      found : (one : AttemptId) (b : Bool) → is_attempt attempt one ≡ b → lookup (is_attempt one) new ≡ cond b None (lookup (is_attempt one) entries)
      found one b f = ap (λ (es : List AskEntry). lookup (is_attempt one) es) e ∙ found_removed one entries k.unique ∙ ap (λ (c : Bool). cond c None (lookup (is_attempt one) entries)) f

      by : (one : AttemptId) (b : Bool) → is_attempt attempt one ≡ b → cond (is_attempt attempt one) false (list_any (is_attempt one) waiting) ≡ has_some (lookup (is_attempt one) new)
      by one true f = rw f (ap has_some (sym (found one true f)))
      by one false f = rw f (k.waits one ∙ ap has_some (sym (found one false f)))

  -- an attempt that was not known is known of no change
  pub kept_unknown : (entries : List AskEntry) (waiting marked : List AttemptId) → AreKept entries waiting → lookup (is_attempt attempt) entries ≡ None → IsUnmarked attempt waiting marked → AreKept entries marked
  kept_unknown entries waiting marked k l m = record { unique = k.unique; waits = λ one. m one ∙ by one (is_attempt attempt one) refl }
    where
      by : (one : AttemptId) (b : Bool) → is_attempt attempt one ≡ b → cond (is_attempt attempt one) false (list_any (is_attempt one) waiting) ≡ has_some (lookup (is_attempt one) entries)
      by one true f = rw f (ap has_some (sym (subst (λ (a : AttemptId). lookup (is_attempt a) entries ≡ None) (same_attempt attempt one f) l)))
      by one false f = rw f (k.waits one)

  -- an attempt that waits after a change waited before
  pub kept_waiting : (lines own : List AskLine) (entries new : List AskEntry) (waiting : List AttemptId) → AreKept entries waiting → new ≡ insert_entry is_attempt entries attempt lines
      → lookup (is_attempt attempt) entries ≡ Some own → is_nil own ≡ false → is_nil lines ≡ false → AreKept new waiting
  kept_waiting lines own entries new waiting k e l was is =
      kept_entered lines entries new waiting waiting k e (λ one. by one (is_attempt attempt one) refl)
    where
      some : (lines : List AskLine) → is_nil lines ≡ false → has_some (Some lines) ≡ true
      some [] n = cc
      some (line ∷ lines) n = refl

      now : lookup (is_attempt attempt) new ≡ Some lines
      now = ap (λ (es : List AskEntry). lookup (is_attempt attempt) es) e ∙ found_entered lines attempt entries ∙ ap (λ (b : Bool). cond b (Some lines) (lookup (is_attempt attempt) entries)) (attempt_itself attempt)

      by : (one : AttemptId) (b : Bool) → is_attempt attempt one ≡ b
          → list_any (is_attempt one) waiting ≡ cond (is_attempt attempt one) (has_some (lookup (is_attempt attempt) new)) (list_any (is_attempt one) waiting)
      by one true f =
          rw f
          (k.waits one ∙ ap (λ (a : AttemptId). has_some (lookup (is_attempt a) entries)) (sym (same_attempt attempt one f)) ∙ ap has_some l ∙ some own was
          ∙ sym (ap has_some now ∙ some lines is))
      by one false f = rw f refl

-- whether something was found is seen of what was lent of it
pub lent : {A : Type 0} (o : Option (Bor A)) → is_some (option_copied o) ≡ is_some o
lent None = refl
lent (Some a) = refl

pub nothing : {A : Type 0} (o : Option A) → is_some o ≡ false → o ≡ None
nothing None e = refl
nothing (Some a) e = cc

-- after a change that was handed on to what keeps the entries
module _ (attempt : AttemptId) (change : List AskLine → List AskLine) (old new : List AskEntry) where
  -- what came of the attempt's lines, where it has an entry, in which other lines stand then
  abbrev pub IsHandedOn : {R : Type 0} → Option R → (List AskLine → R → List AskLine → Type 0) → Type 0
  IsHandedOn r P = (own : List AskLine) → lookup (is_attempt attempt) old ≡ Some own → IfSome r (λ done. (x : List AskLine) × P own done x × (new ≡ set_value (is_attempt attempt) old x))

  pub set_tried : (r : Option (Result (Unit {0}) NoMemory)) (done : Result (Unit {0}) NoMemory) (P : List AskLine → Result (Unit {0}) NoMemory → List AskLine → Type 0)
      → r ≡ Some done → IsHandedOn r P → is_some r ≡ is_some (lookup (is_attempt attempt) old) → ((own x : List AskLine) (done : Result (Unit {0}) NoMemory) → P own done x → OnOk done (x ≡ change own) × OnErr done (x ≡ own))
      → OnOk done (new ≡ insert_entry is_attempt old attempt (change (lines_at old attempt))) × OnErr done (new ≡ old)
  set_tried r done P is there some means = by (lookup (is_attempt attempt) old) refl
    where
      made : (done : Result (Unit {0}) NoMemory) (own x : List AskLine) → lookup (is_attempt attempt) old ≡ Some own → new ≡ set_value (is_attempt attempt) old x
          → OnOk done (x ≡ change own) → OnErr done (x ≡ own) → OnOk done (new ≡ insert_entry is_attempt old attempt (change (lines_at old attempt))) × OnErr done (new ≡ old)
      made (Ok done) own x l e ok err =
          let at : lines_at old attempt ≡ own = ap (λ (v : Option (List AskLine)). unwrap_or v []) l in
          (e ∙ ap (set_value (is_attempt attempt) old) (ok ∙ ap change (sym at)) ∙ set_entered attempt (change (lines_at old attempt)) own old l, tt)
      made (Err refused) own x l e ok err = (tt, e ∙ ap (set_value (is_attempt attempt) old) err ∙ same_entered attempt own old l)

      by : (v : Option (List AskLine)) → lookup (is_attempt attempt) old ≡ v → OnOk done (new ≡ insert_entry is_attempt old attempt (change (lines_at old attempt))) × OnErr done (new ≡ old)
      by None l = absurd (let s = rw (is, l) at some in cc)
      by (Some own) l =
          let t = rw is at (there own l) in
          let m = means own t.0 done t.1 in
          made done own t.0 l t.2 m.0 m.1

  pub changed_by : {R : Type 0} (r : Option R) (P : List AskLine → R → List AskLine → Type 0) → IsHandedOn r P
      → is_some r ≡ is_some (lookup (is_attempt attempt) old) → IfNone r (new ≡ old) → ((own x : List AskLine) (done : R) → P own done x → x ≡ change own) → new ≡ changed_entries attempt change old
  changed_by {R} r P there some none means = by (lookup (is_attempt attempt) old) r refl some there none
    where
      by : (v : Option (List AskLine)) (r : Option R) → lookup (is_attempt attempt) old ≡ v → is_some r ≡ is_some (lookup (is_attempt attempt) old) → IsHandedOn r P → IfNone r (new ≡ old) → new ≡ changed_entries attempt change old
      by None None l some there none = rw l none
      by None (Some done) l some there none = absurd (let s = rw l at some in cc)
      by (Some own) None l some there none = absurd (let s = rw l at some in cc)
      by (Some own) (Some done) l some there none =
          let t = there own l in
          let at : lines_at old attempt ≡ own = ap (λ (v : Option (List AskLine)). unwrap_or v []) l in
          let is : is_some (lookup (is_attempt attempt) old) ≡ true = ap is_some l in
          t.2 ∙ ap (set_value (is_attempt attempt) old) (means own t.0 done t.1 ∙ ap change (sym at)) ∙ set_entered attempt (change (lines_at old attempt)) own old l
          ∙ sym (ap (λ (b : Bool). cond b (insert_entry is_attempt old attempt (change (lines_at old attempt))) old) is)

  -- what was found on the way
  pub answered_by : (test : List AskLine → Bool) (r : Option Bool) (P : List AskLine → Bool → List AskLine → Type 0) → IsHandedOn r P
      → is_some r ≡ is_some (lookup (is_attempt attempt) old) → ((own x : List AskLine) (done : Bool) → P own done x → done ≡ test own) → test [] ≡ false
      → unwrap_or r false ≡ test (lines_at old attempt)
  answered_by test r P there some means empty = by (lookup (is_attempt attempt) old) r refl some there
    where
      by : (v : Option (List AskLine)) (r : Option Bool) → lookup (is_attempt attempt) old ≡ v → is_some r ≡ is_some (lookup (is_attempt attempt) old) → IsHandedOn r P → unwrap_or r false ≡ test (lines_at old attempt)
      by None None l some there = rw l (sym empty)
      by None (Some done) l some there = absurd (let s = rw l at some in cc)
      by (Some own) None l some there = absurd (let s = rw l at some in cc)
      by (Some own) (Some done) l some there =
          let t = there own l in
          let at : lines_at old attempt ≡ own = ap (λ (v : Option (List AskLine)). unwrap_or v []) l in
          means own t.0 done t.1 ∙ ap test (sym at)

-- what contracts see after a grant
pub granted_entries : (attempt : AttemptId) (change : List AskLine → List AskLine) (entries new : List AskEntry) → new ≡ changed_entries attempt change entries
    → entries_in new ≡ cond (list_any (λ entry. is_attempt entry.attempt attempt) (entries_in entries)) (with_lines attempt (change (lines_in (entries_in entries) attempt)) (entries_in entries)) (entries_in entries)
granted_entries attempt change entries new e =
    ap entries_in e ∙ by (is_some (lookup (is_attempt attempt) entries))
    ∙ ap (λ (b : Bool). cond b (with_lines attempt (change (lines_in (entries_in entries) attempt)) (entries_in entries)) (entries_in entries)) (sym (known attempt entries))
  where
    by : (b : Bool) → entries_in (cond b (insert_entry is_attempt entries attempt (change (lines_at entries attempt))) entries)
        ≡ cond b (with_lines attempt (change (lines_in (entries_in entries) attempt)) (entries_in entries)) (entries_in entries)
    by true =
        entered attempt (change (lines_at entries attempt)) entries
        ∙ ap (λ (lines : List AskLine). with_lines attempt (change lines) (entries_in entries)) (sym (lines_are attempt entries))
    by false = refl

-- those that wait after a grant, where one that waited may do so no more
module _ (attempt : AttemptId) (change : List AskLine → List AskLine) (entries new : List AskEntry) (waiting : List AttemptId) where
  found_changed : (own : List AskLine) → lookup (is_attempt attempt) entries ≡ Some own → new ≡ changed_entries attempt change entries → new ≡ insert_entry is_attempt entries attempt (change own)
  found_changed own l e =
      let at : lines_at entries attempt ≡ own = ap (λ (v : Option (List AskLine)). unwrap_or v []) l in
      let is : is_some (lookup (is_attempt attempt) entries) ≡ true = ap is_some l in
      e ∙ ap (λ (b : Bool). cond b (insert_entry is_attempt entries attempt (change (lines_at entries attempt))) entries) is ∙ ap (λ (v : List AskLine). insert_entry is_attempt entries attempt (change v)) at

  not_changed : lookup (is_attempt attempt) entries ≡ None → new ≡ changed_entries attempt change entries → new ≡ entries
  not_changed l e =
      let is : is_some (lookup (is_attempt attempt) entries) ≡ false = ap is_some l in
      e ∙ ap (λ (b : Bool). cond b (insert_entry is_attempt entries attempt (change (lines_at entries attempt))) entries) is

  pub kept_granted : (marked : List AttemptId) → AreKept entries waiting → new ≡ changed_entries attempt change entries → has_some (lookup (is_attempt attempt) new) ≡ false → IsUnmarked attempt waiting marked → AreKept new marked
  kept_granted marked k e none m = by (lookup (is_attempt attempt) entries) refl
    where
      by : (v : Option (List AskLine)) → lookup (is_attempt attempt) entries ≡ v → AreKept new marked
      by None l = subst (λ (es : List AskEntry). AreKept es marked) (sym (not_changed l e)) (kept_unknown attempt entries waiting marked k l m)
      by (Some own) l =
          kept_entered attempt (change own) entries new waiting marked k (found_changed own l e)
          (λ one. m one ∙ ap (λ (b : Bool). cond (is_attempt attempt one) b (list_any (is_attempt one) waiting)) (sym none))

  pub kept_still : change [] ≡ [] → AreKept entries waiting → new ≡ changed_entries attempt change entries → has_some (lookup (is_attempt attempt) new) ≡ true → AreKept new waiting
  kept_still empty k e some = by (lookup (is_attempt attempt) entries) refl
    where
      some_left : (lines : List AskLine) → has_some (Some lines) ≡ true → is_nil lines ≡ false
      some_left [] h = cc
      some_left (line ∷ lines) h = refl

      some_before : (own : List AskLine) → is_nil (change own) ≡ false → is_nil own ≡ false
      some_before [] h = absurd (let h' = rw empty at h in cc)
      some_before (line ∷ lines) h = refl

      by : (v : Option (List AskLine)) → lookup (is_attempt attempt) entries ≡ v → AreKept new waiting
      by None l = subst (λ (es : List AskEntry). AreKept es waiting) (sym (not_changed l e)) k
      by (Some own) l =
          let is = found_changed own l e in
          let now : lookup (is_attempt attempt) new ≡ Some (change own) =
          ap (λ (es : List AskEntry). lookup (is_attempt attempt) es) is ∙ found_entered attempt (change own) attempt entries
          ∙ ap (λ (b : Bool). cond b (Some (change own)) (lookup (is_attempt attempt) entries)) (attempt_itself attempt) in
          let left = some_left (change own) (sym (ap has_some now) ∙ some) in
          kept_waiting attempt (change own) own entries new waiting k is l (some_before own left) left

-- the attempts that wait are those that have lines

-- the attempts of entries that have lines
abbrev those_with : List AskEntry → List AttemptId
those_with [] = []
those_with (entry ∷ entries) = cond (is_nil entry.1) (those_with entries) (entry.0 ∷ those_with entries)

-- the same as contracts see them
seen_with : (entries : List AskEntry) → those_with entries ≡ map (λ entry. entry.attempt) (filter (λ entry. not (is_nil entry.lines)) (entries_in entries))
seen_with [] = refl
seen_with (entry ∷ entries) = elim (cases_Bool (is_nil entry.1)) [
  | inl e ↦ rw e (seen_with entries)
  | inr e ↦ rw e (ap (λ (more : List AttemptId). entry.0 ∷ more) (seen_with entries))
]

-- keys as entries of nothing
abbrev pair : AttemptId → AttemptId × Unit {0}
pair key = (key, tt)

keys_paired : (keys : List AttemptId) → keys_of (map pair keys) ≡ keys
keys_paired [] = refl
keys_paired (key ∷ keys) = ap (λ (more : List AttemptId). key ∷ more) (keys_paired keys)

mapped_paired : (keys : List AttemptId) → keys_of (map_keys (λ key. key) (map pair keys)) ≡ keys
mapped_paired [] = refl
mapped_paired (key ∷ keys) = ap (λ (more : List AttemptId). key ∷ more) (mapped_paired keys)

found_paired : (one : AttemptId) (keys : List AttemptId) → lookup (is_attempt one) (map pair keys) ≡ cond (list_any (is_attempt one) keys) (Some tt) None
found_paired one [] = refl
found_paired one (key ∷ keys) = elim (cases_Bool (is_attempt one key)) [
  | inl e ↦ rw e refl
  | inr e ↦ rw e (found_paired one keys)
]

all_with : (key : AttemptId) (entries : List AskEntry) → AllByRecursion (λ y. is_attempt key y ≡ false) (keys_of entries) → AllByRecursion (λ y. is_attempt key y ≡ false) (those_with entries)
all_with key [] a = tt
all_with key (entry ∷ entries) a = elim (cases_Bool (is_nil entry.1)) [
  | inl e ↦ rw e (all_with key entries a.1)
  | inr e ↦ rw e (a.0, all_with key entries a.1)
]

unique_with : (entries : List AskEntry) → IsDistinct is_attempt (keys_of entries) → IsDistinct is_attempt (those_with entries)
unique_with [] d = d
unique_with (entry ∷ entries) d = elim (cases_Bool (is_nil entry.1)) [
  | inl e ↦ rw e (unique_with entries (IsDistinct-tail is_attempt entry.0 (keys_of entries) d))
  | inr e ↦ rw e (IsDistinct-cons is_attempt entry.0 (those_with entries) (all_with entry.0 entries (IsDistinct-head is_attempt entry.0 (keys_of entries) d)) (unique_with entries (IsDistinct-tail is_attempt entry.0 (keys_of entries) d)))
]

none_among : (one : AttemptId) (keys : List AttemptId) → AllByRecursion (λ y. is_attempt one y ≡ false) keys → list_any (is_attempt one) keys ≡ false
none_among one [] a = refl
none_among one (key ∷ keys) a = rw a.0 (none_among one keys a.1)

-- one is among them where it has lines
among_with : (one : AttemptId) (entries : List AskEntry) → IsDistinct is_attempt (keys_of entries) → list_any (is_attempt one) (those_with entries) ≡ has_some (lookup (is_attempt one) entries)
among_with one [] d = refl
among_with one ((key, lines) ∷ entries) d = by (is_attempt one key) lines refl (among_with one entries (IsDistinct-tail is_attempt key (keys_of entries) d))
  where
    by : (b : Bool) (lines : List AskLine) → is_attempt one key ≡ b → list_any (is_attempt one) (those_with entries) ≡ has_some (lookup (is_attempt one) entries)
        → list_any (is_attempt one) (those_with ((key, lines) ∷ entries)) ≡ has_some (lookup (is_attempt one) ((key, lines) ∷ entries))
    by true [] e rest = rw e (none_among one (those_with entries) (all_with one entries (no_key one entries key e (IsDistinct-head is_attempt key (keys_of entries) d))))
    by true (line ∷ lines) e rest = rw e refl
    by false [] e rest = rw e rest
    by false (line ∷ lines) e rest = rw e rest

pub are_waiting : (entries : List AskEntry) (waiting : List AttemptId) → AreKept entries waiting → IsDistinct is_attempt waiting
    → IsPermutation (map (λ entry. entry.attempt) (filter (λ entry. not (is_nil entry.lines)) (entries_in entries))) waiting
are_waiting entries waiting k d =
    let with_lines_map : HashMap AttemptId (Unit {0}) (Unit {0}) = hash_map (map pair (those_with entries)) tt 0 in
    let waiting_map : HashMap AttemptId (Unit {0}) (Unit {0}) = hash_map (map pair waiting) tt 0 in
    let same : (q : AttemptId) → lookup (is_attempt q) (map pair (those_with entries)) ≡ lookup (is_attempt q) (map pair waiting) = λ q.
    found_paired q (those_with entries) ∙ ap (λ (b : Bool). cond b (Some tt) None) (among_with q entries k.unique ∙ sym (k.waits q)) ∙ sym (found_paired q waiting) in
    let moved = hash_map_IsPermutation_from_get same_ids with_lines_map waiting_map (subst (IsDistinct is_attempt) (sym (keys_paired (those_with entries))) (unique_with entries k.unique))
    (subst (IsDistinct is_attempt) (sym (keys_paired waiting)) d) same (λ (key : AttemptId). key) same_attempt in
    let keys : IsPermutation (keys_of (map_keys (λ key. key) (map pair (those_with entries)))) (keys_of (map_keys (λ key. key) (map pair waiting))) =
    IsPermutation-map (λ (e : AttemptId × Unit {0}). e.0) _ _ moved in
    subst (λ (l : List AttemptId). IsPermutation l waiting) (mapped_paired (those_with entries) ∙ seen_with entries)
    (subst (λ (l : List AttemptId). IsPermutation (keys_of (map_keys (λ key. key) (map pair (those_with entries)))) l) (mapped_paired waiting) keys)
