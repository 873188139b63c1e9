-- The tables of an open life show the judge's scene, as far as clients are answered from it.
use Rattle.rm_invariant.proofs.Common.{◌≡◌, ℕ, ◌≤◌, ◌⊎◌, inl, inr, List, [], ◌∷◌, Bool, true, false, ◌&&◌, ◌||◌, not, Option, None, Some, map, length, refl, sym, ◌∙◌, ap, subst, arith, nat_tests, AppId, AttemptId, AppRecord, AttemptRecord, Settings, is_app, is_nil, is_some_and, last_attempt, record_of, and_false, has_failed, attempts_in, has_app, is_app_op, AppRow, Current, Tables, row_of, AttemptAgrees, CurrentAgrees, PlainRow, bare_row, session_of, plain_row, History, abstract_scene}
use Rattle.std.proofs.Common.{is_some, count_by}
use Rattle.std.specs.Prelude.{◌==◌}
use Rattle.rm_model.specs.Attempts.{has_registered as has_spoken}
use Rattle.rm_model.specs.ClientReplies.{is_running}
use Rattle.rm_model.specs.Facts.{awaits}
use Rattle.rm_refinement.specs.Clients.{RowRefines, RefinesAt, is_saving_app, runs}
use Rattle.rm_master.proofs.Replies.{same_some}
use Rattle.rm_invariant.specs.apps.Invariant.{NeverKnownInvariant, RowInvariant, has_tried}
use Rattle.rm_invariant.specs.apps.Submissions.{Lists}
use Rattle.rm_invariant.specs.apps.View.{one_if, view}
use Rattle.rm_invariant.proofs.apps.Counts.{at_front, none_under, some_passes}
use Rattle.rm_invariant.proofs.apps.Events.{at}
use Rattle.rm_invariant.proofs.masters.Sounding.{numbered_last}
use Rattle.rm_invariant.specs.Core.{CoreInvariant}
use Rattle.rm_invariant.specs.messages.Fits.{FitsCurrent, EachRowFits}
use Rattle.rm_invariant.specs.messages.Clients.{RefinesClientParts, RetiredSame}
use Rattle.rm_invariant.proofs.messages.Known.{is_known_here, is_new, saves, tried}

-- a count of what items show
count_shown : {X Y : Type 0} (p : Y → Bool) (f : X → Y) (xs : List X) → count_by (λ x. p (f x)) xs ≡ count_by p (map f xs)
count_shown p f [] = refl
count_shown p f (x ∷ xs) = at_front (λ y. p (f y)) x xs ∙ ap (one_if (p (f x))) (count_shown p f xs) ∙ sym (at_front p (f x) (map f xs))

-- nothing runs where nothing was tried
none_last : (p : AttemptRecord → Bool) (attempts : List AttemptRecord) (b : Bool) → (b || not (is_nil attempts)) ≡ false → is_some_and p (last_attempt attempts) ≡ false
none_last p [] b e = refl
none_last p (one ∷ more) true e = cc
none_last p (one ∷ more) false e = cc

-- and some attempts have a last one
no_last : (attempts : List AttemptRecord) → last_attempt attempts ≡ None → length attempts ≡ 0
no_last [] e = refl
no_last (one ∷ []) e = cc
no_last (one ∷ next ∷ more) e = absurd (let x = no_last (next ∷ more) e in omega (arith, x))

not_nil : (attempts : List AttemptRecord) (last : AttemptRecord) → last_attempt attempts ≡ Some last → is_nil attempts ≡ false
not_nil [] last e = cc
not_nil (one ∷ more) last e = refl

module _ (settings : Settings) (h : History) (t : Tables) (w : CoreInvariant settings h t) (fit : EachRowFits t) (id : AppId) (row : AppRow) (found : row_of t.rows id ≡ Some row) where
  abbrev recorded : List AttemptRecord
  recorded = attempts_in (record_of t.tree.apps id)

  -- the current attempt registered exactly where the judge has its master
  spoken : (current : Current) → row.current ≡ Some current → has_spoken (abstract_scene h t) (record { app = id; number = current.number }) ≡ current.registered
  spoken current is =
      let attempt : AttemptId = record { app = id; number = current.number } in
      let own : (current.number == current.number) ≡ true = grind (arith, nat_tests) in
      let says : AttemptAgrees h.masters.registered h.granted attempt row row.current = rw found at (w.agrees.masters attempt) in
      let at_ : CurrentAgrees h.masters.registered h.granted attempt row current = rw (is, own) at says in
      sym (same_some row.dialogue (session_of h.masters.registered attempt) at_.0) ∙ sym at_.1

  -- the last recorded attempt has the number of all
  last_id : (found : Option AppRecord) → record_of t.tree.apps id ≡ found → (last : AttemptRecord) → last_attempt (attempts_in found) ≡ Some last → last.id ≡ record { app = id; number = length (attempts_in found) }
  last_id None e last is = cc
  last_id (Some one) e last is = numbered_last id 0 one.attempts last (w.sound id one e).numbered is ∙ ap (λ (n : ℕ). record { app = id; number = n }) (omega arith)

  abbrev goes_on : AttemptRecord → Bool
  goes_on attempt = has_spoken (abstract_scene h t) attempt.id && not (has_failed attempt)

  -- of an application whose current attempt is the last recorded one
  latest : (current : Current) → row.current ≡ Some current → 1 ≤ current.number → current.number ≡ length recorded → (o : Option AttemptRecord) → last_attempt recorded ≡ o
      → is_some_and goes_on o ≡ (current.registered && not (is_some_and has_failed o))
  latest current is least n None e = absurd (let none = no_last recorded e in omega (arith, none))
  latest current is least n (Some last) e =
      let same : last.id ≡ record { app = id; number = current.number } = last_id (record_of t.tree.apps id) refl last e ∙ ap (λ (k : ℕ). record { app = id; number = k }) (sym n) in
      let says : has_spoken (abstract_scene h t) last.id ≡ current.registered = ap (has_spoken (abstract_scene h t)) same ∙ spoken current is in
      ap (λ (b : Bool). b && not (has_failed last)) says

  -- and of one whose current attempt isn't recorded
  waiting : (o : Option AttemptRecord) → (is_nil recorded || is_some_and has_failed o) ≡ true → last_attempt recorded ≡ o → is_some_and goes_on o ≡ false
  waiting None next e = refl
  waiting (Some last) next e =
      let some = not_nil recorded last e in
      let gone : has_failed last ≡ true = rw some at next in
      rw gone (and_false (has_spoken (abstract_scene h t) last.id))

  running : (c : Option Current) → row.current ≡ c → is_running (abstract_scene h t) id ≡ runs row (record_of t.tree.apps id)
  running None is =
      let says : RowInvariant settings (at id) (Some row) (view h t (at id)) = rw found at (w.keeps.all (at id)) in
      let none : has_tried (view h t (at id)) ≡ false = tried settings (at id) (view h t (at id)) row row.state says.1 ∙ ap is_some is in
      rw is (none_last goes_on recorded (has_app h.apps.accepted id) none)
  running (Some current) is = rw is (by (subst (FitsCurrent (record_of t.tree.apps id) row.dialogue) is (fit id row found)))
    where
      by : FitsCurrent (record_of t.tree.apps id) row.dialogue (Some current) → is_some_and goes_on (last_attempt recorded) ≡ (current.registered && not (is_some_and has_failed (last_attempt recorded)))
      by (inl now) = latest current is now.0 now.1 (last_attempt recorded) refl
      by (inr next) =
          let silent = next.2 in
          let attempt : AttemptId = record { app = id; number = current.number } in
          let own : (current.number == current.number) ≡ true = grind (arith, nat_tests) in
          let says : AttemptAgrees h.masters.registered h.granted attempt row row.current = rw found at (w.agrees.masters attempt) in
          let at_ : CurrentAgrees h.masters.registered h.granted attempt row current = rw (is, own) at says in
          let unregistered : current.registered ≡ false = at_.1 ∙ ap is_some silent in
          waiting (last_attempt recorded) next.1 refl ∙ rw unregistered refl

  row_shows : RowRefines (abstract_scene h t) id row
  row_shows =
      let says : RowInvariant settings (at id) (Some row) (view h t (at id)) = rw found at (w.keeps.all (at id)) in
      record {
        known = is_known_here settings h t w.keeps id row found;
        waits = says.0.pending;
        running = running row.current refl;
        accepted = tried settings (at id) (view h t (at id)) row row.state says.1;
        saving = saving (saves settings (at id) (view h t (at id)) row row.state says.1);
      }
    where
      saving : (1 ≤ (view h t (at id)).count.apps) × (is_saving_app row.state ≡ true) ⊎ ((view h t (at id)).count.apps ≡ 0) × (is_saving_app row.state ≡ false) → awaits (abstract_scene h t) (is_app_op id) ≡ is_saving_app row.state
      saving (inl some) = some_passes (is_app_op id) t.awaiting some.0 ∙ sym some.1
      saving (inr none) = none_under (is_app_op id) (is_app_op id) (λ op e. e) t.awaiting none.0 ∙ sym none.1

-- what clients are shown
pub client_shows : (settings : Settings) (h : History) (t : Tables) → CoreInvariant settings h t → RetiredSame h t → Lists h t → EachRowFits t → RefinesClientParts (abstract_scene h t) t
client_shows settings h t w retired lists fit =
    record {
      records = refl;
      stamp = refl;
      given = refl;
      going = sym lists.going;
      retired = λ id. sym (retired id);
      at = λ id. by id (row_of t.rows id) refl;
      live = λ id.
          count_shown (λ (row : PlainRow). is_app row.id.attempt.app id) plain_row h.book ∙ sym (ap (count_by (λ (row : PlainRow). is_app row.id.attempt.app id)) w.agrees.rows)
          ∙ sym (count_shown (λ (row : PlainRow). is_app row.id.attempt.app id) bare_row t.book.rows);
    }
  where
    by : (id : AppId) (o : Option AppRow) → row_of t.rows id ≡ o → RefinesAt (abstract_scene h t) id o
    by id None found =
        let new = is_new settings h t w.keeps id found in
        let says : RowInvariant settings (at id) None (view h t (at id)) = rw found at (w.keeps.all (at id)) in
        let none : (view h t (at id)).count.apps ≡ 0 = (let ops = says.none_await in omega (arith, ops)) in
        record {
          unknown = new.unknown;
          unkept = new.unkept;
          waits = new.waits;
          unissued = none_under (is_app_op id) (is_app_op id) (λ op e. e) t.awaiting none;
          unaccepted = λ fresh. (let never = subst (λ (b : Bool). NeverKnownInvariant b (view h t (at id))) fresh says.never in never.4);
        }
    by id (Some row) found = row_shows settings h t w fit id row found
