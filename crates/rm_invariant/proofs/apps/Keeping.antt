-- A step changes one application: it keeps what holds of every attempt, where the views of the others stay and its own facts are shown.
use Rattle.rm_invariant.proofs.Common.{◌≡◌, List, Bool, true, false, Option, None, Some, refl, sym, ◌∙◌, subst, Entry, AppId, AttemptId, Settings, is_app, Records, records, same_app, after, Allowed, AllowedIn, AppRow, Tables, row_of, History, abstract_life, abstract_scene, live_state}
use Rattle.std.proofs.Common.{option_map}
use Rattle.rm_invariant.specs.apps.View.{View, view, changed_if}
use Rattle.rm_invariant.specs.apps.Invariant.{RowInvariant}
use Rattle.rm_invariant.specs.Step.{AppsInvariant, Step}

-- rows that stay
pub unchanged : (rows : List (AppId × Option AppRow)) (id q : AppId) → row_of rows q ≡ changed_if (is_app id q) (λ row. row) (row_of rows q)
unchanged rows id q = by (is_app id q) (row_of rows q)
  where
    by : (b : Bool) (o : Option AppRow) → o ≡ changed_if b (λ row. row) o
    by true None = refl
    by true (Some row) = refl
    by false o = refl

-- the rules look at what the tables record
pub in_scene : (settings : Settings) (h : History) (t : Tables) (k : AppsInvariant settings h t) (entry : Entry) → AllowedIn settings (abstract_scene h t) entry → Allowed settings (live_state h t) entry
in_scene settings h t k entry allowed =
    subst (λ (r : Records). AllowedIn settings (record { records = r; awaiting = t.awaiting; life = abstract_life h t }) entry) (sym k.recorded) allowed

-- A step that changes one application. Between what it takes and what it does stands a view, of which both are changes.
module _ (settings : Settings) (h g : History) (t next : Tables) (k : AppsInvariant settings h t) (entry : Entry) (id : AppId) (row : Option AppRow) (change : AppRow → AppRow)
    (middle : AttemptId → View) (takes does before behind : AttemptId → View → View) where
  pub step_own : AllowedIn settings (abstract_scene h t) entry → after (live_state h t) entry ≡ live_state g next → records g.kept ≡ next.tree → next.is_open ≡ true
      → row_of t.rows id ≡ row → ((q : AppId) → row_of next.rows q ≡ changed_if (is_app id q) change (row_of t.rows q))
      → ((q : AttemptId) → view h t q ≡ takes q (middle q)) → ((q : AttemptId) → view g next q ≡ does q (middle q))
      → ((q : AttemptId) (v : View) → is_app id q.app ≡ false → takes q v ≡ v) → ((q : AttemptId) (v : View) → is_app id q.app ≡ false → does q v ≡ v)
      → ((q : AttemptId) (v : View) → is_app id q.app ≡ true → takes q v ≡ before q v) → ((q : AttemptId) (v : View) → is_app id q.app ≡ true → does q v ≡ behind q v)
      → ((q : AttemptId) → is_app id q.app ≡ true → RowInvariant settings q row (before q (middle q)) → RowInvariant settings q (option_map change row) (behind q (middle q)))
      → Step settings h t entry g next
  step_own allowed same recorded open_ found rows was now others_were others_are mine yours own =
      record { lawful = in_scene settings h t k entry allowed; same = same; keeps = record { is_open = open_; recorded = recorded; all = λ q. rw (rows q.app) (by q (is_app id q.app) refl) } }
    where
      by : (q : AttemptId) (b : Bool) → is_app id q.app ≡ b → RowInvariant settings q (changed_if b change (row_of t.rows q.app)) (view g next q)
      by q true e =
          let here : row_of t.rows q.app ≡ row = rw (← same_app id q.app e) found in
          let says : RowInvariant settings q row (view h t q) = rw here at (k.all q) in
          let old : RowInvariant settings q row (before q (middle q)) = subst (λ (v : View). RowInvariant settings q row v) (was q ∙ mine q (middle q) e) says in
          rw here (subst (λ (v : View). RowInvariant settings q (option_map change row) v) (sym (now q ∙ yours q (middle q) e)) (own q e old))
      by q false e =
          let still : view h t q ≡ view g next q = was q ∙ others_were q (middle q) e ∙ sym (now q ∙ others_are q (middle q) e) in
          subst (λ (v : View). RowInvariant settings q (row_of t.rows q.app) v) still (k.all q)
