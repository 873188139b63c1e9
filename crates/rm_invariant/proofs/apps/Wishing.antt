-- A client's wish to kill an application: the first of a life is noted and is to be followed; a further one changes nothing.
use Rattle.rm_invariant.proofs.Common.{◌≡◌, suc, [], ◌∷◌, ◌++◌, Bool, true, false, Some, refl, sym, ◌∙◌, subst, AppId, AttemptId, Settings, is_app, same_app, AppRow, Tables, changed, row_of, with_row, History}
use Rattle.rm_tables.specs.declared.changes.RowChange.TheVariants as of_app
use Rattle.rm_tables.specs.declared.events.MainEvent.TheVariants as mains
use Rattle.rm_invariant.specs.apps.Invariant.{AttemptsInvariant, RowInvariant}
use Rattle.rm_invariant.specs.apps.View.{View, changed_if, counts, main_view, set_if, view}
use Rattle.rm_invariant.proofs.apps.Effects.{main_end}
use Rattle.rm_invariant.proofs.apps.Found.{has_end, row_changed}
use Rattle.rm_invariant.proofs.apps.AtStates.{kill_again, kill_wished}

module _ (settings : Settings) (h : History) (t : Tables) (all : AttemptsInvariant settings h t) (id : AppId) (row : AppRow) (found : row_of t.rows id ≡ Some row) where
  -- the history after a wish
  abbrev pub wishing : History
  wishing = record h { apps = record h.apps { wishes = h.apps.wishes ++ id ∷ [] } }

  -- the tables after the first one
  abbrev pub wished : Tables
  wished = record t { rows = with_row (changed of_app.Wish) id t.rows; main = t.main ++ mains.AppKill id ∷ [] }

  here : (q : AttemptId) → is_app id q.app ≡ true → row_of t.rows q.app ≡ Some row
  here q e = let same : id ≡ q.app = same_app id q.app e in rw (← same) found

  seen : (q : AttemptId) → view wishing wished q ≡ record (main_view q (mains.AppKill id) (view h t q)) { wished = set_if (is_app id q.app) (view h t q).wished }
  seen q = rw (main_end h t q (mains.AppKill id), has_end h.apps.wishes id q.app) refl

  pub wished_says : row.wish ≡ false → AttemptsInvariant settings wishing wished
  wished_says first = λ q. rw (row_changed (changed of_app.Wish) id q.app t.rows) (by q (is_app id q.app) refl)
    where
      by : (q : AttemptId) (b : Bool) → is_app id q.app ≡ b → RowInvariant settings q (changed_if b (changed of_app.Wish) (row_of t.rows q.app)) (view wishing wished q)
      by q true e =
          let own = here q e in
          let now : view wishing wished q ≡ record (view h t q) { wished = true; count = record (counts h t q) { kills = suc (counts h t q).kills } } = seen q ∙ rw e refl in
          let old : RowInvariant settings q (Some row) (view h t q) = rw own at (all q) in
          rw own (subst (λ (v : View). RowInvariant settings q (Some (changed of_app.Wish row)) v) (sym now) (kill_wished settings q row (view h t q) first old))
      by q false e =
          let now : view wishing wished q ≡ view h t q = seen q ∙ rw e refl in
          subst (λ (v : View). RowInvariant settings q (row_of t.rows q.app) v) (sym now) (all q)

  seen_again : (q : AttemptId) → view wishing t q ≡ record (view h t q) { wished = set_if (is_app id q.app) (view h t q).wished }
  seen_again q = rw (has_end h.apps.wishes id q.app) refl

  pub again_says : row.wish ≡ true → AttemptsInvariant settings wishing t
  again_says more = λ q. by q (is_app id q.app) refl
    where
      by : (q : AttemptId) (b : Bool) → is_app id q.app ≡ b → RowInvariant settings q (row_of t.rows q.app) (view wishing t q)
      by q true e =
          let own = here q e in
          let now : view wishing t q ≡ record (view h t q) { wished = true } = seen_again q ∙ rw e refl in
          let old : RowInvariant settings q (Some row) (view h t q) = rw own at (all q) in
          rw own (subst (λ (v : View). RowInvariant settings q (Some row) v) (sym now) (kill_again settings q row (view h t q) more old))
      by q false e =
          let now : view wishing t q ≡ view h t q = seen_again q ∙ rw e refl in
          subst (λ (v : View). RowInvariant settings q (row_of t.rows q.app) v) (sym now) (all q)
