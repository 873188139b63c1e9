-- The steps that the events of an application have in common: one that has nothing to do, and one that issues the end of the application.
use Rattle.rm_invariant.proofs.Common.{◌≡◌, ◌+◌, suc, ℕ, List, ◌∷◌, true, false, Some, length, refl, Issued, AppId, AttemptId, How, Settings, is_app, is_attempt, record_of, same_app, asks_without, attempts_in, last_end, MainEvent, AppRow, Tables, app_ends, main_popped, next_in, changed, row_of, History, abstract_scene}
use Rattle.std.proofs.Common.{◌==◌}
use Rattle.rm_types.specs.declared.operations.Op.TheVariants as ops
use Rattle.rm_model.specs.Issuing.{end_by}
use Rattle.rm_tables.specs.declared.changes.RowChange.TheVariants as of_app
use Rattle.rm_invariant.specs.apps.View.{View, view, main_view, op_view}
use Rattle.rm_invariant.specs.apps.Invariant.{RowInvariant}
use Rattle.rm_invariant.specs.Step.{AppsInvariant, Step}
use Rattle.rm_invariant.proofs.apps.Effects.{main_taken, op_end}
use Rattle.rm_invariant.proofs.apps.Found.{row_changed}
use Rattle.rm_invariant.proofs.apps.Keeping.{step_own}
use Rattle.rm_invariant.specs.apps.Ends.{none_if}
use Rattle.rm_invariant.proofs.apps.Asked.{asks_gone}
use Rattle.rm_invariant.proofs.apps.Deciding.{MayStop, app_end_lawful}

-- the history after the end of an application is issued: its next attempt asks for nothing more
abbrev pub ending : History → Tables → AppId → History
ending h t id = record h { asks = asks_without (next_in t id) h.asks }

-- what that does to the view of an attempt
abbrev pub ended_view : Tables → AppId → How → List ℕ → AttemptId → View → View
ended_view t id how text q v =
    op_view q (ops.AppEnd id how text) (record v { count = record v.count { asks = none_if (is_attempt (next_in t id) q) v.count.asks } })

module _ (settings : Settings) (h : History) (t : Tables) (k : AppsInvariant settings h t) (id : AppId) (rest : List MainEvent) (e : MainEvent) (front : t.main ≡ e ∷ rest) where
  -- the view of an attempt of the application after its end is issued
  abbrev pub over_view : AttemptId → View → View
  over_view q v =
      record v { count = record v.count { app_ends = suc v.count.app_ends; asks = none_if ((length (attempts_in (record_of t.tree.apps q.app)) + 1) == q.number) v.count.asks } }

  pub app_end_own : (row : AppRow) (before : View → View) → row_of t.rows id ≡ Some row
      → ((q : AttemptId) (v : View) → is_app id q.app ≡ false → main_view q e v ≡ v) → ((q : AttemptId) (v : View) → is_app id q.app ≡ true → main_view q e v ≡ before v)
      → MayStop (view h t (record { app = id; number = 0 })) → (how : How) (text : List ℕ) → end_by settings (abstract_scene h t) id (last_end (abstract_scene h t) id) ≡ Some (how, text)
      → ((q : AttemptId) → is_app id q.app ≡ true → RowInvariant settings q (Some row) (before (view h (main_popped t) q)) → RowInvariant settings q (Some (changed of_app.End row)) (over_view q (view h (main_popped t) q)))
      → Step settings h t (Issued (ops.AppEnd id how text)) (ending h t id) (main_popped (app_ends id how text t))
  app_end_own row before found other mine may how text by own =
      step_own settings h (ending h t id) t (main_popped (app_ends id how text t)) k (Issued (ops.AppEnd id how text)) id (Some row) (changed of_app.End) (view h (main_popped t))
      (λ q v. main_view q e v) (λ q v. ended_view t id how text q v) (λ q v. before v) (λ q v. over_view q v)
      (app_end_lawful h t (record { app = id; number = 0 }) settings k.is_open may how text by) (rw k.recorded refl) k.recorded k.is_open found (λ q. row_changed (changed of_app.End) id q t.rows)
      (λ q. main_taken h t q e rest front) seen other (λ q v is. rw is refl) mine (λ q v same. yours q v same) own
    where
      seen : (q : AttemptId) → view (ending h t id) (main_popped (app_ends id how text t)) q ≡ ended_view t id how text q (view h (main_popped t) q)
      seen q = rw (op_end (ending h t id) (record (main_popped t) { rows = (app_ends id how text t).rows; asks = (app_ends id how text t).asks }) q (ops.AppEnd id how text), asks_gone (next_in t id) q h.asks) refl

      yours : (q : AttemptId) (v : View) → is_app id q.app ≡ true → ended_view t id how text q v ≡ over_view q v
      yours q v same = let is : id ≡ q.app = same_app id q.app same in rw (same, is) refl
