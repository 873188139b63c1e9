-- The submissions of a life are issued in their order: the one whose AppStart is the first event may be issued.
use Rattle.rm_invariant.proofs.Common.{◌≡◌, ◌≤◌, suc, List, [], ◌∷◌, false, ◌||◌, Option, None, Some, refl, sym, ◌∙◌, ap, subst, arith, flat_map, list_any, AppId, Op, Submission, Settings, is_app, record_of, app_itself, has_app, is_app_op, AppState, MainEvent, AppRow, Tables, row_of, History, abstract_scene}
use Rattle.std.proofs.Common.{count_by}
use Rattle.rm_types.specs.declared.operations.Op.TheVariants as ops
use Rattle.rm_states.specs.declared.app.states.AppState.TheVariants as apps
use Rattle.rm_tables.specs.declared.events.MainEvent.TheVariants as mains
use Rattle.rm_invariant.specs.apps.Invariant.{RowInvariant, StateInvariant}
use Rattle.rm_invariant.specs.Step.{AppsInvariant}
use Rattle.rm_invariant.specs.apps.Submissions.{Lists, saving, starting}
use Rattle.rm_invariant.specs.apps.View.{is_start, one_if, view}
use Rattle.rm_invariant.proofs.apps.Counts.{at_front, none_under}
use Rattle.rm_invariant.proofs.apps.Events.{at}
use Rattle.rm_invariant.proofs.apps.Lists.{IsFirst, first_found, id_count}
use Rattle.rm_invariant.specs.events.MainFacts.{StartsLawful}

-- an App awaits of each application that is among those of the awaiting operations
pub saving_any : (ops : List Op) (id : AppId) → has_app (flat_map saving ops) id ≡ list_any (is_app_op id) ops
saving_any [] id = refl
saving_any (ops.App one submission ∷ more) id = ap (λ b. is_app one id || b) (saving_any more id)
saving_any (ops.Epoch next stamp ∷ more) id = saving_any more id
saving_any (ops.Attempt one master node ∷ more) id = saving_any more id
saving_any (ops.AttemptEnd one how text ∷ more) id = saving_any more id
saving_any (ops.AppEnd one how text ∷ more) id = saving_any more id
saving_any (ops.Remove one ∷ more) id = saving_any more id

-- how often an application stands among them, and among those that events are to issue
pub saving_number : (q : AppId) (ops : List Op) → id_count q (flat_map saving ops) ≡ count_by (is_app_op q) ops
saving_number q [] = refl
saving_number q (ops.App one submission ∷ more) =
    at_front (λ (id : AppId). is_app id q) one (flat_map saving more) ∙ ap (one_if (is_app one q)) (saving_number q more) ∙ sym (at_front (is_app_op q) (ops.App one submission) more)
saving_number q (ops.Epoch next stamp ∷ more) = saving_number q more ∙ sym (at_front (is_app_op q) (ops.Epoch next stamp) more)
saving_number q (ops.Attempt one master node ∷ more) = saving_number q more ∙ sym (at_front (is_app_op q) (ops.Attempt one master node) more)
saving_number q (ops.AttemptEnd one how text ∷ more) = saving_number q more ∙ sym (at_front (is_app_op q) (ops.AttemptEnd one how text) more)
saving_number q (ops.AppEnd one how text ∷ more) = saving_number q more ∙ sym (at_front (is_app_op q) (ops.AppEnd one how text) more)
saving_number q (ops.Remove one ∷ more) = saving_number q more ∙ sym (at_front (is_app_op q) (ops.Remove one) more)

pub starting_number : (q : AppId) (main : List MainEvent) → id_count q (flat_map starting main) ≡ count_by (is_start q) main
starting_number q [] = refl
starting_number q (mains.AppStart one ∷ main) =
    at_front (λ (id : AppId). is_app id q) one (flat_map starting main) ∙ ap (one_if (is_app one q)) (starting_number q main) ∙ sym (at_front (is_start q) (mains.AppStart one) main)
starting_number q (mains.EpochStart ∷ main) = starting_number q main ∙ sym (at_front (is_start q) mains.EpochStart main)
starting_number q (mains.AppSaved one ∷ main) = starting_number q main ∙ sym (at_front (is_start q) (mains.AppSaved one) main)
starting_number q (mains.AppAccepted one ∷ main) = starting_number q main ∙ sym (at_front (is_start q) (mains.AppAccepted one) main)
starting_number q (mains.AppKill one ∷ main) = starting_number q main ∙ sym (at_front (is_start q) (mains.AppKill one) main)
starting_number q (mains.MasterGranted one ∷ main) = starting_number q main ∙ sym (at_front (is_start q) (mains.MasterGranted one) main)
starting_number q (mains.AttemptSaved one ∷ main) = starting_number q main ∙ sym (at_front (is_start q) (mains.AttemptSaved one) main)
starting_number q (mains.MasterLost one ∷ main) = starting_number q main ∙ sym (at_front (is_start q) (mains.MasterLost one) main)
starting_number q (mains.AttemptExpired one ∷ main) = starting_number q main ∙ sym (at_front (is_start q) (mains.AttemptExpired one) main)
starting_number q (mains.AttemptFinish one ∷ main) = starting_number q main ∙ sym (at_front (is_start q) (mains.AttemptFinish one) main)
starting_number q (mains.AttemptDone one ∷ main) = starting_number q main ∙ sym (at_front (is_start q) (mains.AttemptDone one) main)
starting_number q (mains.Retire ∷ main) = starting_number q main ∙ sym (at_front (is_start q) mains.Retire main)

module _ (settings : Settings) (h : History) (t : Tables) (k : AppsInvariant settings h t) (id : AppId) (rest : List MainEvent) (front : t.main ≡ mains.AppStart id ∷ rest) where
  -- an AppStart waits of it
  some_start : 1 ≤ count_by (is_start id) t.main
  some_start =
      let f : count_by (is_start id) (mains.AppStart id ∷ rest) ≡ suc (count_by (is_start id) rest) = at_front (is_start id) (mains.AppStart id) rest ∙ ap (λ b. one_if b (count_by (is_start id) rest)) (app_itself id) in
      let e : count_by (is_start id) t.main ≡ count_by (is_start id) (mains.AppStart id ∷ rest) = ap (count_by (is_start id)) front in
      omega (arith, e, f)

  -- its application is new
  pub record IsNew : Type 0 where
    pub row : AppRow
    pub found : row_of t.rows id ≡ Some row
    pub says : StateInvariant settings (at id) apps.New row (view h t (at id))

  pub is_new : IsNew
  is_new = by (row_of t.rows id) refl (k.all (at id))
    where
      state : (s : AppState) (row : AppRow) → StateInvariant settings (at id) s row (view h t (at id)) → s ≡ apps.New
      state apps.New row says = refl
      state apps.NewSaving row says = absurd (let n = says.1 in let s = some_start in omega (arith, n, s))
      state apps.Submitted row says = absurd (let n = says.5 in let s = some_start in omega (arith, n, s))
      state apps.Accepted row says = absurd (let n = says.0 in let s = some_start in omega (arith, n, s))
      state apps.Running row says = absurd (let n = says.0 in let s = some_start in omega (arith, n, s))
      state apps.Killing row says = absurd (let n = says.0 in let s = some_start in omega (arith, n, s))
      state _ row says = absurd (let n = says.2 in let s = some_start in omega (arith, n, s))

      by : (o : Option AppRow) → row_of t.rows id ≡ o → RowInvariant settings (at id) o (view h t (at id)) → IsNew
      by None found says = absurd (let n = says.none_start in let s = some_start in omega (arith, n, s))
      by (Some row) found says = record { row = row; found = found; says = subst (λ (s : AppState). StateInvariant settings (at id) s row (view h t (at id))) (state row.state row says.1) says.1 }

  -- and its submission is the first that isn't issued
  start_first : Lists h t → IsFirst (abstract_scene h t) h.apps.submitted id
  start_first lists =
      let none = is_new.says.2 in
      let no_await : list_any (is_app_op id) t.awaiting ≡ false = none_under (is_app_op id) (is_app_op id) (λ op e. e) t.awaiting (omega (arith, none)) in
      let order = lists.order in
      let unkept : record_of t.tree.apps id ≡ None = is_new.says.0.no_record in
      first_found (abstract_scene h t) h.apps.submitted (flat_map saving t.awaiting) id (flat_map starting rest) (rw front at order)
      (λ x among. rw (sym (saving_any t.awaiting x) ∙ among) refl)
      (saving_any t.awaiting id ∙ no_await)
      (rw (no_await, unkept) refl)

-- what is to start may be issued
pub starts_lawful : (settings : Settings) (h : History) (t : Tables) → AppsInvariant settings h t → Lists h t → StartsLawful h t
starts_lawful settings h t k lists id rest row s front found waits =
    let first = start_first settings h t k id rest front lists in
    let says : RowInvariant settings (at id) (Some row) (view h t (at id)) = rw found at (k.all (at id)) in
    let pending : Some first.submission ≡ Some s = sym first.waits ∙ says.0.pending ∙ waits in
    let same : first.submission ≡ s = cc in
    record { opened = k.is_open; first = first.first ∙ ap (λ (x : Submission). Some (record { id = id; submission = x })) same }
