-- The removal of an application once it is kept, as a whole step.
use Rattle.rm_invariant.proofs.Common.{◌≡◌, suc, List, [], ◌∷◌, ◌++◌, Bool, true, false, Option, None, Some, drop, refl, sym, ◌∙◌, ap, subst, arith, lookup-set_value, AppId, AttemptId, Op, AppRecord, Settings, is_app, same_app, AppRow, Tables, kept, row_in, row_of, slot_of, without_row, History}
use Rattle.std.specs.Prelude.{cond}
use Rattle.rm_types.specs.declared.entries.Entry.TheVariants.{Kept as KeptEntry}
use Rattle.rm_types.specs.declared.operations.Op.TheVariants as ops
use Rattle.rm_tables.specs.Rows.{without_slot}
use Rattle.rm_invariant.specs.apps.View.{View, view, counts, gone_if, op_view, set_if}
use Rattle.rm_invariant.specs.apps.Invariant.{RowInvariant}
use Rattle.rm_invariant.specs.Step.{AppsInvariant, Step}
use Rattle.rm_invariant.proofs.apps.Effects.{op_taken}
use Rattle.rm_invariant.proofs.apps.Found.{found_gone, has_end, ids_alike, same_test, some_is}
use Rattle.rm_invariant.proofs.apps.Keeping.{in_scene}
use Rattle.rm_invariant.proofs.apps.Saving.{recorded_more}
use Rattle.rm_invariant.proofs.apps.AtStates.{remove_saved}

slot_gone : (id q : AppId) (rows : List (AppId × Option AppRow)) (b : Bool) → row_in (cond b (Some None) (slot_of rows q)) ≡ gone_if b (row_of rows q)
slot_gone id q rows true = refl
slot_gone id q rows false = refl

-- the row of an application, after this or another one was removed
pub row_gone : (id q : AppId) (rows : List (AppId × Option AppRow)) → row_of (without_row id rows) q ≡ gone_if (is_app id q) (row_of rows q)
row_gone id q rows = by (slot_of rows id) refl
  where
    none : (b : Bool) → is_app id q ≡ b → slot_of rows id ≡ None → row_of rows q ≡ gone_if b (row_of rows q)
    none true e f =
        let same : id ≡ q = same_app id q e in
        let g : slot_of rows q ≡ None = rw (← same) f in
        rw g refl
    none false e f = refl

    by : (o : Option (Option AppRow)) → slot_of rows id ≡ o → row_of (without_slot id rows o) q ≡ gone_if (is_app id q) (row_of rows q)
    by None f = none (is_app id q) refl f
    by (Some slot) f =
        ap row_in (lookup-set_value ids_alike (is_app id) (λ x y h. same_test id x y h) q None rows (some_is (slot_of rows id) slot f)) ∙ slot_gone id q rows (is_app id q)

-- the row of an application whose Remove awaits
pub record RemoveAwaits (row : Option AppRow) : Type 0 where
  pub one : AppRow
  pub is : row ≡ Some one

remove_awaits : (settings : Settings) (q : AttemptId) (row : Option AppRow) (v : View) → RowInvariant settings q row (record v { count = record v.count { removes = suc v.count.removes } }) → RemoveAwaits row
remove_awaits settings q None v good = absurd (let n = good.none_await in omega (arith, n))
remove_awaits settings q (Some row) v good = record { one = row; is = refl }

-- Kept Remove
module _ (settings : Settings) (h : History) (t : Tables) (k : AppsInvariant settings h t) (id : AppId) (rest : List Op) (front : t.awaiting ≡ ops.Remove id ∷ rest) where
  abbrev taken : Tables
  taken = record t { awaiting = drop 1 t.awaiting }

  abbrev pub removed : History
  removed = record h { kept = h.kept ++ ops.Remove id ∷ []; apps = record h.apps { retired = h.apps.retired ++ id ∷ [] } }

  seen : (q : AttemptId) → view removed (kept (ops.Remove id) t) q
      ≡ record (view h taken q) { found = gone_if (is_app id q.app) (view h t q).found; retired = set_if (is_app id q.app) (view h t q).retired }
  seen q = rw (found_gone (λ (one : AppRecord). one.id) id q.app t.tree.apps, has_end h.apps.retired id q.app) refl

  old : (q : AttemptId) → RowInvariant settings q (row_of t.rows q.app) (op_view q (ops.Remove id) (view h taken q))
  old q = subst (λ (v : View). RowInvariant settings q (row_of t.rows q.app) v) (op_taken h t q (ops.Remove id) rest front) (k.all q)

  pub remove_kept_steps : t.handed ≡ true → Step settings h t (KeptEntry (ops.Remove id)) removed (kept (ops.Remove id) t)
  remove_kept_steps handed =
      record {
        lawful = in_scene settings h t k (KeptEntry (ops.Remove id)) (record { handed = handed; first = rw front refl });
        same = refl;
        keeps = record { is_open = k.is_open; recorded = recorded_more settings h t k (ops.Remove id); all = λ q. rw (row_gone id q.app t.rows) (by q (is_app id q.app) refl) };
      }
    where
      by : (q : AttemptId) (b : Bool) → is_app id q.app ≡ b → RowInvariant settings q (gone_if b (row_of t.rows q.app)) (view removed (kept (ops.Remove id) t) q)
      by q true e =
          let with_it : op_view q (ops.Remove id) (view h taken q) ≡ record (view h taken q) { count = record (counts h taken q) { removes = suc (counts h taken q).removes } } = rw e refl in
          let good = subst (λ (v : View). RowInvariant settings q (row_of t.rows q.app) v) with_it (old q) in
          let awaits = remove_awaits settings q (row_of t.rows q.app) (view h taken q) good in
          let row = subst (λ (r : Option AppRow). RowInvariant settings q r (record (view h taken q) { count = record (counts h taken q) { removes = suc (counts h taken q).removes } })) awaits.is good in
          let now : view removed (kept (ops.Remove id) t) q ≡ record (view h taken q) { found = None; retired = true } = seen q ∙ rw e refl in
          subst (λ (v : View). RowInvariant settings q None v) (sym now) (remove_saved settings q awaits.one (view h taken q) row)
      by q false e =
          let with_it : op_view q (ops.Remove id) (view h taken q) ≡ view h taken q = rw e refl in
          let now : view removed (kept (ops.Remove id) t) q ≡ view h taken q = seen q ∙ rw e refl in
          subst (λ (v : View). RowInvariant settings q (row_of t.rows q.app) v) (sym now) (subst (λ (v : View). RowInvariant settings q (row_of t.rows q.app) v) with_it (old q))
