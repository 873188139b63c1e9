-- An end that was told stays.
use Rattle.rm_laws.proofs.Common.{◌≡◌, ◌⊎◌, ℕ, ◌+◌, ◌≤◌, List, [], ◌∷◌, ◌++◌, Bool, true, false, ◌||◌, cond, Option, None, Some, is_some, take, drop, refl, sym, ap, subst, arith, ◌∙◌, inl, inr, append-nil, slice_get, list_any, list_any-append, fold_push, or_parts, Entry, Opened, Issued, Kept, AppId, How, Op, Epoch, App, Attempt, AttemptEnd, AppEnd, Remove, Settings, is_app, Records, records, recorded, no_records, same_app, LifeState, Manager, scene, is_app_end_op, is_remove_op, Allowed, AllowedIn, after, after_all, AllAllowed}
use Rattle.rm_laws.proofs.Phases.{state}
use Rattle.rm_laws.proofs.Recorded.{grow, grow_all}
use Rattle.rm_laws.proofs.Endings.{OneEnd, at_most_one, awaiting_ends, end_of, end_stays, ends_at, one_end_kept}
use Rattle.rm_laws.proofs.Counts.{count_front, count_join, count_none, count_one}

none_at : (o : Option (How × List ℕ)) → is_some o ≡ false → ◌≡◌ {A = ℕ} (cond (is_some o) 1 0) 0
none_at None h = refl
none_at (Some x) h = cc

module _ (kept awaiting : List Op) (one : OneEnd kept awaiting) where
  -- an operation that isn't an AppEnd is issued
  other_issued : (op : Op) → ((id : AppId) → is_app_end_op id op ≡ false) → OneEnd kept (awaiting ++ op ∷ [])
  other_issued op other id =
      let c = count_join (is_app_end_op id) awaiting (op ∷ []) in let o = count_one (is_app_end_op id) op false (other id) in let h = one id in omega (arith, c, o, h)

  -- an AppEnd is issued
  end_issued : (ended : AppId) (how : How) (text : List ℕ) → (list_any (is_app_end_op ended) awaiting || is_some (end_of (records kept).apps ended)) ≡ false
      → OneEnd kept (awaiting ++ AppEnd ended how text ∷ [])
  end_issued ended how text none id = go (is_app ended id) refl
    where
      go : (b : Bool) → is_app ended id ≡ b → ends_at id (records kept).apps + awaiting_ends id (awaiting ++ AppEnd ended how text ∷ []) ≤ 1
      go false e =
          let c = count_join (is_app_end_op id) awaiting (AppEnd ended how text ∷ []) in let o = count_one (is_app_end_op id) (AppEnd ended how text) false e in let h = one id in omega (arith, c, o, h)
      go true e =
          let same = same_app ended id e in
          let n = or_parts (list_any (is_app_end_op id) awaiting) (is_some (end_of (records kept).apps id))
          (subst (λ (i : AppId). (list_any (is_app_end_op i) awaiting || is_some (end_of (records kept).apps i)) ≡ false) same none) in
          let c = count_join (is_app_end_op id) awaiting (AppEnd ended how text ∷ []) in
          let o = count_one (is_app_end_op id) (AppEnd ended how text) true e in
          let z = count_none (is_app_end_op id) awaiting n.0 in
          let k = none_at (end_of (records kept).apps id) n.1 in
          omega (arith, c, o, z, k)

first_kept : (kept awaiting : List Op) (op : Op) → slice_get awaiting 0 ≡ Some op → OneEnd kept awaiting → OneEnd (kept ++ op ∷ []) (drop 1 awaiting)
first_kept kept [] op first one = cc
first_kept kept (x ∷ ops) op first one = let same : x ≡ op = cc in subst (λ (y : Op). OneEnd (kept ++ y ∷ []) ops) same (one_end_kept kept x ops one)

-- each entry that is allowed
in_life : (settings : Settings) (kept awaiting : List Op) (blew : Bool) (life : LifeState) (e : Entry) → OneEnd kept awaiting
    → AllowedIn settings (scene (state kept awaiting blew (Some life)) life) e → OneEnd (after (state kept awaiting blew (Some life)) e).kept (after (state kept awaiting blew (Some life)) e).awaiting
in_life settings kept awaiting blew life (Opened landed epoch stamp) one may = absurd may
in_life settings kept awaiting blew life (Issued (AppEnd id how text)) one may = end_issued kept awaiting one id how text may.not_issued
in_life settings kept awaiting blew life (Issued (Epoch next stamp)) one may = other_issued kept awaiting one (Epoch next stamp) (λ id. refl)
in_life settings kept awaiting blew life (Issued (App id submission)) one may = other_issued kept awaiting one (App id submission) (λ id. refl)
in_life settings kept awaiting blew life (Issued (Attempt id master node)) one may = other_issued kept awaiting one (Attempt id master node) (λ id. refl)
in_life settings kept awaiting blew life (Issued (AttemptEnd id how text)) one may = other_issued kept awaiting one (AttemptEnd id how text) (λ id. refl)
in_life settings kept awaiting blew life (Issued (Remove id)) one may = other_issued kept awaiting one (Remove id) (λ id. refl)
in_life settings kept awaiting blew life (Kept op) one may = first_kept kept awaiting op may.first one
in_life settings kept awaiting blew life e one may = one

pub step : (settings : Settings) (kept awaiting : List Op) (blew : Bool) (life : Option LifeState) (e : Entry) → OneEnd kept awaiting → Allowed settings (state kept awaiting blew life) e
    → OneEnd (after (state kept awaiting blew life) e).kept (after (state kept awaiting blew life) e).awaiting
step settings kept awaiting blew None (Opened landed epoch stamp) one may = λ id. let a = at_most_one (end_of (records (kept ++ take landed awaiting)).apps id) in omega (arith, a)
step settings kept awaiting blew None _ one may = absurd may
step settings kept awaiting blew (Some life) e one may = in_life settings kept awaiting blew life e one may

-- an end stays while the first awaiting operation is kept
end_kept : (kept : List Op) (op : Op) (ops : List Op) (id : AppId) (ending : How × List ℕ) → OneEnd kept (op ∷ ops) → end_of (records kept).apps id ≡ Some ending → is_remove_op id op ≡ false
    → end_of (records (kept ++ op ∷ [])).apps id ≡ Some ending
end_kept kept op ops id ending one ended other = go (is_app_end_op id op) refl
  where
    go : (b : Bool) → is_app_end_op id op ≡ b → end_of (records (kept ++ op ∷ [])).apps id ≡ Some ending
    go true e =
        let c = count_front (is_app_end_op id) op ops in let o = count_one (is_app_end_op id) op true e in let h = one id in
        let k : ◌≡◌ {A = ℕ} (ends_at id (records kept).apps) 1 = ap (λ (x : Option (How × List ℕ)). let n : ℕ = cond (is_some x) 1 0 in n) ended in
        absurd (omega (arith, c, o, h, k))
    go false e = ap (λ (r : Records). end_of r.apps id) (fold_push recorded no_records kept op) ∙ end_stays id (records kept) op e other ∙ ended

-- an end stays over what an entry keeps
first_end : (kept awaiting : List Op) (op : Op) → slice_get awaiting 0 ≡ Some op → (id : AppId) (ending : How × List ℕ) → OneEnd kept awaiting → end_of (records kept).apps id ≡ Some ending → is_remove_op id op ≡ false
    → end_of (records (kept ++ op ∷ [])).apps id ≡ Some ending
first_end kept [] op first id ending one ended other = cc
first_end kept (x ∷ ops) op first id ending one ended other =
    let same : x ≡ op = cc in
    subst (λ (y : Op). end_of (records (kept ++ y ∷ [])).apps id ≡ Some ending) same (end_kept kept x ops id ending one ended (subst (λ (y : Op). is_remove_op id y ≡ false) (sym same) other))

landed_end : (kept awaiting : List Op) (landed : ℕ) (id : AppId) (ending : How × List ℕ) → (landed ≡ 0) ⊎ (landed ≡ 1) → OneEnd kept awaiting → end_of (records kept).apps id ≡ Some ending
    → list_any (is_remove_op id) (take landed awaiting) ≡ false → end_of (records (kept ++ take landed awaiting)).apps id ≡ Some ending
landed_end kept awaiting landed id ending (inl zero) one ended none = rw zero (rw (append-nil kept) ended)
landed_end kept [] landed id ending (inr some) one ended none = rw some (rw (append-nil kept) ended)
landed_end kept (op ∷ ops) landed id ending (inr some) one ended none =
    let none_at_one : list_any (is_remove_op id) (op ∷ []) ≡ false = ap (λ (n : ℕ). list_any (is_remove_op id) (take n (op ∷ ops))) (sym some) ∙ none in
    rw some (end_kept kept op ops id ending one ended (or_parts (is_remove_op id op) false none_at_one).0)

entry_end : (settings : Settings) (kept awaiting : List Op) (blew : Bool) (life : Option LifeState) (e : Entry) (id : AppId) (ending : How × List ℕ) → OneEnd kept awaiting
    → Allowed settings (state kept awaiting blew life) e → end_of (records kept).apps id ≡ Some ending → list_any (is_remove_op id) (grow kept awaiting blew life e).0 ≡ false
    → end_of (records (after (state kept awaiting blew life) e).kept).apps id ≡ Some ending
entry_end settings kept awaiting blew None (Opened landed epoch stamp) id ending one may ended none = landed_end kept awaiting landed id ending (which may.landing) one ended none
  where
    which : (landed ≡ 0) ⊎ ((landed ≡ 1) × (blew ≡ true)) → (landed ≡ 0) ⊎ (landed ≡ 1)
    which (inl a) = inl a
    which (inr b) = inr b.0
entry_end settings kept awaiting blew None _ id ending one may ended none = absurd may
entry_end settings kept awaiting blew (Some life) (Kept op) id ending one may ended none = first_end kept awaiting op may.first id ending one ended (or_parts (is_remove_op id op) false none).0
entry_end settings kept awaiting blew (Some life) _ id ending one may ended none = ended

-- and over a log
pub log_end : (settings : Settings) (s : Manager) (log : List Entry) (id : AppId) (ending : How × List ℕ) → OneEnd s.kept s.awaiting → AllAllowed settings s log
    → end_of (records s.kept).apps id ≡ Some ending → list_any (is_remove_op id) (grow_all s log).0 ≡ false → end_of (records (after_all s log).kept).apps id ≡ Some ending
log_end settings s [] id ending one allowed ended none = ended
log_end settings s (e ∷ log) id ending one allowed ended none =
    let both = or_parts (list_any (is_remove_op id) (grow s.kept s.awaiting s.blew s.life e).0) (list_any (is_remove_op id) (grow_all (after s e) log).0)
    (sym (list_any-append (is_remove_op id) (grow s.kept s.awaiting s.blew s.life e).0 (grow_all (after s e) log).0) ∙ none) in
    log_end settings (after s e) log id ending (step settings s.kept s.awaiting s.blew s.life e one allowed.0) allowed.1
    (entry_end settings s.kept s.awaiting s.blew s.life e id ending one allowed.0 ended both.0) both.1
