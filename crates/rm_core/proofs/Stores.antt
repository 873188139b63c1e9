-- What is recorded stays of a store.
use Rattle.std.proofs.Common.{◌≡◌, List, [], ◌∷◌, ◌++◌, Bool, true, false, None, fold, refl, sym, ◌∙◌, ap, subst}
use Rattle.std.proofs.lemmas.List.Elements.{All-nil, All-cons, All-append}
use Rattle.std.proofs.lemmas.List.Sums.{fold_push}
use Rattle.rm_types.specs.declared.entries.Entry.{Entry}
use Rattle.rm_types.specs.declared.entries.Entry.TheVariants as entries
use Rattle.rm_types.specs.declared.messages.Lane.TheVariants as lanes
use Rattle.rm_types.specs.declared.operations.Op.{Op}
use Rattle.rm_types.specs.Lanes.{lane_of_entry}
use Rattle.rm_types.specs.Ranges.{IsOperation}
use Rattle.rm_types.specs.Records.{Records, records, recorded, no_records, fits_records, stray_from}
use Rattle.rm_model.specs.Changes.{after}
use Rattle.rm_model.specs.State.{Manager}
use Rattle.rm_tables.specs.declared.tables.Tables.{Tables}
use Rattle.rm_refinement.specs.History.{History, live_state}
use Rattle.rm_invariant.specs.Phases.{Simulates, LifePhase}
use Rattle.rm_invariant.proofs.opening.Whole.{told_standing}
use Rattle.rm_invariant.proofs.Phases.{recorded_of}
use Rattle.rm_core.specs.Stores.{IsOfStore}

stray_push : (ops : List Op) (r : Records) (op : Op) → stray_from r ops ≡ None → fits_records (fold recorded r ops) op ≡ true → stray_from r (ops ++ op ∷ []) ≡ None
stray_push [] r op none fits = rw fits refl
stray_push (one ∷ ops) r op none fits = by (fits_records r one) refl (stray_push ops (recorded r one) op)
  where
    by : (b : Bool) → fits_records r one ≡ b → (stray_from (recorded r one) ops ≡ None → fits_records (fold recorded (recorded r one) ops) op ≡ true → stray_from (recorded r one) (ops ++ op ∷ []) ≡ None)
        → stray_from r ((one ∷ ops) ++ op ∷ []) ≡ None
    by true e more = rw e (more (let x = rw e at none in x) fits)
    by false e more = absurd (let x = rw e at none in cc)

-- nothing is of a store
pub none_stored : IsOfStore no_records
none_stored = record { ops = []; framed = All-nil IsOperation; none_stray = refl; amounts = refl }

-- with one more operation that fits it
pub stored_with : (tree : Records) (op : Op) → IsOfStore tree → IsOperation op → fits_records tree op ≡ true → IsOfStore (recorded tree op)
stored_with tree op s can fits = record {
  ops = s.ops ++ op ∷ [];
  framed = All-append IsOperation s.ops (op ∷ []) s.framed (All-cons IsOperation op [] can (All-nil IsOperation));
  none_stray = stray_push s.ops no_records op s.none_stray (subst (λ (r : Records). fits_records r op ≡ true) s.amounts fits);
  amounts = ap (λ (r : Records). recorded r op) s.amounts ∙ sym (fold_push recorded no_records s.ops op);
}

-- an entry that keeps nothing
abbrev pub IsOfNone : Entry → Type 0
IsOfNone e = (h : History) (t : Tables) → (after (live_state h t) e).kept ≡ h.kept

-- neither queue's entries keep anything
pub main_none : (e : Entry) → lane_of_entry e ≡ lanes.Main → IsOfNone e
main_none (entries.Opened landed epoch stamp) l = cc
main_none (entries.Issued op) l = λ h t. refl
main_none entries.Handed l = cc
main_none (entries.Kept op) l = cc
main_none (entries.Blown passed) l = cc
main_none (entries.Served sender message reply) l = λ h t. refl
main_none (entries.Accepted app) l = λ h t. refl
main_none (entries.Queued attempt) l = cc
main_none (entries.Absorbed node taken ended) l = cc
main_none (entries.Pass node grants) l = cc
main_none (entries.Ordered container node) l = λ h t. refl
main_none (entries.Ended cause list) l = cc
main_none entries.Settled l = cc
main_none entries.Down l = cc
main_none (entries.Quiet lane) l = λ h t. refl

pub sched_none : (e : Entry) → lane_of_entry e ≡ lanes.Sched → IsOfNone e
sched_none (entries.Opened landed epoch stamp) l = cc
sched_none (entries.Issued op) l = cc
sched_none entries.Handed l = cc
sched_none (entries.Kept op) l = cc
sched_none (entries.Blown passed) l = cc
sched_none (entries.Served sender message reply) l = λ h t. refl
sched_none (entries.Accepted app) l = cc
sched_none (entries.Queued attempt) l = λ h t. refl
sched_none (entries.Absorbed node taken ended) l = λ h t. refl
sched_none (entries.Pass node grants) l = λ h t. refl
sched_none (entries.Ordered container node) l = cc
sched_none (entries.Ended cause list) l = λ h t. refl
sched_none entries.Settled l = cc
sched_none entries.Down l = cc
sched_none (entries.Quiet lane) l = λ h t. refl

-- and one that keeps an operation
pub tree_with : (h : History) (t : Tables) (op : Op) (next : Tables) (phase : LifePhase h t) (l : Simulates h t (entries.Kept op) next) → t.alive ≡ true → next.tree ≡ recorded t.tree op
tree_with h t op next phase l alive =
    let kept : l.history.kept ≡ h.kept ++ op ∷ [] = sym (ap (λ (m : Manager). m.kept) l.same) ∙ ap (λ (m : Manager). (after m (entries.Kept op)).kept) (told_standing h t alive) in
    sym l.recorded ∙ ap records kept ∙ fold_push recorded no_records h.kept op ∙ ap (λ (r : Records). recorded r op) (recorded_of h t phase alive)

-- then the same is recorded after it
pub tree_stays : (h : History) (t : Tables) (e : Entry) (next : Tables) (phase : LifePhase h t) (l : Simulates h t e next) → t.alive ≡ true → IsOfNone e → next.tree ≡ t.tree
tree_stays h t e next phase l alive none =
    let kept : l.history.kept ≡ h.kept = sym (ap (λ (m : Manager). m.kept) l.same) ∙ ap (λ (m : Manager). (after m e).kept) (told_standing h t alive) ∙ none h t in
    sym l.recorded ∙ ap records kept ∙ recorded_of h t phase alive
