-- What the last life can have left of its store, by the tables: what they record or, where that life blew, this and the first operation that awaits.
use Rattle.std.proofs.Common.{◌≡◌, ◌≢◌, ◌↔◌, List, [], ◌∷◌, ◌++◌, Bool, false, None, Some, Ok, Err, Result, slice_get, refl, sym, ◌∙◌, ap, inl, inr}
use Rattle.std.specs.Prelude.{IfOk, IsTrue}
use Rattle.std.proofs.lemmas.List.Sums.{fold_push}
use Rattle.rm_types.specs.declared.entries.Entry.{Entry}
use Rattle.rm_types.specs.declared.operations.Op.{Op}
use Rattle.rm_types.specs.Records.{Records, no_records, recorded, records}
use Rattle.rm_model.specs.Lawful.{state_after}
use Rattle.rm_model.specs.State.{Manager}
use Rattle.rm_tables.specs.declared.tables.Tables.{Tables}
use Rattle.rm_core.specs.Moves.{IsLeft}
use Rattle.rm_core.specs.Invariant.{LogInvariant}
use Rattle.rm_types.specs.Alike.{IsAlike}
use Rattle.rm_core.specs.Queues.{landed_in, own_tree, tree_landed}
use Rattle.rm_core.proofs.Alike.{like_back, like_on, like_same}
use Rattle.rm_core.proofs.Lives.{Landed, landed_of, landing_none, landing_one, nothing, the_first, with_first, with_none}

-- an answer that says whether something is so, where it was found to be so exactly where something else is
pub if_answered : {E : Type 0} {P Q : Type 0} (r : Result Bool E) → (P → Q) → (Q → P) → IfOk r (λ b. IsTrue b ↔ P) → IfOk r (λ b. IsTrue b ↔ Q)
if_answered (Ok b) to from h = (λ is. to (h.0 is), λ is. h.1 (from is))
if_answered (Err e) to from h = tt

-- and one way of it
pub if_told : {E : Type 0} {P Q : Type 0} (r : Result Bool E) → (P → Q) → IfOk r (λ b. IsTrue b ↔ P) → IfOk r (λ b. IsTrue b → Q)
if_told (Ok b) to h = λ is. to (h.0 is)
if_told (Err e) to h = tt

-- before the first life nothing is recorded, and none blew
pub record IsUnbegun (t : Tables) : Type 0 where
  pub recorded : t.tree ≡ no_records
  pub blown : t.blown ≡ false

pub unbegun : (t : Tables) (log : List Entry) (opening : List Op) → LogInvariant opening log t → log ≡ [] → IsUnbegun t
unbegun t log opening k none = record { recorded = ap (λ (x : Tables). x.tree) (k.fresh none); blown = ap (λ (x : Tables). x.blown) (k.fresh none) }

-- so a life would begin over nothing
pub unbegun_own : (t : Tables) (log : List Entry) (tree : Records) (opening : List Op) → LogInvariant opening log t → log ≡ [] → tree_landed (landed_in t tree) t ≡ no_records
unbegun_own t log tree opening k none =
    let is = unbegun t log opening k none in
    let unblown = is.blown in
    with_none t tree (rw unblown refl) ∙ is.recorded

module _ (t : Tables) (log : List Entry) (tree : Records) (opening : List Op) (k : LogInvariant opening log t) (some : log ≢ []) (dead : t.alive ≡ false) where
  told_as : state_after opening log ≡ record { kept = k.history.kept; awaiting = t.awaiting; blew = t.blown; life = None }
  told_as = k.same ∙ rw dead refl

  kept_as : records (state_after opening log).kept ≡ t.tree
  kept_as = ap (λ (m : Manager). records m.kept) told_as ∙ k.recorded some

  -- the records of what is kept and one more operation
  with_one : (op : Op) → records ((state_after opening log).kept ++ op ∷ []) ≡ recorded t.tree op
  with_one op = fold_push recorded no_records (state_after opening log).kept op ∙ ap (λ (r : Records). recorded r op) kept_as

  abbrev own : Records
  own = tree_landed (landed_in t tree) t

  pub left_own : IsAlike own tree → IsLeft tree (state_after opening log)
  left_own like = by (landed_of t tree)
    where
      by : Landed t tree → IsLeft tree (state_after opening log)
      by (nothing zero) = inl (like_on tree own (records (state_after opening log).kept) (like_back own tree like) (like_same own (records (state_after opening log).kept) (with_none t tree zero ∙ sym kept_as)))
      by (the_first op rest blew w one) =
          inr (record {
            blew = ap (λ (m : Manager). m.blew) told_as ∙ blew;
            op = op;
            first = ap (λ (m : Manager). slice_get m.awaiting 0) told_as ∙ rw w refl;
            amounts = like_on tree own (records ((state_after opening log).kept ++ op ∷ [])) (like_back own tree like) (like_same own (records ((state_after opening log).kept ++ op ∷ [])) (with_first t tree op rest w one ∙ sym (with_one op)));
          })

  pub own_left : IsLeft tree (state_after opening log) → IsAlike own tree
  own_left (inl amounts) =
      let zero = landing_none opening log t k dead tree amounts in
      like_back tree own (like_on tree (records (state_after opening log).kept) own amounts (like_same (records (state_after opening log).kept) own (kept_as ∙ sym (with_none t tree zero))))
  own_left (inr one) = by t.awaiting refl (sym (ap (λ (m : Manager). slice_get m.awaiting 0) told_as) ∙ one.first)
    where
      by : (ops : List Op) → t.awaiting ≡ ops → slice_get ops 0 ≡ Some one.op → IsAlike own tree
      by [] w first = cc
      by (op ∷ rest) w first =
          let same : op ≡ one.op = cc in
          let front : t.awaiting ≡ one.op ∷ rest = w ∙ ap (λ (o : Op). o ∷ rest) same in
          like_back tree own (like_on tree (records ((state_after opening log).kept ++ one.op ∷ [])) own one.amounts
          (like_same (records ((state_after opening log).kept ++ one.op ∷ [])) own (with_one one.op ∙ sym (with_first t tree one.op rest front (landing_one opening log t k dead tree one)))))

-- of a log that has entries the own tree is by the tables alone
pub own_of : (t : Tables) (log : List Entry) (tree : Records) → log ≢ [] → own_tree log t tree ≡ tree_landed (landed_in t tree) t
own_of t [] tree some = absurd (some refl)
own_of t (e ∷ log) tree some = refl
