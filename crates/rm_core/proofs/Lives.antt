-- A manager before its first life, and the begin of a life.
use Rattle.std.proofs.Common.{◌≡◌, ◌≢◌, ℕ, ◌<◌, ◌≤◌, ◌-◌, ◌^◌, ◌⊎◌, List, [], ◌∷◌, ◌++◌, Bool, true, false, None, Some, fold, take, slice_get, refl, sym, ◌∙◌, ap, subst, arith, inl, inr}
use Rattle.std.proofs.lemmas.List.{append-nil}
use Rattle.std.proofs.lemmas.List.Sums.{fold-append, fold_push}
use Rattle.std.specs.declared.alloc.Global.{Global}
use Rattle.rm_types.specs.declared.entries.Entry.{Entry}
use Rattle.rm_types.specs.declared.entries.Entry.TheVariants.{Opened}
use Rattle.rm_types.specs.declared.operations.Op.{Op}
use Rattle.rm_types.specs.declared.limits.TheConstants.{EPOCHS, STAMPS}
use Rattle.rm_types.specs.declared.settings.Settings.{Settings}
use Rattle.rm_types.specs.Records.{Records, fits_records, no_records, recorded, records}
use Rattle.rm_types.proofs.TestLemmas.{never_nil}
use Rattle.rm_model.specs.State.{Manager, opening_state}
use Rattle.rm_model.specs.Changes.{after}
use Rattle.rm_model.specs.Rules.{Allowed, MayOpen}
use Rattle.rm_model.specs.Lawful.{state_after}
use Rattle.rm_tree.specs.Shows.{shows}
use Rattle.rm_tree.proofs.Shows.{shows_not, shows_then}
use Rattle.rm_tables.specs.declared.tables.Tables.{Tables}
use Rattle.rm_tables.specs.Lives.{begun, no_life}
use Rattle.rm_refinement.specs.History.{History, initial_history}
use Rattle.rm_core.specs.Moves.{CanBeginOver, HasLanded}
use Rattle.rm_types.specs.Alike.{IsAlike}
use Rattle.rm_core.specs.Stores.{IsOfStore}
use Rattle.rm_core.specs.Queues.{landed_in, own_tree, tables_after, tables_moved, tree_landed, unopened}
use Rattle.rm_invariant.specs.messages.Ranges.{KeepsLimits}
use Rattle.rm_invariant.specs.Phases.{NoLife, LifePhase, none, running, saving, shut, starting}
use Rattle.rm_invariant.proofs.opening.Whole.{begin_starts, stands}
use Rattle.rm_core.specs.Invariant.{HasPhase, LogInvariant}
use Rattle.rm_core.proofs.Alike.{like_on, like_same, shows_like}
use Rattle.rm_core.proofs.Recorded.{stored, stored_ranges}
use Rattle.rm_core.proofs.Refusing.{unblown_framed}
use Rattle.rm_core.proofs.Standing.{AllAllowed-push}
use Rattle.rm_core.proofs.Stores.{none_stored, stored_with}

-- before the first life
none_yet : (h : History) (alloc : Global) (settings : Settings) → NoLife h (no_life alloc settings)
none_yet h alloc settings = record { alive = refl; main = refl; sched = refl; recorded = λ blown. cc; fits = λ blown. cc }

pub new_sound : (alloc : Global) (settings : Settings) → HasPhase (no_life alloc settings)
new_sound alloc settings = record { history = initial_history []; phase = none (none_yet (initial_history []) alloc settings); stored = none_stored; framed = unblown_framed (no_life alloc settings) refl }

pub new_keeps : (opening : List Op) (alloc : Global) (settings : Settings) → LogInvariant opening [] (no_life alloc settings)
new_keeps opening alloc settings =
    record { allowed = tt; history = initial_history opening; same = refl; recorded = λ some. absurd (some refl); phase = none (none_yet (initial_history opening) alloc settings); fresh = λ none. refl; told_by = λ some. absurd (some refl) }

-- between lives
pub none_stands : (h : History) (t : Tables) → LifePhase h t → t.alive ≡ false → NoLife h t
none_stands h t (none n) dead = n
none_stands h t (starting b) dead = absurd (let x = sym (stands h t b.begins) ∙ dead in cc)
none_stands h t (saving b) dead = absurd (let x = sym (stands h t b.begins) ∙ dead in cc)
none_stands h t (shut b) dead = absurd (let x = sym b.alive ∙ dead in cc)
none_stands h t (running r) dead = absurd (let x = sym r.alive ∙ dead in cc)

-- WHAT LANDED

-- nothing, or after a life that blew the first operation that awaits
pub data Landed (t : Tables) (tree : Records) : Type 0 where
  nothing : landed_in t tree ≡ 0 → Landed t tree
  the_first : (op : Op) (rest : List Op) → t.blown ≡ true → t.awaiting ≡ op ∷ rest → landed_in t tree ≡ 1 → Landed t tree

pub landed_of : (t : Tables) (tree : Records) → Landed t tree
landed_of t tree = by t.blown refl t.awaiting refl
  where
    shown : (op : Op) (rest : List Op) → t.blown ≡ true → t.awaiting ≡ op ∷ rest → (b : Bool) → shows tree op ≡ b → Landed t tree
    shown op rest e w true is = the_first op rest e w (rw (e, w, is) refl)
    shown op rest e w false is = nothing (rw (e, w, is) refl)

    by : (b : Bool) → t.blown ≡ b → (ops : List Op) → t.awaiting ≡ ops → Landed t tree
    by false e ops w = nothing (rw e refl)
    by true e [] w = nothing (rw (e, w) refl)
    by true e (op ∷ rest) w = shown op rest e w (shows tree op) refl

pub landed_may : (t : Tables) (tree : Records) → Landed t tree → (landed_in t tree ≡ 0) ⊎ ((landed_in t tree ≡ 1) × (t.blown ≡ true))
landed_may t tree (nothing zero) = inl zero
landed_may t tree (the_first op rest blew w one) = inr (one, blew)

-- what is recorded with it
pub with_none : (t : Tables) (tree : Records) → landed_in t tree ≡ 0 → tree_landed (landed_in t tree) t ≡ t.tree
with_none t tree zero = ap (λ (k : ℕ). tree_landed k t) zero

pub with_first : (t : Tables) (tree : Records) (op : Op) (rest : List Op) → t.awaiting ≡ op ∷ rest → landed_in t tree ≡ 1 → tree_landed (landed_in t tree) t ≡ recorded t.tree op
with_first t tree op rest w one = ap (λ (k : ℕ). tree_landed k t) one ∙ rw w refl

-- the operation fits what is recorded
pub landed_fits : (t : Tables) (tree : Records) → HasPhase t → t.alive ≡ false → landed_in t tree ≡ 1 → (op : Op) (rest : List Op) → t.awaiting ≡ op ∷ rest → fits_records t.tree op ≡ true
landed_fits t tree s dead is op rest front = by (landed_of t tree)
  where
    by : Landed t tree → fits_records t.tree op ≡ true
    by (nothing zero) = absurd (let x = sym zero ∙ is in cc)
    by (the_first first more blew w one) = (none_stands s.history t s.phase dead).fits blew op rest front

pub landed_few : (t : Tables) (tree : Records) → landed_in t tree ≤ 1
landed_few t tree = by (landed_of t tree)
  where
    by : Landed t tree → landed_in t tree ≤ 1
    by (nothing zero) = omega (arith, zero)
    by (the_first op rest blew w one) = omega (arith, one)

-- it is of a store, as what is handed is
pub own_stored : (t : Tables) (log : List Entry) (tree : Records) → HasPhase t → t.alive ≡ false → IsOfStore tree → IsOfStore (own_tree log t tree)
own_stored t [] tree s dead of_store = of_store
own_stored t (e ∷ log) tree s dead of_store = by (landed_of t tree)
  where
    by : Landed t tree → IsOfStore (tree_landed (landed_in t tree) t)
    by (nothing zero) = subst IsOfStore (sym (with_none t tree zero)) s.stored
    by (the_first op rest blew w one) =
        let n = none_stands s.history t s.phase dead in
        subst IsOfStore (sym (with_first t tree op rest w one)) (stored_with t.tree op s.stored (s.framed blew op rest w) (n.fits blew op rest w))

pub own_over : (t : Tables) (log : List Entry) (tree : Records) → HasPhase t → t.alive ≡ false → CanBeginOver tree → IsAlike (own_tree log t tree) tree → CanBeginOver (own_tree log t tree)
own_over t log tree s dead over like = record {
  of_store = own_stored t log tree s dead over.of_store;
  epoch = subst (λ (n : ℕ). n < EPOCHS) (sym like.epoch) over.epoch;
  stamp = subst (λ (n : ℕ). n < STAMPS - 1) (sym like.stamp) over.stamp;
}

module _ (h : History) (t : Tables) (tree : Records) (n : NoLife h t) where
  -- over what is kept none has landed
  none_shows : IsAlike tree (records h.kept) → (b : Bool) → t.blown ≡ b → (ops : List Op) → t.awaiting ≡ ops → landed_in t tree ≡ 0
  none_shows is false e ops w = rw e refl
  none_shows is true e [] w = rw (e, w) refl
  none_shows is true e (op ∷ rest) w =
      let no : shows tree op ≡ false = shows_like tree t.tree op (like_on tree (records h.kept) t.tree is (like_same (records h.kept) t.tree (n.recorded e))) ∙ shows_not t.tree op (n.fits e op rest w) in
      rw (e, w, no) refl

  -- over what is kept and the first that awaited, this one has
  first_shows : t.blown ≡ true → (op : Op) (rest : List Op) → t.awaiting ≡ op ∷ rest → IsAlike tree (records (h.kept ++ op ∷ [])) → landed_in t tree ≡ 1
  first_shows blew op rest w is =
      let after_it : records (h.kept ++ op ∷ []) ≡ recorded t.tree op = fold_push recorded no_records h.kept op ∙ ap (λ (r : Records). recorded r op) (n.recorded blew) in
      let yes_ : shows tree op ≡ true = shows_like tree (recorded t.tree op) op (like_on tree (records (h.kept ++ op ∷ [])) (recorded t.tree op) is (like_same (records (h.kept ++ op ∷ [])) (recorded t.tree op) after_it)) ∙ shows_then t.tree op (n.fits blew op rest w) in
      rw (blew, w, yes_) refl

-- a life that begins over what the last one left
module _ (opening : List Op) (log : List Entry) (t : Tables) (k : LogInvariant opening log t) (a : t.alive ≡ false) where
  -- the state before it
  abbrev pub before : Manager
  before = record { kept = k.history.kept; awaiting = t.awaiting; blew = t.blown; life = None }

  pub stands_for : state_after opening log ≡ before
  stands_for = k.same ∙ rw a refl

  -- over what is kept none, and over this and the first that awaited one
  pub landing_none : (tree : Records) → IsAlike tree (records (state_after opening log).kept) → landed_in t tree ≡ 0
  landing_none tree amounts = none_shows k.history t tree (none_stands k.history t k.phase a) (subst (λ (s : Manager). IsAlike tree (records s.kept)) stands_for amounts) t.blown refl t.awaiting refl

  pub landing_one : (tree : Records) → HasLanded tree (state_after opening log) → landed_in t tree ≡ 1
  landing_one tree one = by t.awaiting refl (sym (ap (λ (s : Manager). slice_get s.awaiting 0) stands_for) ∙ one.first)
    where
      by : (ops : List Op) → t.awaiting ≡ ops → slice_get ops 0 ≡ Some one.op → landed_in t tree ≡ 1
      by [] w first = cc
      by (op ∷ rest) w first =
          let same : op ≡ one.op = cc in
          first_shows k.history t tree (none_stands k.history t k.phase a) (sym (ap (λ (s : Manager). s.blew) stands_for) ∙ one.blew) one.op rest (w ∙ ap (λ (o : Op). o ∷ rest) same)
          (subst (λ (s : Manager). IsAlike tree (records (s.kept ++ one.op ∷ []))) stands_for one.amounts)

  -- before the first life nothing was refused
  fresh_kept : (tree : Records) → log ≡ [] → (landed_in t tree ≡ 0) × (opening ≡ k.history.kept)
  fresh_kept tree e =
      let unblown : t.blown ≡ false = ap (λ (x : Tables). x.blown) (k.fresh e) in
      (rw unblown refl, ap (λ (s : Manager). s.kept) (subst (λ (l : List Entry). state_after opening l ≡ before) e stands_for))

  -- a life begins over what is kept with what landed
  pub own_is : (tree : Records) → (log ≡ [] → tree ≡ records opening) → own_tree log t tree ≡ records (k.history.kept ++ take (landed_in t tree) t.awaiting)
  own_is tree first = by log refl
    where
      by : (l : List Entry) → log ≡ l → own_tree l t tree ≡ records (k.history.kept ++ take (landed_in t tree) t.awaiting)
      by [] e =
          let fresh = fresh_kept tree e in
          first e ∙ ap records fresh.1 ∙ sym (ap (λ (x : ℕ). records (k.history.kept ++ take x t.awaiting)) fresh.0 ∙ ap records (append-nil k.history.kept))
      by (one ∷ more) e =
          let some : log ≢ [] = λ none. (let x = sym none ∙ e in cc) in
          sym (fold-append recorded no_records k.history.kept (take (landed_in t tree) t.awaiting) ∙ ap (λ (r : Records). fold recorded r (take (landed_in t tree) t.awaiting)) (k.recorded some))

-- a life begins under a stamp that is above the recorded one
module _ (t : Tables) (tree own : Records) (stamp : ℕ) (limits : KeepsLimits t.settings) (over : CanBeginOver own) (low : own.stamp < stamp) (high : stamp < 2 ^ 63) where
  begin_phase : (kept : List Op) → records kept ≡ own → LifePhase (initial_history kept) (begun own stamp t)
  begin_phase kept is = starting (begin_starts t own stamp kept is (stored own over) (stored_ranges own over) limits over.epoch low high)

  pub begin_sound : HasPhase (begun own stamp t)
  begin_sound = let store = over.of_store in record { history = initial_history store.ops; phase = begin_phase store.ops (sym store.amounts); stored = store; framed = unblown_framed (begun own stamp t) refl }

  -- what is kept when the life begins
  abbrev landed : ℕ
  landed = landed_in t tree

  abbrev first_entry : Entry
  first_entry = Opened landed own.next_epoch stamp

  module _ (opening : List Op) (log : List Entry) (k : LogInvariant opening log t) (a : t.alive ≡ false) (is_own : own ≡ own_tree log t tree) (first : log ≡ [] → tree ≡ records opening) where
    lands : own ≡ records (k.history.kept ++ take landed t.awaiting)
    lands = is_own ∙ own_is opening log t k a tree first

    at_begin : state_after opening log ≡ before opening log t k a
    at_begin = stands_for opening log t k a

    -- what a life begins with is told by its first entry
    begun_told : (entries : List Entry) → log ≡ entries → begun own stamp t ≡ tables_after t.alloc t.settings opening (log ++ first_entry ∷ [])
    begun_told [] e =
        let zero : landed ≡ 0 = (fresh_kept opening log t k a tree e).0 in
        let whole : own ≡ records opening = is_own ∙ ap (λ (l : List Entry). own_tree l t tree) e ∙ first e in
        let told_ : begun (records opening) stamp t ≡ tables_after t.alloc t.settings opening (Opened 0 own.next_epoch stamp ∷ []) = refl in
        ap (λ (r : Records). begun r stamp t) whole ∙ told_
        ∙ ap (λ (x : ℕ). tables_after t.alloc t.settings opening (Opened x own.next_epoch stamp ∷ [])) (sym zero)
        ∙ ap (λ (l : List Entry). tables_after t.alloc t.settings opening (l ++ first_entry ∷ [])) (sym e)
    begun_told (one ∷ more) e =
        let some : log ≢ [] = λ none. (let x = sym none ∙ e in cc) in
        let found : own ≡ tree_landed landed t = is_own ∙ ap (λ (l : List Entry). own_tree l t tree) e in
        ap (λ (r : Records). begun r stamp t) found ∙ ap (λ (x : Tables). tables_moved x first_entry) (k.told_by some) ∙ sym (fold_push tables_moved (unopened t.alloc t.settings opening) log first_entry)

    pub begin_keeps : LogInvariant opening (log ++ first_entry ∷ []) (begun own stamp t)
    begin_keeps =
        let kept : List Op = k.history.kept ++ take landed t.awaiting in
        let is : own ≡ records kept = lands in
        let may : MayOpen (before opening log t k a) landed own.next_epoch stamp =
        record {
          landing = landed_may t tree (landed_of t tree);
          next = ap (λ (r : Records). r.next_epoch) is;
          in_range = over.epoch;
          rises = subst (λ (x : ℕ). x < stamp) (ap (λ (r : Records). r.stamp) is) low;
          fits = high;
        } in
        record {
          allowed = AllAllowed-push t.settings (opening_state opening) log first_entry k.allowed (subst (λ (s : Manager). Allowed t.settings s first_entry) (sym at_begin) may);
          history = initial_history kept;
          same = fold_push after (opening_state opening) log first_entry ∙ ap (λ (s : Manager). after s first_entry) at_begin;
          recorded = λ some. sym is;
          phase = begin_phase kept (sym is);
          fresh = λ none. absurd (never_nil log first_entry none);
          told_by = λ some. begun_told log refl;
        }
