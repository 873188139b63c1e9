-- A life begins over whatever is recorded, issues its Epoch, and is open once that is kept.
use Rattle.rm_invariant.proofs.Common.{◌≡◌, ◌<◌, ◌^◌, ℕ, List, [], ◌∷◌, Bool, true, false, Option, None, Some, drop, refl, sym, ◌∙◌, ap, subst, arith, if◌then◌else◌, flat_map, list_any, How, Op, AppRecord, AttemptRecord, Records, last_attempt, records, after, Allowed, Manager, MainEvent, Tables, main_worked, kept, begun, handed_out, main_step, main_by, main_of, History, live_state, abstract_life, AppId, AttemptId, AppRow, ContainerId, Row, BookOf, Scene, row_of, record_of, has_container, recovered_row, recovered_rows, abstract_scene}
use Rattle.std.specs.Prelude.{is_some}
use Rattle.rm_types.specs.declared.entries.Entry.TheVariants.{Kept as KeptEntry}
use Rattle.rm_types.specs.declared.operations.Op.TheVariants as ops
use Rattle.rm_tables.specs.declared.events.MainEvent.TheVariants as mains
use Rattle.rm_refinement.specs.History.{initial_history, abstract_state}
use Rattle.rm_invariant.specs.Core.{PreservesCore}
use Rattle.rm_invariant.specs.messages.Ranges.{KeepsLimits}
use Rattle.rm_invariant.proofs.messages.FittingMoves.{opened_fits}
use Rattle.rm_invariant.proofs.messages.Shapes.{book_of}
use Rattle.rm_invariant.proofs.messages.MarkedOps.{opened_on_way}
use Rattle.rm_invariant.specs.opening.Begun.{IsBegun, IsStored}
use Rattle.rm_invariant.proofs.opening.Auxiliary.{opened_sides, opened_whole}
use Rattle.rm_invariant.specs.bounds.InBounds.{AreRecords}
use Rattle.rm_invariant.proofs.bounds.KeptOps.{handed_ranged, kept_ranged}
use Rattle.rm_invariant.proofs.bounds.MainEvents.{epoch_ranged}
use Rattle.rm_invariant.proofs.opening.Bounds.{begun_ranged}
use Rattle.rm_invariant.proofs.resting.Names.{step_apart}
use Rattle.rm_invariant.proofs.measure.MainEvents.{epoch_start_lighter}
use Rattle.rm_invariant.proofs.measure.KeptOps.{epoch_lighter}
use Rattle.rm_invariant.specs.Phases.{Beginning, SimulatesInternal, Saving, Starting, running, saving}
use Rattle.rm_invariant.specs.Invariant.{NoneOpens, LifeInvariant, is_epoch_start}
use Rattle.rm_invariant.proofs.Staying.{none_more}
use Rattle.rm_laws.specs.FirstAttempts.{FirstStays}
use Rattle.rm_invariant.proofs.nodes.Astray.{held_first}
use Rattle.rm_model.specs.Changes.{life_keeps}
use Rattle.std.proofs.Common.{option_map}
use Rattle.rm_book.specs.Books.{TellUpTo}
use Rattle.rm_refinement.specs.Services.{LateAgrees}
use Rattle.rm_invariant.specs.auxiliary.Around.{AroundInvariant}
use Rattle.rm_invariant.proofs.auxiliary.AroundEvents.{around_in, firsts_told, same_some}
use Rattle.rm_invariant.proofs.opening.Apps.{recovered_found}

-- the tables of a life that stands tell it
pub told_standing : (h : History) (t : Tables) → t.alive ≡ true → abstract_state h t ≡ live_state h t
told_standing h t a = rw a refl

-- a life that is beginning
module _ (h : History) (t : Tables) (b : Beginning h t) where
  pub stands : t.alive ≡ true
  stands = ap (λ (x : Tables). x.alive) b.begun.tables

  pub closed : t.is_open ≡ false
  closed = ap (λ (x : Tables). x.is_open) b.begun.tables

  pub unblown : t.blown ≡ false
  unblown = ap (λ (x : Tables). x.blown) b.begun.tables

  pub no_sched : t.sched ≡ []
  no_sched = ap (λ (x : Tables). x.sched) b.begun.tables

  pub recorded : records h.kept ≡ t.tree
  recorded = b.begun.recorded

  -- it is still, after a change of what waits and what awaits
  still : (next : Tables) → next ≡ record t { main = next.main; awaiting = next.awaiting; handed = next.handed } → IsBegun h next
  still next is =
      subst (IsBegun h) (sym is)
      (record {
        new = b.begun.new;
        recorded = b.begun.recorded;
        stored = b.begun.stored;
        tables = ap (λ (x : Tables). record x { main = next.main; awaiting = next.awaiting; handed = next.handed }) b.begun.tables;
      })

-- A LIFE BEGINS

-- a life begins over records that a store may hold, under a stamp that is above the recorded one
pub begin_starts : (t : Tables) (tree : Records) (stamp : ℕ) (kept_ops : List Op) → records kept_ops ≡ tree → IsStored tree → AreRecords tree.apps → KeepsLimits t.settings → tree.next_epoch < 2 ^ 24 → tree.stamp < stamp → stamp < 2 ^ 63
    → Starting (initial_history kept_ops) (begun tree stamp t)
begin_starts t tree stamp kept_ops is stored few limits epoch rises fits =
    record {
      begins = record {
        begun = record { new = refl; recorded = is; stored = stored; tables = refl };
        limits = limits;
        ranged = begun_ranged tree stamp t few epoch;
        rises = rises;
        fits = fits;
      };
      main = refl;
      awaiting = refl;
      handed = refl;
    }

-- its first event: its Epoch is issued
pub start_leads : (h : History) (t : Tables) (rest : List MainEvent) → Starting h t → t.main ≡ mains.EpochStart ∷ rest
    → SimulatesInternal h t (main_worked (main_step mains.EpochStart t)).0 (main_worked (main_step mains.EpochStart t)).1
start_leads h t rest s front =
    let b = s.begins in
    let alive = stands h t b in
    let nothing : drop 1 t.main ≡ [] = rw s.main refl in
    let rises = b.rises in
    let fits = b.fits in
    record {
      leads = record {
        history = h;
        lawful = rw alive (record { closed = closed h t b; once = rw s.awaiting refl; follows = refl; of_life = refl });
        same = rw alive refl;
        recorded = recorded h t b;
        phase =
            saving (record {
              begins = record {
                begun = still h t b (main_worked (main_step mains.EpochStart t)).1 refl;
                limits = b.limits;
                ranged = epoch_ranged t b.ranged (omega (arith, rises), omega (arith, fits));
                rises = rises;
                fits = fits;
              };
              main = nothing;
              awaiting = rw s.awaiting refl;
            });
        settings = refl;
        alloc = refl;
      };
      decreases = epoch_start_lighter t rest front;
      stood = alive;
      stands = alive;
      blown = refl;
      served = refl;
    }

-- THE EPOCH IS HANDED AND KEPT

pub hand_saving : (h : History) (t : Tables) → Saving h t → Saving h (handed_out t)
hand_saving h t s =
    record {
      begins = record { begun = still h t s.begins (handed_out t) refl; limits = s.begins.limits; ranged = handed_ranged t s.begins.ranged; rises = s.begins.rises; fits = s.begins.fits };
      main = s.main;
      awaiting = s.awaiting;
    }

-- what a life opens with begins nothing
opening_none : (apps : List AppRecord) → list_any is_epoch_start (flat_map main_of apps) ≡ false
opening_none [] = refl
opening_none (app ∷ more) = none_more is_epoch_start (main_of app) (flat_map main_of more) (by app.ending (last_attempt app.attempts)) (opening_none more)
  where
    ended : (last : AttemptRecord) (b : Bool) → list_any is_epoch_start (if b then mains.AttemptDone (record { app = app.id; number = last.id.number }) ∷ [] else []) ≡ false
    ended last true = refl
    ended last false = refl

    by : (end : Option (How × List ℕ)) (last : Option AttemptRecord) → list_any is_epoch_start (main_by end last app.id) ≡ false
    by (Some end) last = refl
    by None None = refl
    by None (Some last) = ended last (is_some last.ending)

-- with the master of none of these rows anybody spoke
recovered_unspoken : (apps : List AppRecord) (rows : List (AppId × Option AppRow)) → rows ≡ recovered_rows apps → (id : AppId) (row : AppRow) → row_of rows id ≡ Some row → row.dialogue ≡ None
recovered_unspoken apps rows is id row found = by (record_of apps id) refl (sym (recovered_found apps id) ∙ ap (λ (l : List (AppId × Option AppRow)). row_of l id) (sym is) ∙ found)
  where
    by : (o : Option AppRecord) → record_of apps id ≡ o → option_map recovered_row o ≡ Some row → row.dialogue ≡ None
    by None there e = cc
    by (Some app) there e = let same : recovered_row app ≡ row = cc in ap (λ (one : AppRow). one.dialogue) (sym same)

-- so nothing came late to its attempt
none_late : (m : Scene) (t : Tables) (q : AttemptId) (o : Option AppRow) → ((row : AppRow) → o ≡ Some row → row.dialogue ≡ None) → LateAgrees m t q o
none_late m t q None silent = tt
none_late m t q (Some row) silent = λ lives. (let none = silent row refl in rw none tt)

module _ (h : History) (t : Tables) (s : Saving h t) (next stamp : ℕ) (rest : List Op) (front : t.awaiting ≡ ops.Epoch next stamp ∷ rest) (handed : t.handed ≡ true) where
  alone : rest ≡ []
  alone = let e = sym s.awaiting ∙ front in cc

  only : t.awaiting ≡ ops.Epoch next stamp ∷ []
  only = front ∙ ap (λ (l : List Op). ops.Epoch next stamp ∷ l) alone

  abbrev opened : Tables
  opened = kept (ops.Epoch next stamp) t

  open_whole : PreservesCore t.settings h t (KeptEntry (ops.Epoch next stamp), opened)
  open_whole = opened_whole h t s.begins.begun next stamp only s.main handed

  begins_nothing : NoneOpens opened
  begins_nothing = record { main = none_more is_epoch_start (flat_map main_of t.tree.apps) (mains.Retire ∷ []) (opening_none t.tree.apps) refl; awaiting = rw only refl }

  no_nodes : t.nodes ≡ []
  no_nodes = ap (λ (x : Tables). x.nodes) s.begins.begun.tables

  no_book : open_whole.next.book ≡ []
  no_book =
      let none : h.book ≡ [] = ap (λ (x : History). x.book) s.begins.begun.new in
      let same : Some h.book ≡ Some open_whole.next.book = ap book_of open_whole.step.same in
      let book : h.book ≡ open_whole.next.book = cc in
      sym book ∙ none

  -- nothing left, nothing is pending, no row stands, and nobody speaks with a master
  around_opened : AroundInvariant open_whole.next opened
  around_opened =
      let b = s.begins in
      let w = open_whole in
      let told : (h.book, h.endings.left, h.endings.pending) ≡ (w.next.book, w.next.endings.left, w.next.endings.pending) = same_some (ap around_in w.step.same) in
      let left : w.next.endings.left ≡ [] = sym (ap (λ (p : List Row × List ContainerId × List ContainerId). p.1) told) ∙ ap (λ (x : History). x.endings.left) b.begun.new in
      let waiting : w.next.endings.pending ≡ [] = sym (ap (λ (p : List Row × List ContainerId × List ContainerId). p.2) told) ∙ ap (λ (x : History). x.endings.pending) b.begun.new in
      let departed : t.departed ≡ [] = ap (λ (x : Tables). x.departed) b.begun.tables in
      let pending : t.pending ≡ [] = ap (λ (x : Tables). x.pending) b.begun.tables in
      let rows : opened.rows ≡ recovered_rows t.tree.apps = ap (λ (x : Tables). x.rows) b.begun.tables in
      let in_book : t.book ≡ record { rows = []; nodes = []; added = 0 } = ap (λ (x : Tables). x.book) b.begun.tables in
      let silent : (id : AppId) (row : AppRow) → row_of opened.rows id ≡ Some row → row.dialogue ≡ None = recovered_unspoken t.tree.apps opened.rows rows in
      record {
        agrees = record {
          firsts = firsts_told t.settings w.next opened w.whole (opened_sides h t b.begun next stamp only s.main handed w).firsts;
          departed = λ r id below. ap (λ (ids : List ContainerId). has_container ids id) (departed ∙ sym left);
          pending = λ r id. ap (λ (ids : List ContainerId). has_container ids id) (pending ∙ sym waiting);
          numbers = λ r. subst (λ (book : BookOf). TellUpTo 0 book.added book.rows) (sym in_book) (omega arith);
          late = λ r q. none_late (abstract_scene w.next opened) opened q (row_of opened.rows q.app) (λ row found. silent q.app row found);
        };
        told = λ id row found. let none = silent id row found in rw none tt;
      }

  opened_running : LifeInvariant open_whole.next opened
  opened_running =
      let b = s.begins in
      let w = open_whole in
      record {
        alive = stands h t b;
        calm = λ blown. refl;
        handed = λ is. cc;
        limits = b.limits;
        whole = w.whole;
        sides = opened_sides h t b.begun next stamp only s.main handed w;
        fits = opened_fits opened b.begun.stored.sound (ap (λ (x : Tables). x.rows) b.begun.tables);
        ranged = kept_ranged t b.ranged (ops.Epoch next stamp) rest front;
        reported = let none = no_nodes in λ name row found. cc;
        on_way = opened_on_way w.next opened no_book;
        apart = step_apart t.settings h t _ w.next _ w.step (rw b.begun.new tt);
        begun = begins_nothing;
        around = around_opened;
        held = λ c. subst (λ (m : Manager). FirstStays c.attempt m.kept m.life) w.step.same (held_first h.kept next stamp (record (life_keeps (abstract_life h t) (ops.Epoch next stamp)) { handed = false }) (ap (λ (x : History). x.first) b.begun.new) c);
      }

  -- the life's Epoch is kept: it is open
  pub open_leads : SimulatesInternal h t (KeptEntry (ops.Epoch next stamp)) opened
  open_leads =
      let b = s.begins in
      let w = open_whole in
      let alive = stands h t b in
      let is = told_standing h t alive in
      record {
        leads = record {
          history = w.next;
          lawful = subst (λ (m : Manager). Allowed t.settings m (KeptEntry (ops.Epoch next stamp))) (sym is) w.step.lawful;
          same = ap (λ (m : Manager). after m (KeptEntry (ops.Epoch next stamp))) is ∙ w.step.same ∙ sym (told_standing w.next opened alive);
          recorded = w.step.keeps.recorded;
          phase = running opened_running;
          settings = refl;
          alloc = refl;
        };
        decreases = epoch_lighter t next stamp rest front alive (closed h t b) s.main (no_sched h t b);
        stood = alive;
        stands = alive;
        blown = refl;
        served = refl;
      }
