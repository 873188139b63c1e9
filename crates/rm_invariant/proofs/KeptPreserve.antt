-- What awaits is handed to the store of an open life, and kept: the life is open still, with less to do.
use Rattle.rm_invariant.proofs.Common.{◌≡◌, ◌||◌, List, [], ◌∷◌, Bool, true, false, refl, sym, ◌∙◌, subst, list_any, AttemptId, Op, Settings, IsOperation, fits_records, is_epoch_op, Tables, kept, handed_out, refused, History}
use Rattle.std.proofs.Common.{◌≢◌}
use Rattle.rm_types.specs.declared.entries.Entry.TheVariants.{Handed, Kept as KeptEntry}
use Rattle.rm_types.specs.declared.operations.Op.TheVariants as ops
use Rattle.rm_invariant.specs.messages.Ranges.{KeepsLimits}
use Rattle.rm_invariant.specs.Core.{CoreInvariant, PreservesCore}
use Rattle.rm_invariant.proofs.events.KeptMoves.{app_end_kept_whole, app_kept_whole, attempt_end_kept_whole, attempt_kept_whole, remove_kept_whole}
use Rattle.rm_invariant.proofs.messages.FittingMoves.{kept_fits}
use Rattle.rm_invariant.proofs.messages.Marked.{still_on_way}
use Rattle.rm_invariant.proofs.messages.MarkedOps.{kept_on_way}
use Rattle.rm_invariant.specs.auxiliary.Invariant.{AuxInvariant}
use Rattle.rm_invariant.proofs.auxiliary.KeptOps.{app_sides, attempt_sides, end_sides, ended_sides, removed_sides}
use Rattle.rm_invariant.proofs.bounds.KeptOps.{first_awaiting, kept_ranged, with_store as store_ranged}
use Rattle.rm_invariant.proofs.bounds.NextFits.{next_fits}
use Rattle.rm_invariant.proofs.resting.Names.{step_apart}
use Rattle.rm_invariant.proofs.measure.KeptOps.{kept_lighter}
use Rattle.rm_invariant.proofs.measure.Lives.{hand_lighter}
use Rattle.rm_invariant.proofs.measure.Reported.{kept_few}
use Rattle.rm_invariant.specs.Preserves.{PreservesLifeInternal}
use Rattle.rm_invariant.specs.Invariant.{LifeInvariant}
use Rattle.rm_invariant.proofs.Staying.{SchedStays, kept_stays}
use Rattle.rm_invariant.proofs.Held.{held_after, not_epoch}
use Rattle.rm_invariant.proofs.auxiliary.AroundKept.{kept_around}

module _ (h : History) (t : Tables) (r : LifeInvariant h t) where
  -- the first awaiting operation fits what is recorded, and its parts are in their ranges
  pub first_fits : (op : Op) (rest : List Op) → t.awaiting ≡ op ∷ rest → fits_records t.tree op ≡ true
  first_fits op rest front = next_fits t.settings h t r.whole op rest front (not_epoch t.awaiting op rest front r.begun.awaiting)

  pub first_framed : (op : Op) (rest : List Op) → t.awaiting ≡ op ∷ rest → IsOperation op
  first_framed op rest front = first_awaiting t r.ranged op rest front

  -- HANDING

  -- whether an operation is with the store, or was refused, is nothing to what was gathered
  with_store : (handed blown : Bool) → (handed ≡ true → t.awaiting ≢ []) → (blown ≡ true → handed ≡ false) → LifeInvariant h (record t { handed = handed; blown = blown })
  with_store handed blown awaits calm =
      let w = r.whole in
      let s = r.sides in
      let next : Tables = record t { handed = handed; blown = blown } in
      record {
        alive = r.alive;
        calm = calm;
        handed = awaits;
        limits = r.limits;
        whole = record {
          keeps = record { is_open = w.keeps.is_open; recorded = w.keeps.recorded; all = w.keeps.all };
          marks = w.marks;
          sound = w.sound;
          agrees = record { rows = w.agrees.rows; nodes = w.agrees.nodes; asks = w.agrees.asks; closings = w.agrees.closings; masters = w.agrees.masters };
          nodes = w.nodes;
          book = record { apart = w.book.apart; rows = w.book.rows; left = w.book.left; launches = w.book.launches };
        };
        sides = record {
          completes = record { once = s.completes.once; in_order = s.completes.in_order; early = s.completes.early; retires = s.completes.retires };
          apt = s.apt;
          silent = s.silent;
          firsts = s.firsts;
          none_first = s.none_first;
          present = s.present;
          others = s.others;
          single = s.single;
          waits = s.waits;
          served = s.served;
          offers = s.offers;
          lists = record { order = s.lists.order; going = s.lists.going };
          finishes = s.finishes;
          unfinished = s.unfinished;
          retired = s.retired;
        };
        fits = r.fits;
        held = r.held;
        around = record { agrees = record { firsts = r.around.agrees.firsts; departed = r.around.agrees.departed; pending = r.around.agrees.pending; numbers = r.around.agrees.numbers; late = r.around.agrees.late }; told = r.around.told };
        ranged = store_ranged t r.ranged handed blown;
        reported = r.reported;
        on_way = still_on_way h h t next refl refl refl r.on_way;
        apart = r.apart;
        begun = record { main = r.begun.main; awaiting = r.begun.awaiting };
      }

  -- the first awaiting operation is handed to the store
  pub hand_runs : t.awaiting ≢ [] → t.handed ≡ false → t.blown ≡ false → PreservesLifeInternal h t Handed (handed_out t)
  hand_runs some free unblown =
      let runs = with_store true t.blown (λ is. some) (λ blown. absurd (let x = sym unblown ∙ blown in cc)) in
      record {
        goes = record {
          history = h;
          step = record { lawful = record { some_awaits = some; none_handed = free; not_blown = unblown }; same = refl; keeps = runs.whole.keeps };
          runs = runs;
          stays = record { settings = refl; alloc = refl; alive = refl; epoch = refl; blown = refl; calm = λ c. runs.calm; handed = λ before is. some; begun = λ b. record { main = b.main; awaiting = b.awaiting } };
        };
        decreases = hand_lighter t free some;
        given = refl;
        served = refl;
      }

  -- the store refuses the operation that is with it
  pub blow_running : LifeInvariant h (refused t)
  blow_running = with_store false true (λ is. cc) (λ blown. refl)

  -- KEEPING

  module _ (handed : t.handed ≡ true) where
    -- a whole step that keeps an operation
    record Keeping (op : Op) : Type 0 where
      whole : PreservesCore t.settings h t (KeptEntry op, kept op t)
      sides : AuxInvariant whole.next (kept op t)

    keeping : (op : Op) (rest : List Op) → t.awaiting ≡ op ∷ rest → is_epoch_op op ≡ false → fits_records t.tree op ≡ true → IsOperation op → Keeping op
    keeping (ops.Epoch next stamp) rest front other fits framed = cc
    keeping (ops.App id s) rest front other fits framed =
        let step = app_kept_whole t.settings h t r.whole handed r.held id s rest front fits in
        record { whole = step; sides = app_sides h t r.whole r.sides id s rest front step }
    keeping (ops.Attempt id master node) rest front other fits framed =
        let apt : master.attempt ≡ id = framed.1.attempt in
        let step : PreservesCore t.settings h t (KeptEntry (ops.Attempt id master node), kept (ops.Attempt id master node) t) =
        subst (λ (a : AttemptId). t.awaiting ≡ ops.Attempt a master node ∷ rest → fits_records t.tree (ops.Attempt a master node) ≡ true → PreservesCore t.settings h t (KeptEntry (ops.Attempt a master node), kept (ops.Attempt a master node) t)) apt
        (λ f g. attempt_kept_whole t.settings h t r.whole handed r.held master node rest f g) front fits in
        record { whole = step; sides = attempt_sides h t r.whole r.sides id master node rest front apt step }
    keeping (ops.AttemptEnd id how text) rest front other fits framed =
        let step = attempt_end_kept_whole t.settings h t r.whole handed r.held id how text rest front fits in
        record { whole = step; sides = end_sides h t r.whole r.sides id how text rest front step }
    keeping (ops.AppEnd id how text) rest front other fits framed =
        let step = app_end_kept_whole t.settings h t r.whole handed r.held id how text rest front fits in
        record { whole = step; sides = ended_sides h t r.whole r.sides id how text rest front step }
    keeping (ops.Remove id) rest front other fits framed =
        let step = remove_kept_whole t.settings h t r.whole handed r.held id rest front fits in
        record { whole = step; sides = removed_sides h t r.whole r.sides id rest front step }

    -- the operation that is with the store is kept
    pub kept_runs : (op : Op) (rest : List Op) → t.awaiting ≡ op ∷ rest → PreservesLifeInternal h t (KeptEntry op) (kept op t)
    kept_runs op rest front =
        let other = not_epoch t.awaiting op rest front r.begun.awaiting in
        let k = keeping op rest front other (first_fits op rest front) (first_framed op rest front) in
        let s = k.whole in
        let all : SchedStays t (kept op t) = kept_stays t op other in
        let stays = all.stays in
        record {
          goes = record {
            history = s.next;
            step = s.step;
            runs = record {
              alive = stays.alive ∙ r.alive;
              calm = stays.calm r.calm;
              handed = stays.handed r.handed;
              limits = subst KeepsLimits (sym stays.settings) r.limits;
              whole = subst (λ (one : Settings). CoreInvariant one s.next (kept op t)) (sym stays.settings) s.whole;
              sides = k.sides;
              fits = kept_fits t.settings h t r.whole.keeps r.fits op rest front other s;
              ranged = kept_ranged t r.ranged op rest front;
              reported = kept_few op t r.reported;
              on_way = kept_on_way t.settings h t r.whole.keeps r.on_way op rest front other s;
              apart = step_apart t.settings h t _ s.next _ s.step r.apart;
              begun = stays.begun r.begun;
              held = held_after h t r (KeptEntry op) s.next (kept op t) s.step;
              around = kept_around h t r.whole r.around r.fits op rest front other s k.sides.firsts;
            };
            stays = stays;
          };
          decreases = kept_lighter t op rest front r.whole.keeps.is_open other;
          given = all.given;
          served = all.served;
        }
