-- An open life with nothing in flight owes nothing, and its segment may settle.
use Rattle.rm_invariant.proofs.Common.{◌≡◌, [], true, refl, sym, subst, Records, records, Tables, History, abstract_life}
use Rattle.rm_types.specs.declared.entries.Entry.TheVariants.{Settled}
use Rattle.rm_model.specs.Owed.{Owed}
use Rattle.rm_invariant.specs.events.Here.{AreServed}
use Rattle.rm_invariant.proofs.messages.Marked.{none_marked, still_on_way}
use Rattle.rm_invariant.proofs.resting.Whole.{owes_nothing}
use Rattle.rm_invariant.specs.Phases.{Simulates, LifePhase, none, running, saving, shut, starting}
use Rattle.rm_invariant.specs.Invariant.{LifeInvariant}

-- where nothing is left to do the life is open
pub open_at_rest : (h : History) (t : Tables) → LifePhase h t → t.alive ≡ true → t.main ≡ [] → t.awaiting ≡ [] → LifeInvariant h t
open_at_rest h t (none n) a m w = absurd (let x = n.alive in cc)
open_at_rest h t (starting s) a m w = absurd (let x = s.main in cc)
open_at_rest h t (saving s) a m w = absurd (let x = s.awaiting in cc)
open_at_rest h t (shut s) a m w = absurd (s.awaiting w)
open_at_rest h t (running r) a m w = r

-- and nothing is owed, by what is kept
pub owes_none : (h : History) (t : Tables) → LifeInvariant h t → t.main ≡ [] → t.sched ≡ [] → t.awaiting ≡ []
    → Owed t.settings (record { records = records h.kept; awaiting = t.awaiting; life = abstract_life h t }) → ⊥
owes_none h t r m n w =
    subst (λ (x : Records). Owed t.settings (record { records = x; awaiting = t.awaiting; life = abstract_life h t }) → ⊥) (sym r.whole.keeps.recorded)
    (owes_nothing h t r.whole r.sides r.apart (none_marked h t r.on_way n) m n w)

-- the history after a segment settled: releases are forgotten
abbrev settled : History → History
settled h = record h { endings = record h.endings { releases = [] } }

settled_runs : (h : History) (t : Tables) → LifeInvariant h t → t.sched ≡ [] → LifeInvariant (settled h) t
settled_runs h t r n =
    let w = r.whole in
    let s = r.sides in
    let none : AreServed [] t.sched = rw n tt in
    record {
      alive = r.alive;
      calm = r.calm;
      handed = r.handed;
      limits = r.limits;
      whole = record {
        keeps = record { is_open = w.keeps.is_open; recorded = w.keeps.recorded; all = w.keeps.all };
        marks = w.marks;
        sound = w.sound;
        agrees = record { rows = w.agrees.rows; nodes = w.agrees.nodes; asks = w.agrees.asks; closings = w.agrees.closings; masters = w.agrees.masters };
        nodes = w.nodes;
        book = record { apart = w.book.apart; rows = w.book.rows; left = w.book.left; launches = w.book.launches };
      };
      sides = record {
        completes = s.completes;
        apt = s.apt;
        silent = s.silent;
        firsts = s.firsts;
        none_first = s.none_first;
        present = s.present;
        others = s.others;
        single = s.single;
        waits = s.waits;
        served = none;
        offers = s.offers;
        lists = record { order = s.lists.order; going = s.lists.going };
        finishes = s.finishes;
        unfinished = s.unfinished;
        retired = s.retired;
      };
      fits = r.fits;
      held = r.held;
      around = record { agrees = record { firsts = r.around.agrees.firsts; departed = r.around.agrees.departed; pending = r.around.agrees.pending; numbers = r.around.agrees.numbers; late = r.around.agrees.late }; told = r.around.told };
      ranged = r.ranged;
      reported = r.reported;
      on_way = still_on_way h (settled h) t t refl refl refl r.on_way;
      apart = r.apart;
      begun = r.begun;
    }

pub settle_leads : (h : History) (t : Tables) → LifePhase h t → t.alive ≡ true → t.main ≡ [] → t.sched ≡ [] → t.awaiting ≡ [] → Simulates h t Settled t
settle_leads h t phase a m n w =
    let r = open_at_rest h t phase a m w in
    record {
      history = settled h;
      lawful = rw a (record { none_awaits = w; owes_nothing = owes_none h t r m n w });
      same = rw a refl;
      recorded = r.whole.keeps.recorded;
      phase = running (settled_runs h t r n);
      settings = refl;
      alloc = refl;
    }
