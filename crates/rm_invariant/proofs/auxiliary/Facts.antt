-- What the events of each queue stand on is part of what holds of an open life.
use Rattle.rm_invariant.proofs.Common.{◌≡◌, Bool, ◌&&◌, false, List, [], ◌∷◌, refl, ap, list_any, ContainerId, Tables, History, abstract_scene, RefinesLife}
use Rattle.std.specs.Prelude.{unwrap_or}
use Rattle.rm_model.specs.Containers.{is_astray}
use Rattle.rm_model.specs.Nodes.{beat_at}
use Rattle.rm_invariant.specs.messages.Ranges.{KeepsLimits}
use Rattle.std.proofs.Common.{nat_lt}
use Rattle.rm_invariant.specs.events.MainFacts.{MainFacts}
use Rattle.rm_invariant.specs.events.SchedFacts.{SchedFacts}
use Rattle.rm_invariant.specs.Core.{CoreInvariant}
use Rattle.rm_invariant.specs.auxiliary.Invariant.{AuxInvariant}
use Rattle.rm_invariant.proofs.auxiliary.SchedEvents.{asks_split}
use Rattle.rm_invariant.proofs.opening.Starting.{starts_lawful}
use Rattle.rm_refinement.proofs.Missing.{astray_same, pending_same}

pub sched_facts_of : (h : History) (t : Tables) → RefinesLife (abstract_scene h t) t → AuxInvariant h t → SchedFacts t.settings h t
sched_facts_of h t shows sides =
    let asks = asks_split t sides.others sides.single in
    record {
      firsts = sides.firsts;
      registered = sides.present;
      current = asks.1;
      once = asks.0;
      apps = sides.completes.once;
      waits = ap (λ (b : Bool). b && nat_lt t.clock t.settings.wait_ms) sides.waits;
      served = sides.served;
      astray = astray_same (abstract_scene h t) t shows;
      pending = pending_same (abstract_scene h t) t shows;
    }

pub main_facts_of : (h : History) (t : Tables) → CoreInvariant t.settings h t → AuxInvariant h t → MainFacts t.settings h t
main_facts_of h t w sides = record { set = refl; completes = sides.completes; apt = sides.apt; silent = sides.silent; starts = starts_lawful t.settings h t w.keeps sides.lists }
