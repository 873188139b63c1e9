-- Each message of an open life is answered as the judge says, and counted, and the life is open still.
use Rattle.rm_invariant.proofs.Common.{◌≡◌, ◌+◌, ◌<◌, ℕ, List, Option, None, Some, refl, sym, ◌∙◌, subst, Entry, Served, AppId, AttemptId, ClientAsk, ClockAsk, MasterAsk, NodeAsk, Reply, Settings, Node, IsText, client_reply, is_known, master_reply, node_reply, AppRow, Tables, row_of, History, abstract_scene, RefinesLife, after_client, after_master, after_clock, after_node}
use Rattle.std.proofs.Common.{is_some}
use Rattle.rm_types.specs.declared.messages.Message.TheVariants as messages
use Rattle.rm_types.specs.declared.messages.Sender.TheVariants as senders
use Rattle.rm_types.specs.Limits.{most_served}
use Rattle.rm_model.specs.NodeReplies.{clock_reply}
use Rattle.rm_refinement.specs.Clients.{RefinesAt}
use Rattle.rm_refinement.specs.Services.{AgreesAround}
use Rattle.rm_invariant.specs.messages.Ranges.{IsClientAsk, IsClockAsk, IsMasterAsk, IsNodeAsk, KeepsLimits}
use Rattle.rm_invariant.specs.Core.{CoreInvariant, PreservesCore}
use Rattle.rm_invariant.specs.messages.Fits.{EachRowFits}
use Rattle.rm_invariant.specs.messages.Released.{ReleasesOnWay}
use Rattle.rm_invariant.specs.messages.Clients.{RefinesClientParts}
use Rattle.rm_invariant.proofs.messages.Beating.{node_whole}
use Rattle.rm_invariant.proofs.messages.Clients.{client_whole}
use Rattle.rm_invariant.proofs.messages.Clock.{clock_whole}
use Rattle.rm_invariant.proofs.messages.FittingMoves.{message_fits}
use Rattle.rm_invariant.proofs.messages.Life.{shows_life}
use Rattle.rm_invariant.proofs.messages.MarkedMessages.{master_on_way, message_on_way}
use Rattle.rm_invariant.proofs.messages.Masters.{master_whole}
use Rattle.rm_invariant.proofs.messages.Showing.{client_shows}
use Rattle.rm_invariant.specs.auxiliary.Invariant.{AuxInvariant}
use Rattle.rm_invariant.proofs.auxiliary.Messages.{client_sides, clock_sides, master_sides, node_sides}
use Rattle.rm_invariant.specs.bounds.InBounds.{InBounds}
use Rattle.rm_invariant.proofs.bounds.Messages.{client_judged, message_ranged}
use Rattle.rm_invariant.proofs.resting.Names.{step_apart}
use Rattle.rm_invariant.specs.measure.Reports.{FewReported}
use Rattle.rm_invariant.proofs.measure.Reported.{message_few}
use Rattle.rm_invariant.specs.Preserves.{PreservesLife, KeepsFixed}
use Rattle.rm_invariant.specs.Invariant.{LifeInvariant}
use Rattle.rm_invariant.proofs.Staying.{counted_stays, message_stays}
use Rattle.rm_invariant.proofs.Held.{held_after}
use Rattle.rm_invariant.specs.auxiliary.Around.{AroundInvariant}
use Rattle.rm_invariant.proofs.auxiliary.AroundMessages.{master_around, other_around}

-- what holds of an open life is nothing to how many messages it served
counted_whole : (settings : Settings) (g : History) (next : Tables) (served : ℕ) → CoreInvariant settings g next → CoreInvariant settings g (record next { served = served })
counted_whole settings g next served w =
    record {
      keeps = record { is_open = w.keeps.is_open; recorded = w.keeps.recorded; all = w.keeps.all };
      marks = w.marks;
      sound = w.sound;
      agrees = record { rows = w.agrees.rows; nodes = w.agrees.nodes; asks = w.agrees.asks; closings = w.agrees.closings; masters = w.agrees.masters };
      nodes = w.nodes;
      book = record { apart = w.book.apart; rows = w.book.rows; left = w.book.left; launches = w.book.launches };
    }

module _ (h : History) (t : Tables) (r : LifeInvariant h t) where
  -- a message is answered, and counted
  abbrev counted : Tables → Tables
  counted next = record next { served = t.served + 1 }

  -- what is told of a message, put together
  served_runs : (e : Entry) (next : Tables) (s : PreservesCore t.settings h t (e, next)) → KeepsFixed t next → AuxInvariant s.next (counted next) → EachRowFits next → InBounds (counted next) → FewReported next → ReleasesOnWay s.next next → AroundInvariant s.next next → PreservesLife h t e (counted next)
  served_runs e next s before sides fits ranged reported on_way a =
      let stays = counted_stays t next (t.served + 1) before in
      record {
        history = s.next;
        step = record { lawful = s.step.lawful; same = s.step.same; keeps = (counted_whole t.settings s.next next (t.served + 1) s.whole).keeps };
        runs = record {
          alive = stays.alive ∙ r.alive;
          calm = stays.calm r.calm;
          handed = stays.handed r.handed;
          limits = subst KeepsLimits (sym stays.settings) r.limits;
          whole = subst (λ (one : Settings). CoreInvariant one s.next (counted next)) (sym stays.settings) (counted_whole t.settings s.next next (t.served + 1) s.whole);
          sides = sides;
          fits = fits;
          ranged = ranged;
          reported = reported;
          on_way = on_way;
          apart = step_apart t.settings h t e s.next next s.step r.apart;
          begun = stays.begun r.begun;
          held = held_after h t r e s.next next s.step;
          around = record { agrees = record { firsts = a.agrees.firsts; departed = a.agrees.departed; pending = a.agrees.pending; numbers = a.agrees.numbers; late = a.agrees.late }; told = a.told };
        };
        stays = stays;
      }

  -- WHAT THE TABLES SHOW

  around : AgreesAround (abstract_scene h t) t
  around = r.around.agrees

  -- what the services of masters, nodes and the clock take to be shown
  pub life_shown : RefinesLife (abstract_scene h t) t
  life_shown = shows_life t.settings h t r.whole r.sides.finishes around

  -- and what that of clients does
  pub client_shown : RefinesClientParts (abstract_scene h t) t
  client_shown = client_shows t.settings h t r.whole r.sides.retired r.sides.lists r.fits

  -- an application is known where it has a row
  known : (id : AppId) → is_known (abstract_scene h t) id ≡ is_some (row_of t.rows id)
  known id = by (row_of t.rows id) (client_shown.at id)
    where
      by : (row : Option AppRow) → RefinesAt (abstract_scene h t) id row → is_known (abstract_scene h t) id ≡ is_some row
      by None at = at.unknown
      by (Some row) at = at.known

  -- EACH MESSAGE

  module _ (few : t.served < most_served) where
    pub client_runs : (user : List ℕ) (ask : ClientAsk) (reply : Reply) → IsClientAsk ask → reply ≡ client_reply t.settings (abstract_scene h t) user ask
        → PreservesLife h t (Served senders.Client (messages.Client user ask) reply) (counted (after_client ask reply t))
    client_runs user ask reply in_range is =
        let s = client_whole t.settings h t r.whole r.sides.retired user ask reply is in
        served_runs _ (after_client ask reply t) s (message_stays t (messages.Client user ask) reply) (client_sides h t r.sides (t.served + 1) r.whole known user ask reply is s)
        (message_fits t.settings h t r.fits life_shown.live (messages.Client user ask) reply tt _ s) (client_judged t.settings h t r.ranged few user ask reply in_range is) (message_few (messages.Client user ask) reply t in_range r.reported)
        (message_on_way t.settings h t r.on_way senders.Client (messages.Client user ask) reply s (λ attempt id asks release same so new. cc))
        (other_around h t r.whole r.around senders.Client (messages.Client user ask) reply tt s (client_sides h t r.sides (t.served + 1) r.whole known user ask reply is s).firsts)

    pub master_runs : (attempt : AttemptId) (ask : MasterAsk) (reply : Reply) → IsMasterAsk ask → reply ≡ master_reply t.settings (abstract_scene h t) attempt ask
        → PreservesLife h t (Served senders.Master (messages.Master attempt ask) reply) (counted (after_master attempt ask reply t))
    master_runs attempt ask reply in_range is =
        let s = master_whole t.settings h t r.whole refl r.sides.finishes around attempt ask reply in_range is in
        served_runs _ (after_master attempt ask reply t) s (message_stays t (messages.Master attempt ask) reply) (master_sides h t r.sides (t.served + 1) r.whole life_shown.live attempt ask reply in_range is s)
        (message_fits t.settings h t r.fits life_shown.live (messages.Master attempt ask) reply is _ s) (message_ranged t r.ranged few (messages.Master attempt ask) reply in_range) (message_few (messages.Master attempt ask) reply t in_range r.reported)
        (master_on_way t.settings h t r.on_way r.whole refl r.sides.finishes around attempt ask reply is s)
        (master_around h t r.whole r.around life_shown senders.Master attempt ask reply is s)

    pub node_runs : (name : List ℕ) (ask : NodeAsk) (reply : Reply) → IsText Node name → IsNodeAsk ask → reply ≡ node_reply (abstract_scene h t) name ask
        → PreservesLife h t (Served senders.Node (messages.Node name ask) reply) (counted (after_node name ask reply t))
    node_runs name ask reply named in_range is =
        let s = node_whole t.settings h t r.whole r.sides.offers name ask reply is in
        served_runs _ (after_node name ask reply t) s (message_stays t (messages.Node name ask) reply) (node_sides h t r.sides (t.served + 1) name ask reply s)
        (message_fits t.settings h t r.fits life_shown.live (messages.Node name ask) reply tt _ s) (message_ranged t r.ranged few (messages.Node name ask) reply (named, in_range)) (message_few (messages.Node name ask) reply t (named, in_range) r.reported)
        (message_on_way t.settings h t r.on_way senders.Node (messages.Node name ask) reply s (λ attempt id asks release same so new. cc))
        (other_around h t r.whole r.around senders.Node (messages.Node name ask) reply tt s (node_sides h t r.sides (t.served + 1) name ask reply s).firsts)

    pub clock_runs : (ask : ClockAsk) (reply : Reply) → IsClockAsk ask → reply ≡ clock_reply (abstract_scene h t) ask
        → PreservesLife h t (Served senders.Clock (messages.Clock ask) reply) (counted (after_clock ask reply t))
    clock_runs ask reply in_range is =
        let s = clock_whole t.settings h t r.whole ask reply is in
        served_runs _ (after_clock ask reply t) s (message_stays t (messages.Clock ask) reply) (clock_sides h t r.sides (t.served + 1) ask reply s)
        (message_fits t.settings h t r.fits life_shown.live (messages.Clock ask) reply tt _ s) (message_ranged t r.ranged few (messages.Clock ask) reply in_range) (message_few (messages.Clock ask) reply t in_range r.reported)
        (message_on_way t.settings h t r.on_way senders.Clock (messages.Clock ask) reply s (λ attempt id asks release same so new. cc))
        (other_around h t r.whole r.around senders.Clock (messages.Clock ask) reply tt s (clock_sides h t r.sides (t.served + 1) ask reply s).firsts)
