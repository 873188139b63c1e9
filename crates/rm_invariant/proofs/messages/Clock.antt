-- The clock is answered, as whole steps that keep all that holds of an open life: the time goes on, a node's lease runs out, a master's does.
use Rattle.rm_invariant.proofs.Common.{◌≡◌, ℕ, ◌+◌, List, [], ◌∷◌, ◌++◌, Bool, true, false, ◌||◌, Option, None, Some, refl, sym, ◌∙◌, ap, subst, Served, AttemptId, ClockAsk, Tick, ExpireNode, ExpireMaster, Reply, Settings, is_some_and, is_live, expired, is_waiting, judged_node, tidied, LifeState, Lost, Tables, changed_row, with_node, after_clock, PlainNode, tidied_same, with_same, History, abstract_life, abstract_scene}
use Rattle.rm_types.specs.declared.messages.Message.TheVariants as messages
use Rattle.rm_types.specs.declared.messages.Sender.TheVariants as senders
use Rattle.rm_types.specs.declared.replies.Reply.TheVariants.{Ok, Unknown}
use Rattle.rm_model.specs.NodeReplies.{clock_reply, may_expire}
use Rattle.rm_model.specs.Nodes.{is_ready, with_judged_node as with_told}
use Rattle.rm_model.specs.State.{NodeState}
use Rattle.rm_tables.specs.declared.events.MainEvent.TheVariants as mains
use Rattle.rm_tables.specs.declared.events.SchedEvent.TheVariants as scheds
use Rattle.rm_tables.specs.declared.nodes.NodeChange.TheVariants as of_node
use Rattle.rm_tracker.proofs.Same.{expires}
use Rattle.rm_invariant.proofs.nodes.Entries.{expire_good}
use Rattle.rm_invariant.proofs.masters.ServingLive.{expire_live_joins}
use Rattle.rm_invariant.specs.Core.{Nothing, CoreInvariant, PreservesCore}
use Rattle.rm_invariant.proofs.events.Leaving.{stepped_whole, tidied_holds}
use Rattle.rm_invariant.proofs.messages.Answered.{changed_whole, if_open, later_whole, still_whole}
use Rattle.rm_invariant.proofs.messages.Changes.{changed_holds, same_held}
use Rattle.rm_invariant.specs.events.Here.{astray_at}

-- a node that is found
found_node : (p : NodeState → Bool) (o : Option NodeState) → is_some_and p o ≡ true → (node : NodeState) × (o ≡ Some node)
found_node p None some = absurd (let x : false ≡ true = some in cc)
found_node p (Some node) some = (node, refl)

module _ (settings : Settings) (h : History) (t : Tables) (w : CoreInvariant settings h t) where
  -- the time goes on
  pub tick_whole : (time : ℕ) (reply : Reply) → reply ≡ clock_reply (abstract_scene h t) (Tick time) → PreservesCore settings h t (Served senders.Clock (messages.Clock (Tick time)) reply, after_clock (Tick time) reply t)
  tick_whole time reply is =
      subst (λ (one : Reply). PreservesCore settings h t (Served senders.Clock (messages.Clock (Tick time)) one, after_clock (Tick time) one t)) (sym is)
      (later_whole settings h t w (messages.Clock (Tick time)) Ok refl (t.clock + time) refl)

  -- a node's lease runs out
  node_lost : (name : List ℕ) → may_expire (abstract_scene h t) name ≡ true → PreservesCore settings h t (Served senders.Clock (messages.Clock (ExpireNode name)) Ok, after_clock (ExpireNode name) Ok t)
  node_lost name may =
      let k = found_node (λ node. is_waiting node.phase || is_ready node.phase) (judged_node h.nodes name) may in
      let changed : LifeState = record (abstract_life h t) { nodes = with_told expired name h.nodes } in
      changed_whole settings h t w (messages.Clock (ExpireNode name)) Ok (rw may refl) h.book (tidied changed).nodes t.book (with_node (changed_row of_node.Lose) name t.nodes) (scheds.NodeLost name ∷ []) refl
      (record { adds = λ q. refl; queueings = λ q. refl; removals = λ c. refl }) (same_held h.book) w.agrees.rows
      (tidied_same t.book (with_node (changed_row of_node.Lose) name t.nodes) h.book (with_told expired name h.nodes)
      (with_same t.book name (changed_row of_node.Lose) expired t.nodes h.nodes (λ one. refl) w.agrees.nodes (λ r o a b alike. let lost = expires r.state in rw lost (ap (λ (x : PlainNode). record x { phase = Lost }) alike))))
      (expire_good (astray_at settings h t) (abstract_scene h t) t.sched name k.0 k.1 w.nodes)
      (let holds = tidied_holds changed Nothing (changed_holds (abstract_life h t) expired name Nothing (λ one. refl) (λ one. refl) (λ one l. l) w.book) in
      record { apart = holds.apart; rows = holds.rows; left = holds.left; launches = holds.launches })

  pub expire_node_whole : (name : List ℕ) (reply : Reply) → reply ≡ clock_reply (abstract_scene h t) (ExpireNode name)
      → PreservesCore settings h t (Served senders.Clock (messages.Clock (ExpireNode name)) reply, after_clock (ExpireNode name) reply t)
  expire_node_whole name reply is = by (may_expire (abstract_scene h t) name) refl is
    where
      by : (b : Bool) → may_expire (abstract_scene h t) name ≡ b → reply ≡ clock_reply (abstract_scene h t) (ExpireNode name)
          → PreservesCore settings h t (Served senders.Clock (messages.Clock (ExpireNode name)) reply, after_clock (ExpireNode name) reply t)
      by true may is =
          let answer : reply ≡ Ok = rw may at is in
          subst (λ (one : Reply). PreservesCore settings h t (Served senders.Clock (messages.Clock (ExpireNode name)) one, after_clock (ExpireNode name) one t)) (sym answer) (node_lost name may)
      by false may is =
          let answer : reply ≡ Unknown = rw may at is in
          subst (λ (one : Reply). PreservesCore settings h t (Served senders.Clock (messages.Clock (ExpireNode name)) one, after_clock (ExpireNode name) one t)) (sym answer)
          (still_whole settings h t w (messages.Clock (ExpireNode name)) Unknown (rw may refl) refl)

  -- a master's lease runs out
  master_lost : (attempt : AttemptId) → is_live (abstract_scene h t) attempt ≡ true → PreservesCore settings h t (Served senders.Clock (messages.Clock (ExpireMaster attempt)) Ok, after_clock (ExpireMaster attempt) Ok t)
  master_lost attempt live =
      let answers : Ok ≡ clock_reply (abstract_scene h t) (ExpireMaster attempt) = rw live refl in
      let life : LifeState = record (abstract_life h t) { masters = record h.masters { expired = h.masters.expired ++ attempt ∷ [] } } in
      stepped_whole settings h t (Served senders.Clock (messages.Clock (ExpireMaster attempt)) Ok) (record t { main = t.main ++ mains.AttemptExpired attempt ∷ [] }) life w.keeps refl refl
      (record { next = _; joins = expire_live_joins settings h t w.keeps w.marks w.sound attempt live (answers ∙ sym (if_open t.is_open (clock_reply (abstract_scene h t) (ExpireMaster attempt)) _ w.keeps.is_open)) }) refl w.sound
      (record { rows = w.agrees.rows; nodes = w.agrees.nodes; asks = w.agrees.asks; closings = w.agrees.closings; masters = w.agrees.masters })
      w.nodes (record { apart = w.book.apart; rows = w.book.rows; left = w.book.left; launches = w.book.launches })

  pub expire_master_whole : (attempt : AttemptId) (reply : Reply) → reply ≡ clock_reply (abstract_scene h t) (ExpireMaster attempt)
      → PreservesCore settings h t (Served senders.Clock (messages.Clock (ExpireMaster attempt)) reply, after_clock (ExpireMaster attempt) reply t)
  expire_master_whole attempt reply is = by (is_live (abstract_scene h t) attempt) refl is
    where
      by : (b : Bool) → is_live (abstract_scene h t) attempt ≡ b → reply ≡ clock_reply (abstract_scene h t) (ExpireMaster attempt)
          → PreservesCore settings h t (Served senders.Clock (messages.Clock (ExpireMaster attempt)) reply, after_clock (ExpireMaster attempt) reply t)
      by true live is =
          let answer : reply ≡ Ok = rw live at is in
          subst (λ (one : Reply). PreservesCore settings h t (Served senders.Clock (messages.Clock (ExpireMaster attempt)) one, after_clock (ExpireMaster attempt) one t)) (sym answer) (master_lost attempt live)
      by false live is =
          let answer : reply ≡ Unknown = rw live at is in
          subst (λ (one : Reply). PreservesCore settings h t (Served senders.Clock (messages.Clock (ExpireMaster attempt)) one, after_clock (ExpireMaster attempt) one t)) (sym answer)
          (still_whole settings h t w (messages.Clock (ExpireMaster attempt)) Unknown (rw live refl) refl)

  -- the clock is answered
  pub clock_whole : (ask : ClockAsk) (reply : Reply) → reply ≡ clock_reply (abstract_scene h t) ask → PreservesCore settings h t (Served senders.Clock (messages.Clock ask) reply, after_clock ask reply t)
  clock_whole (Tick time) reply is = tick_whole time reply is
  clock_whole (ExpireNode name) reply is = expire_node_whole name reply is
  clock_whole (ExpireMaster attempt) reply is = expire_master_whole attempt reply is
