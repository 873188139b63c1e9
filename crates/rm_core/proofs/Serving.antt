-- A message is answered as the judge says, and the life goes on.
use Rattle.std.proofs.Common.{◌≤◌, ◌<◌, ◌+◌, Bool, sym, subst}
use Rattle.rm_types.specs.declared.entries.Entry.TheVariants.{Served}
use Rattle.rm_types.specs.declared.messages.Message.{Message}
use Rattle.rm_types.specs.declared.messages.Message.TheVariants as messages
use Rattle.rm_types.specs.declared.replies.Reply.{Reply}
use Rattle.rm_types.specs.Lanes.{sender_of}
use Rattle.rm_types.specs.Limits.{most_served}
use Rattle.rm_tables.specs.declared.tables.Tables.{Tables}
use Rattle.rm_refinement.specs.History.{History, abstract_scene}
use Rattle.rm_refinement.specs.Clients.{RefinesForClients}
use Rattle.rm_invariant.specs.messages.Ranges.{IsMessage}
use Rattle.rm_invariant.specs.measure.Measure.{message_measure, measure}
use Rattle.rm_invariant.proofs.measure.Messages.{message_weighs}
use Rattle.rm_invariant.specs.Preserves.{PreservesLife}
use Rattle.rm_invariant.specs.Invariant.{LifeInvariant}
use Rattle.rm_invariant.proofs.MessagesPreserve.{client_runs, client_shown, clock_runs, life_shown, master_runs, node_runs}
use Rattle.rm_core.specs.Queues.{after_answer, answered_where, served_moved}
use Rattle.rm_core.specs.Serving.{IsOpenReply, IsReply, IsReplyWhere}

-- the tables show clients the scene of an open life
shows : (h : History) (t : Tables) → LifeInvariant h t → RefinesForClients (abstract_scene h t) t
shows h t r = let c = client_shown h t r in record { records = c.records; stamp = c.stamp; given = c.given; going = c.going; live = c.live; retired = c.retired; at = c.at }

-- the life goes on
open_goes : (h : History) (t : Tables) → LifeInvariant h t → t.served < most_served → (message : Message) (reply : Reply) → IsMessage message → IsOpenReply t message reply
    → PreservesLife h t (Served (sender_of message) message reply) (record (after_answer message reply t) { served = t.served + 1 })
open_goes h t r few (messages.Client user ask) reply in_range answers = client_runs h t r few user ask reply in_range (answers (abstract_scene h t) (shows h t r))
open_goes h t r few (messages.Master attempt ask) reply in_range answers = master_runs h t r few attempt ask reply in_range (answers (abstract_scene h t) (life_shown h t r))
open_goes h t r few (messages.Node name ask) reply in_range answers = node_runs h t r few name ask reply in_range.0 in_range.1 (answers (abstract_scene h t) (life_shown h t r))
open_goes h t r few (messages.Clock ask) reply in_range answers = clock_runs h t r few ask reply in_range (answers (abstract_scene h t) (life_shown h t r))

pub serve_goes : (h : History) (t : Tables) → LifeInvariant h t → t.served < most_served → (message : Message) (reply : Reply) → IsMessage message → IsReply t message reply → PreservesLife h t (Served (sender_of message) message reply) (served_moved message reply t)
serve_goes h t r few message reply in_range answers =
    let open_ = r.whole.keeps.is_open in
    let open_answers : IsOpenReply t message reply = subst (λ (b : Bool). IsReplyWhere b t message reply) open_ answers in
    subst (λ (b : Bool). PreservesLife h t (Served (sender_of message) message reply) (record (answered_where b message reply t) { served = t.served + 1 })) (sym open_) (open_goes h t r few message reply in_range open_answers)

-- with little more to do
open_weighs : (h : History) (t : Tables) → LifeInvariant h t → (message : Message) (reply : Reply) → IsMessage message → measure (record (after_answer message reply t) { served = t.served + 1 }) ≤ measure t + message_measure
open_weighs h t r (messages.Client user ask) reply in_range = message_weighs t r.limits (messages.Client user ask) reply (t.served + 1) in_range
open_weighs h t r (messages.Master attempt ask) reply in_range = message_weighs t r.limits (messages.Master attempt ask) reply (t.served + 1) in_range
open_weighs h t r (messages.Node name ask) reply in_range = message_weighs t r.limits (messages.Node name ask) reply (t.served + 1) in_range
open_weighs h t r (messages.Clock ask) reply in_range = message_weighs t r.limits (messages.Clock ask) reply (t.served + 1) in_range

pub serve_weighs : (h : History) (t : Tables) → LifeInvariant h t → (message : Message) (reply : Reply) → IsMessage message → measure (served_moved message reply t) ≤ measure t + message_measure
serve_weighs h t r message reply in_range =
    subst (λ (b : Bool). measure (record (answered_where b message reply t) { served = t.served + 1 }) ≤ measure t + message_measure) (sym r.whole.keeps.is_open) (open_weighs h t r message reply in_range)
