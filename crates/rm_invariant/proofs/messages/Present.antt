-- No node that registered is absent: each message keeps it.
use Rattle.rm_invariant.proofs.Common.{ℕ, List, Reply, NodeRow, Tables, beaten_row, changed_row, new_node_row, registered_node_row, Message}
use Rattle.rm_tables.specs.declared.nodes.NodeChange.TheVariants as of_node
use Rattle.rm_invariant.specs.events.Here.{NoneAbsent}
use Rattle.rm_invariant.proofs.events.Registered.{changes_registered, registered_more, registered_with}
use Rattle.rm_invariant.proofs.messages.MessageShapes.{NodesBy, message_shape}
use Rattle.rm_invariant.specs.messages.Outcomes.{after_message}

pub message_present : (message : Message) (reply : Reply) (t : Tables) → NoneAbsent t.nodes → NoneAbsent (after_message message reply t).nodes
message_present message reply t before = by message (after_message message reply t).nodes (message_shape t message reply).nodes
  where
    by : (message : Message) (next : List (List ℕ × NodeRow)) → NodesBy t.nodes message next → NoneAbsent next
    by message next (NodesBy.same one) = before
    by message next (NodesBy.put_so name turn capability running reply none) = registered_more name (new_node_row turn capability running reply) t.nodes none (λ e. cc) before
    by message next (NodesBy.registered_so name turn capability running reply) = registered_with (registered_node_row turn capability running reply) name t.nodes (λ one some e. cc) before
    by message next (NodesBy.beaten_so one name id reply) = registered_with (beaten_row id reply) name t.nodes (λ one some. some) before
    by message next (NodesBy.lost_so one name) = registered_with (changed_row of_node.Lose) name t.nodes (changes_registered of_node.Lose) before
