-- Each cursor is at the first message of its sender, so none is passed.
use Rattle.rm_desk.proofs.Senders.{each_sender}
use Rattle.rm_desk.proofs.Takes.{all_left, points_first}
use Rattle.rm_desk.proofs.feed.Feed.from_items.Goals as goal

pub invariant_of-result : goal.invariant_of-result
invariant_of-result c = points_first _ c.args.messages (each_sender _ c.next_of-client.ensures c.next_of-master.ensures c.next_of-node.ensures c.next_of-clock.ensures)

pub returns : goal.returns
returns c = all_left _ c.args.messages (each_sender _ c.next_of-client.ensures c.next_of-master.ensures c.next_of-node.ensures c.next_of-clock.ensures)
