-- The plain policy: each time the first lane that is ready moves, in this order.
use Rattle.std.specs.Prelude.{List, [], ◌∷◌, Option, find}
use Rattle.rm_types.specs.declared.messages.Lane.{Lane}
use Rattle.rm_types.specs.declared.messages.Lane.TheVariants.{Client, Master, Node, Clock, Main, Sched, Hand, Write, End, Begin}
use Rattle.rm_desk.specs.Lanes.{is_ready_at}
use Rattle.rm_desk.specs.View.{DeskView}

-- the queues before the feeds, the feeds before the store, and the script's own moves last
abbrev pub policy : List Lane
policy = Main ∷ Sched ∷ Client ∷ Master ∷ Node ∷ Clock ∷ Hand ∷ Write ∷ End ∷ Begin ∷ []

-- the first lane that is ready, in this order
abbrev pub first_ready : DeskView → Option Lane
first_ready d = find (is_ready_at d) policy
