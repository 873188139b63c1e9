-- The order of moves of workers in threads of their own. This project's own.
use Rattle.rm_lives.specs.Order.{AllReady, Order}

-- any lane that is ready may move next: nothing else is told of the entries of a log, nothing stops a run, and nothing is left of the order; a life of
-- which no operation was refused goes down only at rest
abbrev pub any_order : Order
any_order =
    record {
      keeps = AllReady;
      rests = Unit {0};
      stops = λ new script opening log place. ⊥;
      ends = λ log. Unit {0};
    }
