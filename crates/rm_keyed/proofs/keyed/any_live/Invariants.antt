use Rattle.std.proofs.Common.{◌≡◌, Bool}
use Rattle.std.specs.Fn.{FnReturnsAt}
use Rattle.std.specs.List.{list_any}
use Rattle.std.specs.Map.{keys_of}
use Rattle.rm_keyed.specs.Slots.{live}
use Rattle.rm_keyed.proofs.keyed.any_live.Given as goal

-- none has passed so far, so one passes exactly where one of those that are left does
abbrev pub invariant-slots : goal.invariant-slots
invariant-slots g l =
    (p : _) → ((key : _) (answer : Bool) → FnReturnsAt g.F.Fn l.test key answer → answer ≡ p key) → list_any p (keys_of (live l.slots.entries)) ≡ list_any p (keys_of (live l.key-iterator))
