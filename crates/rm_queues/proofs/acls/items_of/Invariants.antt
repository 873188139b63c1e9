use Rattle.std.proofs.Common.{◌≡◌, take, length, map, not}
use Rattle.std.specs.List.{filter, slice_split}
use Rattle.rm_types.specs.AclTexts.{is_comma, trimmed}
use Rattle.rm_types.specs.Lists.{is_nil}
use Rattle.rm_queues.proofs.acls.items_of.Given as goal

-- the items of the parts so far
abbrev pub invariant-loop-item : goal.invariant-loop-item
invariant-loop-item l =
    l.items ≡ filter (λ item. not (is_nil item)) (map trimmed (take (length l.yielded) (slice_split is_comma l.part)))
