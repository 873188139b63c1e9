-- Ids in order. They compare by stamp, number, attempt, epoch and sequence, one after the other, as `ApplicationId`, `ApplicationAttemptId`
-- and `ContainerId` of YARN do; that the epoch comes before the sequence follows from a container's number.
use Rattle.std.specs.Prelude.{List, IsPermutation}
use Rattle.std.specs.declared.cmp.Ordering.{Ordering}
use Rattle.std.specs.Ordering.{nat_cmp, ordering_then}
use Rattle.std.specs.List.Sorted.{IsSorted}
use Rattle.rm_types.specs.declared.ids.AppId.{AppId}
use Rattle.rm_types.specs.declared.ids.AttemptId.{AttemptId}
use Rattle.rm_types.specs.declared.ids.ContainerId.{ContainerId}

-- applications compare by their stamps, then by their numbers
abbrev pub app_cmp : AppId → AppId → Ordering
app_cmp a b = ordering_then (nat_cmp a.stamp b.stamp) (nat_cmp a.number b.number)

-- attempts by their applications, then by their numbers
abbrev pub attempt_cmp : AttemptId → AttemptId → Ordering
attempt_cmp a b = ordering_then (app_cmp a.app b.app) (nat_cmp a.number b.number)

-- containers by their attempts, then by their epochs, then by their sequences
abbrev pub container_cmp : ContainerId → ContainerId → Ordering
container_cmp a b = ordering_then (attempt_cmp a.attempt b.attempt) (ordering_then (nat_cmp a.epoch b.epoch) (nat_cmp a.seq b.seq))

-- a list has these containers, each as often as it is there, in ascending order
pub record Ascend (ids list : List ContainerId) : Type 0 where
  pub same : IsPermutation ids list
  pub order : IsSorted container_cmp list
