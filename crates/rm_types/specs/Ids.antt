-- Tests of ids: two ids are the same where all their parts are.
use Rattle.std.specs.Prelude.{Bool, ◌==◌, ◌&&◌}
use Rattle.rm_types.specs.declared.ids.AppId.{AppId}
use Rattle.rm_types.specs.declared.ids.AttemptId.{AttemptId}
use Rattle.rm_types.specs.declared.ids.ContainerId.{ContainerId}

-- two applications are one
abbrev pub is_app : AppId → AppId → Bool
is_app a b = (a.stamp == b.stamp) && (a.number == b.number)

-- two attempts are one
abbrev pub is_attempt : AttemptId → AttemptId → Bool
is_attempt a b = is_app a.app b.app && (a.number == b.number)

-- two containers are one
abbrev pub is_container : ContainerId → ContainerId → Bool
is_container a b = is_attempt a.attempt b.attempt && ((a.epoch == b.epoch) && (a.seq == b.seq))
