use Rattle.std.proofs.Common.{◌≡◌, ◌++◌}
use Rattle.std.specs.Prelude.{option_map}
use Rattle.serde_json.specs.View.{members_view}
use Rattle.rm_cluster.specs.Readings.{users_read}
use Rattle.rm_cluster.proofs.groups.users_of.Given as goal

-- the users so far, before those of the members that are left
abbrev pub invariant-loop-key : goal.invariant-loop-key
invariant-loop-key l = option_map (λ rest. l.users ++ rest) (users_read (members_view l.key-iterator)) ≡ users_read (members_view l.members.entries)
