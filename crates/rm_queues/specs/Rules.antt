-- What a queue tree needs of the settings that it is made of; the reader of a cluster file keeps more rules than these.
use Rattle.std.specs.Prelude.{◌≡◌, Some, option_map, slice_get}
use Rattle.rm_types.specs.declared.settings.Settings.{Settings}
use Rattle.rm_types.specs.Rights.{root_name}

-- the rules of a cluster file that a queue tree rests on
pub record KeepsRules (settings : Settings) : Type 0 where
  -- the first queue is the root
  pub first_is_root : option_map (λ queue. queue.name) (slice_get settings.queues 0) ≡ Some root_name
