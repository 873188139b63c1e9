-- Sets of containers, as contracts see them: each container once, in the order of joining. This project's own.
use Rattle.std.specs.Prelude.{List, [], ◌∷◌, ◌++◌, fold, if◌then◌else◌}
use Rattle.rm_types.specs.declared.ids.ContainerId.{ContainerId}
use Rattle.rm_model.specs.Facts.{has_container}

-- a set with one more container, as the last, where it isn't there yet
abbrev pub with_container : List ContainerId → ContainerId → List ContainerId
with_container set id = if has_container set id then set else set ++ id ∷ []

-- a set with these containers
abbrev pub with_containers : List ContainerId → List ContainerId → List ContainerId
with_containers set ids = fold with_container set ids
