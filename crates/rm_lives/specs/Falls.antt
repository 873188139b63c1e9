-- The falls of a run's device: one for each life that went down.
use Rattle.std.specs.Prelude.{ℕ, Bool, List, [], ◌∷◌, ◌++◌, Option, Some}
use Rattle.rm_types.specs.declared.entries.Entry.{Entry}
use Rattle.rm_types.specs.declared.entries.Entry.TheVariants.{Down}
use Rattle.rm_types.specs.declared.operations.Op.{Op}
use Rattle.rm_types.specs.declared.scripts.Close.{Close}
use Rattle.rm_types.specs.declared.scripts.Close.TheVariants.{Crash}
use Rattle.rm_types.specs.declared.scripts.Script.{Script}
use Rattle.rm_disk.specs.declared.fallen.Fallen.{Fallen}
use Rattle.rm_model.specs.State.{Manager, LifeState, opening_state}
use Rattle.rm_model.specs.Changes.{after}
use Rattle.rm_model.specs.Place.{Place, beginning, close_left, moved}

-- a life that goes down lets the device fall as its crash says, and the fuse was blown where the life was
abbrev pub falls_at : Entry → Option LifeState → Option Close → List Fallen
falls_at Down (Some life) (Some (Crash calls image)) = record { calls = calls; image = image; blown = life.blown } ∷ []
falls_at _ _ _ = []

-- the falls of a log, from a state and a place on
abbrev pub falls_from : Manager → Place → List Entry → List Fallen
falls_from s p [] = []
falls_from s p (e ∷ log) = falls_at e s.life (close_left p.segments) ++ falls_from (after s e) (moved p e) log

-- the falls of a log
abbrev pub falls_of : Script → List Op → List Entry → List Fallen
falls_of script opening log = falls_from (opening_state opening) (beginning script) log

-- a fall of a device whose fuse was blown, or was not
abbrev pub fall : ℕ → ℕ → Bool → Fallen
fall calls image blown = record { calls = calls; image = image; blown = blown }
