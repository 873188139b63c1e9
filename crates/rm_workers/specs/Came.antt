-- How far a life has come, by the desk with which it began and the log. This project's own.
use Rattle.std.specs.Prelude.{◌≡◌, Bool, true, false, List, [], ◌∷◌, ◌++◌, Option, Some, length, drop, fold}
use Rattle.rm_types.specs.declared.entries.Entry.{Entry}
use Rattle.rm_types.specs.declared.entries.Entry.TheVariants.{Blown, Down}
use Rattle.rm_types.specs.declared.messages.Lane.{Lane}
use Rattle.rm_types.specs.declared.operations.Op.{Op}
use Rattle.rm_types.specs.declared.scripts.Close.{Close}
use Rattle.rm_types.specs.declared.scripts.Close.TheVariants.{Crash}
use Rattle.rm_disk.specs.declared.fallen.Fallen.{Fallen}
use Rattle.rm_model.specs.Place.{Place, close_left, moved}
use Rattle.rm_core.specs.Seen.{StandsFor}
use Rattle.rm_core.specs.Words.{has_rest, is_blown, stands}
use Rattle.rm_desk.specs.Effects.{LaneEffect}
use Rattle.rm_desk.specs.Lanes.{HasNoWork, is_ready_at}
use Rattle.rm_desk.specs.Runs.{IsPlaceSound, DescribesState}
use Rattle.rm_desk.specs.View.{DeskView}
use Rattle.rm_lives.specs.Falls.{fall}
use Rattle.rm_lives.specs.Goes.{ExtendsRun}
use Rattle.rm_workers.specs.AnyOrder.{any_order}

-- what is left of the script, whether an operation was refused, whether the life stands, and the falls of the device that it let happen
pub record Came : Type 0 where
  pub place : Place
  pub blown : Bool
  pub standing : Bool
  pub falls : List Fallen

-- an operation was refused by an entry, or before
abbrev pub blown_on : Bool → Entry → Bool
blown_on blown (Blown passed) = true
blown_on blown _ = blown

-- a life that stood stands after an entry, unless it goes down by it
abbrev pub stands_on : Bool → Entry → Bool
stands_on standing Down = false
stands_on standing _ = standing

-- the fall of the device at an entry, where the segment closes so
abbrev pub fall_by : Option Close → Bool → List Fallen
fall_by (Some (Crash calls image)) blown = fall calls image blown ∷ []
fall_by _ blown = []

-- the fall of the device at an entry, where the life goes down by it
abbrev pub falls_on : Option Close → Bool → Entry → List Fallen
falls_on close blown Down = fall_by close blown
falls_on close blown _ = []

-- one entry further
abbrev pub come_on : Came → Entry → Came
come_on c e =
    record {
      place = moved c.place e;
      blown = blown_on c.blown e;
      standing = stands_on c.standing e;
      falls = c.falls ++ falls_on (close_left c.place.segments) c.blown e;
    }

-- where a life begins
abbrev pub come_to : DeskView → Came
come_to d = record { place = d.place; blown = is_blown d.core; standing = true; falls = [] }

-- the entries of a log behind those that the desk had when the life began
abbrev pub since : DeskView → List Entry → List Entry
since began log = drop (length began.core.log) log

-- how far it has come by a log
abbrev pub came : DeskView → List Entry → Came
came began log = fold come_on (come_to began) (since began log)

-- a desk goes on from the one with which the life began: its log is longer, the log tells how far the life has come, and all of this is a
-- part of a run in which the device fell as the log tells, which is not before the life goes down
pub record Went (began d : DeskView) : Type 0 where
  pub more : List Entry
  pub grows : d.core.log ≡ began.core.log ++ more
  pub place : d.place ≡ (came began d.core.log).place
  pub blown : is_blown d.core ≡ (came began d.core.log).blown
  pub standing : stands d.core ≡ (came began d.core.log).standing
  pub unfallen : stands d.core ≡ true → (came began d.core.log).falls ≡ []
  pub goes : ExtendsRun any_order (came began d.core.log).falls began d

-- a lane of it moves: the desk goes on, and what held of it before and after
pub record Moves (began : DeskView) (lane : Lane) (old new : DeskView) : Type 0 where
  pub does : LaneEffect lane old new
  pub ready : is_ready_at old lane ≡ true
  pub went : Went began old
  pub further : Went began new
  pub sound : IsPlaceSound old
  pub idle : is_blown old.core ≡ false → HasNoWork old → has_rest old.core
  pub told : (opening : List Op) → StandsFor opening old.core → DescribesState opening old
  pub tells : (opening : List Op) → StandsFor opening new.core → DescribesState opening new
