-- What holds of a desk between its moves.
use Rattle.std.specs.Prelude.{◌≡◌, ◌≢◌, ℕ, ◌+◌, ◌*◌, ◌≤◌, List, [], Bool, true, false, Option, None, Some, length}
use Rattle.std.specs.List.{sum_by}
use Rattle.rm_types.specs.declared.entries.Entry.{Entry}
use Rattle.rm_types.specs.declared.operations.Op.{Op}
use Rattle.rm_types.specs.declared.scripts.Close.{Close}
use Rattle.rm_types.specs.declared.scripts.Script.{Script}
use Rattle.rm_types.specs.declared.scripts.Segment.{Segment}
use Rattle.rm_model.specs.State.{LifeState, opening_state}
use Rattle.rm_model.specs.Place.{Place, beginning, close_left}
use Rattle.rm_model.specs.Lawful.{Follows, IsAtRest, place_after, state_after}
use Rattle.rm_core.specs.Seen.{StandsFor}
use Rattle.rm_types.specs.Limits.{most_served}
use Rattle.rm_core.specs.Words.{has_rest, is_blown, measure_added, served_in, stands, measure_of}
use Rattle.rm_desk.specs.View.{DeskView}
use Rattle.rm_desk.specs.Scripts.{AllLive, CanFollow, EndsInCrash, ClosesByCrash}
use Rattle.rm_types.specs.Segments.{messages_in}

-- the current segment ends with its life
abbrev pub IsLast : Option Close → Type 0
IsLast None = ⊥
IsLast (Some close) = ClosesByCrash close

-- what is left of the script can be gone along: no segment is left between two lives, a life crashes where another follows
-- it, in the segment in which an operation of it was refused, and no more messages are left in it than may still be served
pub record IsPlaceSound (d : DeskView) : Type 0 where
  pub lives : AllLive d.place.lives
  pub segments : CanFollow d.place.segments
  pub between : stands d.core ≡ false → d.place.segments ≡ []
  pub ends : stands d.core ≡ true → d.place.lives ≢ [] → EndsInCrash d.place.segments
  pub blown : stands d.core ≡ true → is_blown d.core ≡ true → IsLast (close_left d.place.segments)
  pub served : stands d.core ≡ true → served_in d.core + messages_in d.place.segments ≤ most_served

-- the log goes along the script, up to this place
pub record GoesTo (opening : List Op) (script : Script) (log : List Entry) (place : Place) : Type 0 where
  pub along : Follows (opening_state opening) (beginning script) log
  pub at : place_after script log ≡ place

-- over a store that held the opening list the log is one that a manager could have made, and it goes along the script up to
-- the desk's place
pub record IsScriptRun (opening : List Op) (script : Script) (d : DeskView) : Type 0 where
  pub stands : StandsFor opening d.core
  pub along : GoesTo opening script d.core.log d.place

-- the script is at its end, and where a life stands nothing is left to do
pub record IsScriptOver (d : DeskView) : Type 0 where
  pub lives : d.place.lives ≡ []
  pub segments : d.place.segments ≡ []
  pub rest : stands d.core ≡ true → has_rest d.core

-- a message costs at most its own move and those that it adds, and a segment one more
abbrev pub segment_cost : Segment → ℕ
segment_cost segment = 1 + (measure_added + 1) * length segment.messages

-- at most so many moves are left in a life
abbrev pub moves_left : DeskView → ℕ
moves_left d = measure_of d.core + sum_by segment_cost d.place.segments

-- a life that was blown, or was not
abbrev pub HasBlown : Bool → Option LifeState → Type 0
HasBlown b None = ⊥
HasBlown b (Some life) = life.blown ≡ b

-- what a desk tells of the state after its log: whether a life stands there, and was blown; where none stands, whether the last one was; and that
-- nothing is owed where nothing is left to do
pub record DescribesState (opening : List Op) (d : DeskView) : Type 0 where
  pub life : stands d.core ≡ true → HasBlown (is_blown d.core) (state_after opening d.core.log).life
  pub none : stands d.core ≡ false → (state_after opening d.core.log).life ≡ None
  pub blew : stands d.core ≡ false → (state_after opening d.core.log).blew ≡ is_blown d.core
  pub at_rest : has_rest d.core → IsAtRest d.core.settings (state_after opening d.core.log) (state_after opening d.core.log).life
