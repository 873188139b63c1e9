-- What the lives of a script come to, from before the first one on.
use Rattle.std.specs.Prelude.{◌≡◌, ◌≢◌, ◌⊎◌, List, [], ◌++◌, None, false, Result, IsOk, OnOk, IfErr}
use Rattle.rm_types.specs.declared.entries.Entry.{Entry}
use Rattle.rm_types.specs.declared.operations.Op.{Op}
use Rattle.rm_types.specs.declared.scripts.Script.{Script}
use Rattle.rm_types.specs.declared.settings.Settings.{Settings}
use Rattle.rm_types.specs.Records.{stray}
use Rattle.rm_disk.specs.declared.fallen.Fallen.{Fallen}
use Rattle.rm_disk.specs.Disk.{DiskView, IsQuiet, IfTold}
use Rattle.rm_disk.specs.Fuse.{Fused}
use Rattle.rm_store.specs.Content.{HasContent}
use Rattle.rm_lives.specs.Later.{IsDueAt}
use Rattle.rm_lives.specs.Survives.{SurvivesAll, SurvivesNow}
use Rattle.rm_store.specs.Store.{seen}
use Rattle.rm_model.specs.Downs.{AllGoDownAtRest}
use Rattle.rm_model.specs.Lawful.{IsDone, Lawful}
use Rattle.rm_model.specs.State.{opening_state}
use Rattle.rm_core.specs.Seen.{Seen, StandsFor}
use Rattle.rm_core.specs.Words.{stands}
use Rattle.rm_desk.specs.View.{DeskView}
use Rattle.rm_lives.specs.declared.halts.Stop.{Stop}
use Rattle.rm_lives.specs.Order.{Order, StopsHere}
use Rattle.rm_lives.specs.Goes.{ExtendsRunOver, IsOver, IsRun}
use Rattle.rm_lives.specs.Starts.{DiskStays}
use Rattle.rm_lives.specs.Stops.{IsDue, IsStoppedBy}
use Rattle.rm_lives.specs.Falls.{falls_of}
use Rattle.rm_lives.specs.Opens.{StartsOver}

-- the script came to its end: no life is left, and the last one went down or is at rest
pub record Ends (d : DeskView) : Type 0 where
  pub lives : d.place.lives ≡ []
  pub over : (stands d.core ≡ false) ⊎ IsOver d

-- the lives were lived, or one of them stopped the run; where nothing was logged, the disk was left alone, and so it was where
-- there was no life
pub record AllLived (order : Order) {D : Type 0} (view : D → DiskView) (opening : List Op) (old new : DeskView) (disk now : Fused D) (ended : Result (Unit {0}) Stop) : Type 0 where
  pub fallen : List Fallen
  pub goes : ExtendsRunOver order (λ ops. ops ≡ opening) fallen old new
  pub falls : now.falls ≡ disk.falls ++ fallen
  pub stays : DiskStays view disk now
  pub unarmed : now.armed ≡ None
  pub unblown : disk.blown ≡ false → now.blown ≡ false
  pub opened : new.core.log ≢ [] → IfTold (seen view disk) (λ bytes. HasContent bytes opening)
  pub found : (opening ≡ []) ⊎ IfTold (seen view disk) (λ bytes. HasContent bytes opening)
  pub ends : OnOk ended (Ends new)
  pub used_up : OnOk ended (order.ends new.core.log)
  pub quiet : new.core.log ≡ [] → IsQuiet (seen view disk) (seen view now)
  pub idle : old.place.lives ≡ [] → (new.core.log ≡ []) × (now ≡ disk) × (order.ends new.core.log → IsOk ended)
  pub begun : old.place.lives ≢ [] → OnOk ended (new.core.log ≢ [])
  pub images : StandsFor opening old.core → SurvivesAll opening new.core.log (seen view disk) (seen view now)
  pub images_now : StandsFor opening old.core → SurvivesNow opening new.core.log (seen view disk) (seen view now)
  pub stopped : StandsFor opening old.core → IfErr ended (IsStoppedBy view (IsDueAt new) (StopsHere order new) disk now opening new.core.log)

-- a run of a script from its beginning on, as the desk tells it: it came to its end, or something stopped it
pub record IsWholeRun (order : Order) {D : Type 0} (view : D → DiskView) (opening : List Op) (script : Script) (d : DeskView) (disk now : Fused D) (ended : Result (Unit {0}) Stop) : Type 0 where
  pub fallen : List Fallen
  pub run : IsRun order opening script fallen d
  pub falls : now.falls ≡ disk.falls ++ fallen
  pub stays : DiskStays view disk now
  pub unarmed : now.armed ≡ None
  pub unblown : disk.blown ≡ false → now.blown ≡ false
  pub opened : d.core.log ≢ [] → IfTold (seen view disk) (λ bytes. HasContent bytes opening)
  pub found : (opening ≡ []) ⊎ IfTold (seen view disk) (λ bytes. HasContent bytes opening)
  pub read_back : stray opening ≡ None
  pub ends : OnOk ended (Ends d)
  pub used_up : OnOk ended (order.ends d.core.log)
  pub quiet : d.core.log ≡ [] → IsQuiet (seen view disk) (seen view now)
  pub idle : script.lives ≡ [] → (d.core.log ≡ []) × (now ≡ disk) × (order.ends [] → IsOk ended)
  pub begun : script.lives ≢ [] → OnOk ended (d.core.log ≢ [])
  pub images : SurvivesAll opening d.core.log (seen view disk) (seen view now)
  pub images_now : SurvivesNow opening d.core.log (seen view disk) (seen view now)
  pub stopped : IfErr ended (IsStoppedBy view (IsDueAt d) (StopsHere order d) disk now opening d.core.log)

-- a run of a script over a disk, in an order of moves: whether or not it came to its end, the log is lawful along the script over the opening list, the lanes moved in the
-- order, the disk fell once for each life that went down, and what a crash could have left of it at any moment is what it could have left at first, or what was kept at some
-- moment of the log, or this and the operation that awaited there; where it came to its end the script is at its own, nothing awaits or is owed, and nothing is left of the
-- order; and where it was stopped it had its cause
pub record HasRun (order : Order) {D : Type 0} (view : D → DiskView) (new : Seen) (settings : Settings) (script : Script) (disk now : Fused D) (opening : List Op) (log : List Entry) (ended : Result (Unit {0}) Stop) : Type 0 where
  pub lawful : Lawful settings script opening log
  pub done : IsOk ended → IsDone settings script opening log
  pub moves : order.keeps new script opening log
  pub used_up : OnOk ended (order.ends log)
  pub downs : order.rests → AllGoDownAtRest settings (opening_state opening) log
  pub falls : now.falls ≡ disk.falls ++ falls_of script opening log
  pub stays : DiskStays view disk now
  pub unarmed : now.armed ≡ None
  pub unblown : disk.blown ≡ false → now.blown ≡ false
  pub idle : script.lives ≡ [] → (log ≡ []) × (now ≡ disk) × (order.ends [] → IsOk ended)
  pub begun : script.lives ≢ [] → OnOk ended (log ≢ [])
  pub opened : log ≢ [] → IfTold (seen view disk) (λ bytes. HasContent bytes opening)
  pub found : (opening ≡ []) ⊎ IfTold (seen view disk) (λ bytes. HasContent bytes opening)
  pub read_back : stray opening ≡ None
  pub quiet : log ≡ [] → IsQuiet (seen view disk) (seen view now)
  pub images : SurvivesAll opening log (seen view disk) (seen view now)
  pub images_now : SurvivesNow opening log (seen view disk) (seen view now)
  pub starts : StartsOver (seen view disk) log ended
  pub stopped : IfErr ended (IsStoppedBy view (IsDue script opening log) (order.stops new script opening log) disk now opening log)
