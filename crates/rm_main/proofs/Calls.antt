-- What a call of the program comes to, from what its parts come to.
use Rattle.std.proofs.Common.{◌≡◌, ℕ, List, [], Bool, Option, Result, Ok, Err, refl, sym, subst}
use Rattle.std.specs.Prelude.{IfOk, replicate}
use Rattle.rm_types.specs.declared.outcomes.Outcome.{Outcome}
use Rattle.rm_types.specs.declared.outcomes.Outcome.TheVariants.{Memory, Usage}
use Rattle.rm_types.specs.declared.duplicate.NoMemory.{NoMemory}
use Rattle.rm_disk.specs.Disk.{DiskView}
use Rattle.rm_disk.specs.MemDisk.{IsFresh}
use Rattle.rm_disk.specs.declared.memory.MemDisk.{MemDisk}
use Rattle.rm_outside.specs.Sinks.{SinkCounts}
use Rattle.rm_main.specs.Calls.{CameBy, CameTo, OutcomeCountsFaults, IsNewDevice, RanOver}
use Rattle.rm_words.specs.Words.{Asked, is_in_file, mode_of}

-- the device that was handed on is the old one, and the new one is the device that came back
pub ran_along : {D : Type 0} (view : D → DiskView) (asked : Asked) (outcome : Outcome) (old handed back new : D) → handed ≡ old → new ≡ back → RanOver view asked handed back outcome → RanOver view asked old new outcome
ran_along view asked outcome old handed back new is same ran =
    subst (λ d. RanOver view asked d new outcome) is (subst (λ d. RanOver view asked handed d outcome) (sym same) ran)

-- a device of that size, all of whose bytes are 0, is new
pub is_new : (size : ℕ) (failing : List ℕ) (made : Result MemDisk NoMemory) → failing ≡ [] → IfOk made (IsFresh (replicate size 0) failing) → IfOk made (λ device. IsNewDevice size device)
is_new size failing (Ok device) none fresh = record { size = size; is = refl; fresh = subst (λ f. IsFresh (replicate size 0) f device) none fresh }
is_new size failing (Err error) none fresh = tt

-- want of memory tells of no file and no output
pub none_told : (outcome : Outcome) (reads : ℕ) (sink : SinkCounts) → outcome ≡ Memory → OutcomeCountsFaults outcome reads sink
none_told outcome reads sink starved = record { read_fault = λ is. absurd (cc); write_fault = λ is. absurd (cc); took_nothing = λ is. absurd (cc) }

-- nor do words that ask for nothing
pub none_told_of_words : (outcome : Outcome) (reads : ℕ) (sink : SinkCounts) → outcome ≡ Usage → OutcomeCountsFaults outcome reads sink
none_told_of_words outcome reads sink unasked = record { read_fault = λ is. absurd (cc); write_fault = λ is. absurd (cc); took_nothing = λ is. absurd (cc) }

-- what came of a command line came by the words that it was read of
pub by_words : {D : Type 0} (view : D → DiskView) (words : List (List ℕ)) (asked : Option Asked) (in_file : Bool) (old new : D) (outcome : Outcome) → mode_of words ≡ asked → is_in_file words ≡ in_file → CameTo view asked in_file old new outcome → CameBy view words old new outcome
by_words view words asked in_file old new outcome asks is came =
    record { either = subst (λ (a : Option Asked). CameTo view a (is_in_file words) old new outcome) (sym asks) (subst (λ (b : Bool). CameTo view asked b old new outcome) (sym is) came) }
