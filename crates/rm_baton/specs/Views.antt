-- What a pass knows, before and after each call, and what it may do then. This project's own.
use Rattle.std.specs.Prelude.{◌≡◌, ℕ, ◌+◌, ◌/◌, ◌^◌, true, false, ◌||◌, List, [], ◌∷◌, ◌++◌, Some, None, is_some, if◌then◌else◌}
use mathlib.Core.List.{IsPrefix}
pub use Rattle.crossbeam_queue.specs.Passes.{view}
use Rattle.rm_types.specs.declared.entries.Entry.{Entry}
use Rattle.rm_baton.specs.declared.carries.Known.{Known}
use Rattle.rm_baton.specs.Entries.{AddsAtMostOne, AddsCommon}

-- each of these logs begins the log
abbrev pub AllBegin : List (List Entry) → List Entry → Type 0
AllBegin [] log = Unit {0}
AllBegin (seen ∷ logs) log = IsPrefix seen log × AllBegin logs log

-- the parts that all passes have together
abbrev pub all_parts : ℕ
all_parts = 2 ^ 63

module _ {Run T : Type 0} where
  -- the pass is of a run: it was given out and has not ended
  abbrev pub IsOfRun : Known Run T → Type 0
  IsOfRun v = is_some v.run ≡ true

  -- the pass stands and doesn't have the baton
  abbrev pub IsIdle : Known Run T → Type 0
  IsIdle v = IsOfRun v × (v.has ≡ false)

  -- no other pass stands
  abbrev pub HasAllParts : Known Run T → Type 0
  HasAllParts v = v.parts ≡ all_parts

  -- before the first put: the pass has the value that is about to be put
  abbrev pub opening : Known Run T
  opening = record { run = None; seen = []; latest = []; has = true; store = true; parts = all_parts; taken = None; given = None }

  -- after its end
  abbrev pub ended : Known Run T
  ended = record { run = None; seen = []; latest = []; has = false; store = false; parts = 0; taken = None; given = None }

  -- once a new pass was split from it
  abbrev pub with_half : Known Run T → Known Run T
  with_half v = record v { parts = v.parts / 2 }

  -- what the new pass knows then: the same, but that it neither has the baton nor is the store's
  abbrev pub helper : Known Run T → Known Run T
  helper v = record v { has = false; store = false; parts = v.parts / 2 }

  -- once it has taken up what another knew, which ends: the logs that either has seen, the store's mark and the latest log of the one that
  -- had the mark, and the parts of both
  abbrev pub joined : Known Run T → Known Run T → Known Run T
  joined v w = record v {
    seen = v.seen ++ w.seen;
    latest = (if w.store then w.latest else v.latest);
    has = false;
    store = v.store || w.store;
    parts = v.parts + w.parts;
  }

module _ {Run T : Type 0} (log_of : T → List Entry) where
  -- once it has taken the value
  abbrev pub took : Known Run T → T → Known Run T
  took v held = record v { seen = log_of held ∷ v.seen; latest = log_of held; has = true; taken = Some held }

  -- once it has put it
  abbrev pub gave : Known Run T → T → Known Run T
  gave v held = record v { seen = log_of held ∷ v.seen; latest = log_of held; has = false; given = Some held }

module _ {Run T : Type 0} (run_of : T → Run) (log_of : T → List Entry) where
  -- the store's pass once it has put the first value
  abbrev pub started : T → Known Run T
  started held = record { run = Some (run_of held); seen = log_of held ∷ []; latest = log_of held; has = false; store = true; parts = all_parts; taken = None; given = Some held }

  -- what a pass is told of the value that it takes: it is of the pass's run, each log that the pass has seen begins its log, and where the
  -- pass is the store's, only common entries were added since its latest log
  pub record Meets (v : Known Run T) (held : T) : Type 0 where
    pub of_run : v.run ≡ Some (run_of held)
    pub begin : AllBegin v.seen (log_of held)
    pub common : v.store ≡ true → AddsCommon v.latest (log_of held)

  -- a pass may put the value: it has the baton, the value is of its run, the value's log is the one that it took, or that and one entry,
  -- and where it isn't the store's, only a common entry was added
  pub record MayPut (v : Known Run T) (held : T) : Type 0 where
    pub has : v.has ≡ true
    pub of_run : v.run ≡ Some (run_of held)
    pub one : AddsAtMostOne v.latest (log_of held)
    pub common : v.store ≡ false → AddsCommon v.latest (log_of held)
