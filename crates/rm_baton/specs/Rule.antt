-- The rule of the baton, over what lies in its place and what each pass knows. This project's own.
use Rattle.std.specs.Prelude.{◌≡◌, ◌⊎◌, ℕ, ◌+◌, ◌<◌, ◌≤◌, true, List, [], ◌∷◌, Some, is_some}
use mathlib.Core.Option.{some}
use lib.ListN.{get_elem?}
use Rattle.rm_types.specs.declared.entries.Entry.{Entry}
use Rattle.rm_baton.specs.declared.carries.Known.{Known}
use Rattle.rm_baton.specs.Entries.{AddsCommon}
use Rattle.rm_baton.specs.Views.{AllBegin, all_parts, opening}

module _ {Run T : Type 0} where
  -- each pass, by its number, is so
  abbrev pub EachPass : (ℕ → Known Run T → Type 0) → List (Known Run T) → Type 0
  EachPass Is views = (pass : ℕ) (v : Known Run T) → get_elem? views pass ≡ some v → Is pass v

  -- the parts of all passes together
  abbrev pub parts_of : List (Known Run T) → ℕ
  parts_of [] = 0
  parts_of (v ∷ views) = v.parts + parts_of views

  -- while no part is lost, each pass that stands has one
  pub record SharesParts (views : List (Known Run T)) : Type 0 where
    pub most : parts_of views ≤ all_parts
    pub each : parts_of views ≡ all_parts → EachPass (λ pass v. is_some v.run ≡ true → 0 < v.parts) views

-- what a pass knows is true of the baton's run and log: the logs that it has seen begin the log; it has the baton only where the value
-- is out and it is the pass that has it; and it is the store's only where it is the one that is, and then only common entries were
-- added since its latest log
module _ {Run T : Type 0} (run : Run) (log : List Entry) (holder keeper : ℕ) (is_out : Type 0) (pass : ℕ) (v : Known Run T) where
  pub record Fits : Type 0 where
    pub of_run : (own : Run) → v.run ≡ Some own → own ≡ run
    pub begin : AllBegin v.seen log
    pub out : v.has ≡ true → (pass ≡ holder) × is_out × (v.run ≡ Some run) × (v.latest ≡ log)
    pub kept : v.store ≡ true → (pass ≡ keeper) × AddsCommon v.latest log

module _ {Run T : Type 0} (run_of : T → Run) (log_of : T → List Entry) where
  -- the value lies in its place, or a pass has it
  abbrev pub Lies : Run → List Entry → ℕ → List T → List (Known Run T) → Type 0
  Lies run log holder [] views = (v : Known Run T) × (get_elem? views holder ≡ some v) × (v.has ≡ true)
  Lies run log holder (held ∷ []) views = (run_of held ≡ run) × (log_of held ≡ log)
  Lies run log holder (held ∷ other ∷ rest) views = ⊥

  -- there is a run and a log that all passes are of
  pub record Going (items : List T) (views : List (Known Run T)) : Type 0 where
    pub run : Run
    pub log : List Entry
    pub holder : ℕ
    pub keeper : ℕ
    pub lies : Lies run log holder items views
    pub fits : EachPass (Fits run log holder keeper (items ≡ [])) views
    pub shares : SharesParts views

  -- the value is about to be put for the first time, or the run goes on
  abbrev pub Carried : List T → List (Known Run T) → Type 0
  Carried items views = ((items ≡ []) × (views ≡ opening ∷ [])) ⊎ Going items views
