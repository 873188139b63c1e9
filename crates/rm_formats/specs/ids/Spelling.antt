-- The texts of ids as the numbers that a reader goes over: a word, and then numbers, each behind a `_`.
use Rattle.std.specs.Prelude.{ℕ, List, [], ◌∷◌, ◌++◌, codes, ◌⊎◌, ◌==◌, if◌then◌else◌}
use Rattle.rm_types.specs.declared.ids.AppId.{AppId}
use Rattle.rm_types.specs.declared.ids.AttemptId.{AttemptId}
use Rattle.rm_formats.specs.IdTexts.{padded}
use Rattle.rm_formats.specs.declared.ids.parts.Part.{Part}
use Rattle.rm_formats.specs.declared.ids.parts.Part.TheVariants.{Stamp, AppNumber, AttemptInContainer, Epoch, Sequence}
use Rattle.rm_formats.specs.ids.Steps.{After, NumberThen, AreFields}

-- the numbers of an application's id
abbrev pub app_parts : List Part
app_parts = Stamp ∷ AppNumber ∷ []

-- the numbers in a container's text, the epoch left out
abbrev pub grant_parts : List Part
grant_parts = Stamp ∷ AppNumber ∷ AttemptInContainer ∷ Sequence ∷ []

-- an application's numbers as they are written, and what follows
abbrev pub app_then : AppId → List ℕ → List ℕ
app_then id rest = codes "_" ++ (padded 1 id.stamp ++ (codes "_" ++ (padded 4 id.number ++ rest)))

-- a container's numbers as they are written, the epoch left out
abbrev pub container_numbers_text : AttemptId → ℕ → List ℕ
container_numbers_text attempt seq = app_then attempt.app (codes "_" ++ (padded 2 attempt.number ++ (codes "_" ++ (padded 6 seq ++ []))))

-- behind `container`: such numbers, with the epoch before them or without
abbrev pub IsGrantText : List ℕ → Type 0
IsGrantText text = AreFields grant_parts text ⊎ After (codes "_e") (NumberThen Epoch (AreFields grant_parts)) text

-- an epoch as it is written, 0 not at all, and what follows
abbrev pub epoch_then : ℕ → List ℕ → List ℕ
epoch_then epoch rest = if epoch == 0 then rest else codes "_e" ++ (padded 2 epoch ++ rest)
