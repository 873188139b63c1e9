-- The line of a soak, by its numbers. `soak_line` of `rm_soak` is this line for the counts of a log. This project's own.
use Rattle.std.specs.Prelude.{ℕ, List, [], ◌∷◌, ◌++◌, codes}
use Rattle.std.specs.Fmt.{decimal}
use Rattle.rm_page.specs.Ranges.{IsWord32, IsWord64}
use Rattle.rm_page_reader.specs.declared.soaks.SoakLine.{SoakLine}

-- a soak's line with these numbers
abbrev pub soak_text : SoakLine → List ℕ
soak_text soak =
    codes "soak " ++ decimal soak.apps
    ++ codes " lives=" ++ decimal soak.lives
    ++ codes " served=" ++ decimal soak.served
    ++ codes " grants=" ++ decimal soak.grants
    ++ codes " finished=" ++ decimal soak.finished
    ++ codes " kept=" ++ decimal soak.kept
    ++ codes "\n"

-- each number of a soak's line fits the bits that it has
pub record IsSoak (soak : SoakLine) : Type 0 where
  pub apps : IsWord32 soak.apps
  pub lives : IsWord64 soak.lives
  pub served : IsWord64 soak.served
  pub grants : IsWord64 soak.grants
  pub finished : IsWord64 soak.finished
  pub kept : IsWord64 soak.kept

-- the words of a soak's line
abbrev pub soak_pieces : SoakLine → List (List ℕ)
soak_pieces soak =
    codes "soak"
    ∷ decimal soak.apps
    ∷ (codes "lives=" ++ decimal soak.lives)
    ∷ (codes "served=" ++ decimal soak.served)
    ∷ (codes "grants=" ++ decimal soak.grants)
    ∷ (codes "finished=" ++ decimal soak.finished)
    ∷ (codes "kept=" ++ decimal soak.kept)
    ∷ []
