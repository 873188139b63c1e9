-- What came late is told alike again, where a move leaves the rows as late as they were.
use Rattle.std.proofs.Common.{◌≡◌, ℕ, ◌<◌, Bool, List, [], ◌∷◌, Option, None, Some, map, refl}
use Rattle.rm_types.specs.declared.containers.BookRow.{BookRow}
use Rattle.rm_types.specs.declared.ids.AttemptId.{AttemptId}
use Rattle.rm_book.specs.Books.{TellUpTo}
use Rattle.rm_model.specs.MasterReplies.{is_late}
use Rattle.rm_model.specs.State.{Scene}
use Rattle.rm_tables.specs.declared.rows.AppRow.{AppRow}
use Rattle.rm_tables.specs.declared.rows.Dialogue.{Dialogue}
use Rattle.rm_tables.specs.declared.tables.Tables.{Tables}
use Rattle.rm_tables.specs.LateRows.{is_late_row}
use Rattle.rm_refinement.specs.Services.{LateAgrees, LateSince}

-- what a change leaves of a test
pub still_each : {X : Type 0} (p : X → Bool) (g : X → X) → ((x : X) → p (g x) ≡ p x) → (xs : List X) → map p (map g xs) ≡ map p xs
still_each p g same [] = refl
still_each p g same (x ∷ xs) = rw (same x, still_each p g same xs) refl

-- rows that keep their numbers
pub numbers_kept : (g : BookRow → BookRow) → ((row : BookRow) → (g row).told ≡ row.told) → (least added : ℕ) (rows : List BookRow) → TellUpTo least added rows → TellUpTo least added (map g rows)
numbers_kept g same least added [] told = told
numbers_kept g same least added (row ∷ rows) told = rw (same row) (told.0, numbers_kept g same row.told added rows told.1)

module _ (m n : Scene) (t u : Tables) (q : AttemptId)
    (still : (told : ℕ) → map (is_late_row t q told) t.book.rows ≡ map (is_late m q) m.life.book → map (is_late_row u q told) u.book.rows ≡ map (is_late n q) n.life.book) where
  pub since_as : (d : Option Dialogue) → LateSince m t q d → LateSince n u q d
  since_as None late = tt
  since_as (Some one) late = still one.told late

  pub late_as : (o : Option AppRow) → LateAgrees m t q o → LateAgrees n u q o
  late_as None late = tt
  late_as (Some row) late = λ lives. since_as row.dialogue (late lives)
