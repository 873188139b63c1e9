-- What `follow` tells of a page. This project's own.
use Rattle.std.specs.Prelude.{◌≡◌, ℕ, ◌+◌, List, [], ◌∷◌, ◌++◌, Bool, true, false, if◌then◌else◌, length, count_by, codes}
use Rattle.std.specs.Fmt.{decimal}
use Rattle.rm_types.specs.declared.entries.Entry.{Entry}
use Rattle.rm_types.specs.declared.entries.Entry.TheVariants.{Opened, Blown, Down}
use Rattle.rm_formats.specs.IdTexts.{app_text, attempt_text, container_text}
use Rattle.rm_formats.specs.Page.{line_of}
use Rattle.rm_page_reader.specs.declared.pages.Page.{Page}
use Rattle.rm_page_reader.specs.Told.{Tells, entries_of}
use Rattle.rm_report.specs.declared.subjects.Subject.{Subject}
use Rattle.rm_report.specs.declared.subjects.Subject.TheVariants.{App, Attempt, Container, Node}
use Rattle.rm_report.specs.Naming.{names_subject, IsSubjectText}
use Rattle.rm_report.specs.Meanings.{meaning}

-- the entry begins or ends a life, which concerns all that lives
abbrev pub marks_life : Entry → Bool
marks_life (Opened landed epoch stamp) = true
marks_life (Blown passed) = true
marks_life Down = true
marks_life entry = false

-- a line, and below it what it means
abbrev pub explained : Entry → List ℕ
explained entry = line_of entry ++ codes "    " ++ meaning entry ++ codes "\n"

-- a line that names the id, with its number
abbrev pub row : ℕ → Entry → List ℕ
row number entry = decimal number ++ codes ": " ++ explained entry

-- where a life begins or ends, with no number
abbrev pub mark : Entry → List ℕ
mark entry = codes "-- " ++ explained entry

-- what is told of the entry on the line of that number
abbrev pub line_told : Subject → ℕ → Entry → List ℕ
line_told subject number entry = if names_subject subject entry then row number entry else if marks_life entry then mark entry else []

-- the same of each entry, in order, with so many lines above them; each has a line
abbrev pub rows : Subject → ℕ → List Entry → List ℕ
rows subject above [] = []
rows subject above (entry ∷ entries) = line_told subject (above + 1) entry ++ rows subject (above + 1) entries

-- what an id is taken for
abbrev pub subject_text : Subject → List ℕ
subject_text (App id) = app_text id
subject_text (Attempt id) = attempt_text id
subject_text (Container id) = container_text id
subject_text (Node node) = codes "node " ++ node

-- what the id is taken for, and how many lines name it; and then these lines
abbrev pub follow_text : Subject → List Entry → List ℕ
follow_text subject entries =
    subject_text subject ++ codes ": " ++ decimal (count_by (names_subject subject) entries) ++ codes " of " ++ decimal (length entries) ++ codes " lines\n"
    ++ rows subject 0 entries

-- the report is of this page and this id
pub record IsFollowed (bytes id report : List ℕ) : Type 0 where
  pub page : Page
  pub subject : Subject
  pub page_is : Tells bytes page
  pub subject_is : IsSubjectText id subject
  pub same : report ≡ follow_text subject (entries_of page)
