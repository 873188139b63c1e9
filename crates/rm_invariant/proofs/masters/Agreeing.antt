-- The text with which a master finishes is the same in the tables and in the judge's life, where the dialogues with masters are.
use Rattle.rm_invariant.proofs.Common.{◌≡◌, true, Option, None, Some, refl, ap, subst, AttemptId, finishing_text, has_app, MasterState, AppRow, Current, Dialogue, Tables, finishing_in, row_of, CurrentAgrees, PlainDialogue, RowAgrees, AttemptAgrees, bare_dialogue, session_of, plain_dialogue, History, abstract_scene}
use Rattle.std.proofs.Common.{◌==◌, option_and_then, option_map}

same_text : (dialogue : Option Dialogue) (told : Option MasterState) → option_map bare_dialogue dialogue ≡ option_map plain_dialogue told → finishing_in dialogue ≡ option_and_then (λ one. one.finishing) told
same_text None None e = refl
same_text None (Some one) e = cc
same_text (Some dialogue) None e = cc
same_text (Some dialogue) (Some one) e = let same : bare_dialogue dialogue ≡ plain_dialogue one = cc in ap (λ (x : PlainDialogue). x.finishing) same

-- what the master of the current attempt said
pub finishing_agrees : (h : History) (t : Tables) (id : AttemptId) → RowAgrees h.masters.registered h.granted (has_app h.apps.retired id.app) id (row_of t.rows id.app)
    → (row : AppRow) (current : Current) → row_of t.rows id.app ≡ Some row → row.current ≡ Some current → (current.number == id.number) ≡ true → finishing_in row.dialogue ≡ finishing_text (abstract_scene h t) id
finishing_agrees h t id agrees row current found is n =
    let of_row : AttemptAgrees h.masters.registered h.granted id row row.current = rw found at agrees in
    let of_current : AttemptAgrees h.masters.registered h.granted id row (Some current) = subst (λ (o : Option Current). AttemptAgrees h.masters.registered h.granted id row o) is of_row in
    let same : CurrentAgrees h.masters.registered h.granted id row current = rw n at of_current in
    same_text row.dialogue (session_of h.masters.registered id) same.0
