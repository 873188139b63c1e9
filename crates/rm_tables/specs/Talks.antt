-- How the row of an application changes where its current attempt's master is answered: the dialogue with the master, and the endings that
-- it is to be told. This project's own.
use Rattle.std.specs.Prelude.{ℕ, List, not, Option, None, Some, filter, option_map}
use Rattle.rm_types.specs.declared.containers.ClosingOf.{ClosingOf}
use Rattle.rm_types.specs.declared.ids.AttemptId.{AttemptId}
use Rattle.rm_types.specs.declared.replies.Reply.{Reply}
use Rattle.rm_types.specs.Ids.{is_attempt}
use Rattle.rm_tables.specs.declared.changes.AttemptChange.TheVariants as of_attempt
use Rattle.rm_tables.specs.declared.changes.RowChange.TheVariants as of_app
use Rattle.rm_tables.specs.declared.rows.AppRow.{AppRow}
use Rattle.rm_tables.specs.declared.rows.Dialogue.{Dialogue}
use Rattle.rm_tables.specs.declared.talks.Talk.{Talk}
use Rattle.rm_tables.specs.declared.talks.Talk.TheVariants.{Register, Finish, Answer}
use Rattle.rm_tables.specs.Changes.{changed}

-- a row after its master registered, after its master finished, and after its master was told something, by what becomes of the dialogue
-- and of the endings that are to be told
abbrev pub registered_row : (Option Dialogue → Option Dialogue) → AppRow → AppRow
registered_row talk row = record (changed of_app.Register row) { dialogue = talk row.dialogue }

-- the row after its master finished
abbrev pub said_row : (Option Dialogue → Option Dialogue) → AppRow → AppRow
said_row talk row = record (changed (of_app.OfAttempt of_attempt.Finish) row) { dialogue = talk row.dialogue }

-- the row after its master was told of endings
abbrev pub told_row : (Option Dialogue → Option Dialogue) → (List ClosingOf → List ClosingOf) → AppRow → AppRow
told_row talk tell row = record row { dialogue = talk row.dialogue; closings = tell row.closings }

-- the dialogue with a master that registered and was answered so, when so many containers had ever entered the book
abbrev pub dialogue_begun : Reply → ℕ → Option Dialogue → Option Dialogue
dialogue_begun reply told dialogue = Some (record { last_id = 0; last_reply = reply; told = told; finishing = None })

-- a dialogue in which the master said this as it finished
abbrev pub with_text : List ℕ → Option Dialogue → Option Dialogue
with_text text dialogue = option_map (λ (one : Dialogue). record one { finishing = Some text }) dialogue

-- a dialogue in which the master was answered so under a response id, when so many containers had ever entered the book
abbrev pub with_answer : ℕ → Reply → ℕ → Option Dialogue → Option Dialogue
with_answer id reply told dialogue = option_map (λ (one : Dialogue). record one { last_id = id; last_reply = reply; told = told }) dialogue

-- endings without those that an attempt was to be told
abbrev pub without_closings : AttemptId → List ClosingOf → List ClosingOf
without_closings attempt closings = filter (λ one. not (is_attempt one.attempt attempt)) closings

-- a row after something was said
abbrev pub talked : Talk → AppRow → AppRow
talked (Register reply told) row = registered_row (dialogue_begun reply told) row
talked (Finish text) row = said_row (with_text text) row
talked (Answer attempt id reply told) row = told_row (with_answer id reply told) (without_closings attempt) row
