-- What a master is answered from the tables is what the judge answers, where the tables show the judge's scene.
use Rattle.rm_master.proofs.Common.{◌≡◌, ℕ, ◌+◌, List, [], ◌∷◌, ◌++◌, Bool, true, false, ◌&&◌, ◌||◌, Option, None, Some, is_some, is_none, find, map, refl, sym, ◌∙◌, ap, if◌then◌else◌, option_map, ◌==◌, Grant, AttemptId, Reply, is_attempt, MasterState, Scene, is_live, is_registered, master_of, has_app, is_alive, AppRow, Dialogue, Tables, row_of, bare_dialogue, plain_dialogue, RefinesLife, lives_by}
use Rattle.std.specs.Prelude.{option_and_then}
use Rattle.rm_types.specs.declared.operations.How.{How}
use Rattle.rm_types.specs.declared.records.AppRecord.{AppRecord}
use Rattle.rm_types.specs.declared.records.AttemptRecord.{AttemptRecord}
use Rattle.rm_types.specs.declared.replies.Reply.TheVariants.{MasterRegistered, Took, NotRegistered, Finishing, Finished}
use Rattle.rm_types.specs.Records.{Records, is_some_and, record_of, records, is_finished}
use Rattle.rm_model.specs.Attempts.{attempt_end, has_registered, is_finishing, is_last}
use Rattle.rm_model.specs.Facts.{attempts_in, awaits, keeps, kept_end}
use Rattle.rm_model.specs.MasterReplies.{earlier_rows, finish_reply, grant_of, is_finished_op, register_reply, registered_reply}
use Rattle.rm_tables.specs.declared.rows.Current.{Current}
use Rattle.rm_tables.specs.Actions.{found_in}
use Rattle.rm_tables.specs.Leaving.{attempt_in}
use Rattle.rm_refinement.specs.Agreement.{CurrentAgrees, RowAgrees}
use Rattle.rm_refinement.specs.Services.{finishes_by, lives_with}
use Rattle.rm_master.specs.Told.{finish_told, finished_in, has_ended_with, has_finished, is_finished_end, living_row, master_register_told, registered_told, spoken_by}
use Rattle.rm_master.proofs.Granted.{kept_same}

-- an attempt that lives: its application has this row, and this is the current attempt of it
pub record Lives (m : Scene) (t : Tables) (attempt : AttemptId) : Type 0 where
  pub row : AppRow
  pub found : row_of t.rows attempt.app ≡ Some row
  pub current : Current
  pub is : row.current ≡ Some current
  pub number : (current.number == attempt.number) ≡ true
  pub alive : is_alive current.state ≡ true
  pub agrees : CurrentAgrees m.life.masters.registered m.life.granted attempt row current

lives_in : (m : Scene) (t : Tables) (attempt : AttemptId) (row : AppRow) (found : row_of t.rows attempt.app ≡ Some row) (retired : Bool) (c : Option Current) → row.current ≡ c → (n a : Bool)
    → RowAgrees m.life.masters.registered m.life.granted retired attempt (Some row) → lives_with attempt c ≡ true → Lives m t attempt
lives_in m t attempt row found retired None is n a agrees lives = cc
lives_in m t attempt row found retired (Some current) is n a agrees lives = by (current.number == attempt.number) (is_alive current.state) refl refl lives
  where
    by : (n a : Bool) → (current.number == attempt.number) ≡ n → is_alive current.state ≡ a → (n && a) ≡ true → Lives m t attempt
    by true true e f h =
        record { row = row; found = found; current = current; is = is; number = e; alive = f; agrees = rw (is, e) at agrees }
    by true false e f h = cc
    by false a e f h = cc

-- an attempt lives by its row
pub lives_here : (m : Scene) (t : Tables) (attempt : AttemptId) → RefinesLife m t → lives_by attempt (row_of t.rows attempt.app) ≡ true → Lives m t attempt
lives_here m t attempt shows lives = by (row_of t.rows attempt.app) refl lives (shows.masters attempt)
  where
    by : (o : Option AppRow) → row_of t.rows attempt.app ≡ o → lives_by attempt o ≡ true
        → RowAgrees m.life.masters.registered m.life.granted (has_app m.life.apps.retired attempt.app) attempt o → Lives m t attempt
    by None e h agrees = cc
    by (Some row) e h agrees = lives_in m t attempt row e (has_app m.life.apps.retired attempt.app) row.current refl true true agrees h

-- its row is the one of an attempt that lives; one that doesn't live has none
pub row_lives : (attempt : AttemptId) (o : Option AppRow) (row : AppRow) → o ≡ Some row → lives_by attempt o ≡ true → living_row attempt o ≡ Some row
row_lives attempt None row e lives = cc
row_lives attempt (Some one) row e lives = rw lives e

pub none_lives : (attempt : AttemptId) (o : Option AppRow) → lives_by attempt o ≡ false → living_row attempt o ≡ None
none_lives attempt None gone = refl
none_lives attempt (Some row) gone = rw gone refl

-- the dialogue is there where the master registered
pub same_some : (d : Option Dialogue) (o : Option MasterState) → option_map bare_dialogue d ≡ option_map plain_dialogue o → is_some d ≡ is_some o
same_some None None e = refl
same_some None (Some one) e = cc
same_some (Some one) None e = cc
same_some (Some one) (Some other) e = refl

-- REGISTRATIONS

-- what one is answered that isn't refused
registered_alike : (m : Scene) (t : Tables) (attempt : AttemptId) → RefinesLife m t → registered_told t attempt ≡ registered_reply m attempt
registered_alike m t attempt shows =
    ap (λ (kept : List Grant). if keeps (found_in t attempt.app) then Took kept else MasterRegistered) (kept_same m t attempt shows.records shows.rows)
    ∙ ap (λ (r : Records). if keeps (record_of r.apps attempt.app) then Took (map grant_of (earlier_rows m attempt)) else MasterRegistered) (sym shows.records)

register_by : (m : Scene) (t : Tables) (attempt : AttemptId) → RefinesLife m t → (b : Bool) → lives_by attempt (row_of t.rows attempt.app) ≡ b
    → master_register_told t attempt (living_row attempt (row_of t.rows attempt.app)) ≡ register_reply m attempt
register_by m t attempt shows false lives = let live : is_live m attempt ≡ false = shows.live attempt ∙ lives in rw (none_lives attempt (row_of t.rows attempt.app) lives, live) refl
register_by m t attempt shows true lives =
    let here : Lives m t attempt = lives_here m t attempt shows lives in
    let live : is_live m attempt ≡ true = shows.live attempt ∙ lives in
    let both : is_some here.row.dialogue ≡ has_registered m attempt = same_some here.row.dialogue (master_of m attempt) here.agrees.0 in
    let answered : registered_told t attempt ≡ registered_reply m attempt = registered_alike m t attempt shows in
    rw (row_lives attempt (row_of t.rows attempt.app) here.row here.found lives, live, both, answered) refl

-- a registration is answered as the judge does
pub register_answer : (m : Scene) (t : Tables) (attempt : AttemptId) → RefinesLife m t → master_register_told t attempt (living_row attempt (row_of t.rows attempt.app)) ≡ register_reply m attempt
register_answer m t attempt shows = register_by m t attempt shows (lives_by attempt (row_of t.rows attempt.app)) refl

-- MASTERS THAT FINISH

-- what is recorded tells the same
finished_same : (attempt : AttemptId) (found : Option AppRecord)
    → finished_in attempt found ≡ is_some_and (λ ending. is_finished ending.0) (option_and_then (λ (one : AttemptRecord). one.ending) (find (λ one. is_attempt one.id attempt) (attempts_in found)))
finished_same attempt None = refl
finished_same attempt (Some app) = by (attempt_in app attempt)
  where
    by_end : (e : Option (How × List ℕ)) → is_finished_end e ≡ is_some_and (λ ending. is_finished ending.0) e
    by_end None = refl
    by_end (Some ending) = refl

    by : (o : Option AttemptRecord) → has_finished o ≡ is_some_and (λ ending. is_finished ending.0) (option_and_then (λ (one : AttemptRecord). one.ending) o)
    by None = refl
    by (Some one) = by_end one.ending

-- a master of an attempt that lives is registered or finishing where the dialogue is there
spoken_same : (m : Scene) (t : Tables) (attempt : AttemptId) → RefinesLife m t → (b : Bool) → lives_by attempt (row_of t.rows attempt.app) ≡ b
    → is_some (spoken_by attempt (row_of t.rows attempt.app)) ≡ (is_finishing m attempt || is_registered m attempt)
spoken_same m t attempt shows false lives = let live : is_live m attempt ≡ false = shows.live attempt ∙ lives in rw (none_lives attempt (row_of t.rows attempt.app) lives, live) refl
spoken_same m t attempt shows true lives =
    let here : Lives m t attempt = lives_here m t attempt shows lives in
    let live : is_live m attempt ≡ true = shows.live attempt ∙ lives in
    let both : is_some here.row.dialogue ≡ is_some (master_of m attempt) = same_some here.row.dialogue (master_of m attempt) here.agrees.0 in
    rw (row_lives attempt (row_of t.rows attempt.app) here.row here.found lives, live, both) (by (master_of m attempt))
  where
    by : (o : Option MasterState) → is_some o ≡ (is_some (option_and_then (λ (one : MasterState). one.finishing) o) || (is_some o && is_none (option_and_then (λ (one : MasterState). one.finishing) o)))
    by None = refl
    by (Some one) = said one.finishing
      where
        said : (f : Option (List ℕ)) → true ≡ (is_some f || is_none f)
        said None = refl
        said (Some text) = refl

orders : (a b c d : Bool) → (if (a || b) || (c || d) then Finishing else NotRegistered) ≡ (if a || (c || d) || b then Finishing else NotRegistered)
orders true b c d = refl
orders false true true d = refl
orders false true false true = refl
orders false true false false = refl
orders false false true d = refl
orders false false false true = refl
orders false false false false = refl

-- a master that finishes is answered as the judge does
pub finish_answer : (m : Scene) (t : Tables) (attempt : AttemptId) → RefinesLife m t → finish_told attempt (found_in t attempt.app) (row_of t.rows attempt.app) ≡ finish_reply m attempt
finish_answer m t attempt shows =
    let spoken = spoken_same m t attempt shows (lives_by attempt (row_of t.rows attempt.app)) refl in
    let ends : finishes_by attempt (row_of t.rows attempt.app) ≡ awaits m (is_finished_op attempt) = sym (shows.finishes attempt) in
    let kept : finished_in attempt (found_in t attempt.app) ≡ is_some_and (λ ending. is_finished ending.0) (attempt_end m attempt) =
    finished_same attempt (found_in t attempt.app) ∙ rw shows.records refl in
    let last : has_ended_with attempt (found_in t attempt.app) ≡ (is_some (kept_end m attempt.app) && is_last m attempt) = rw shows.records refl in
    rw (last, spoken, ends, kept)
    (ap (λ (more : Reply). if is_some (kept_end m attempt.app) && is_last m attempt then Finished else more)
    (orders (is_finishing m attempt) (is_registered m attempt) (awaits m (is_finished_op attempt)) (is_some_and (λ ending. is_finished ending.0) (attempt_end m attempt))))
