-- What an allocation is answered from the tables is what the judge answers, where the tables show the judge's scene.
use Rattle.rm_master.proofs.Common.{◌≡◌, ℕ, ◌+◌, List, Bool, true, false, not, ◌&&◌, Option, None, Some, is_none, map, length, refl, sym, ◌∙◌, ap, subst, if◌then◌else◌, option_map, ◌==◌, nat_lt, eqb-true, Ask, Closing, Grant, AttemptId, Reply, Resync, WrongId, TooLarge, Full, Allocated, MasterState, Scene, is_live, is_registered, master_of, has_app, untold_rows, with_asks, AppRow, Dialogue, Tables, row_of, bare_dialogue, closings_for, plain_dialogue, RefinesLife, lives_by}
use Rattle.rm_book.specs.ManyAsks.{asks_after}
use Rattle.rm_model.specs.MasterReplies.{allocate_reply, allocated_reply, allocation_reply, grant_of, is_late, has_too_many as too_many_told}
use Rattle.rm_refinement.specs.Agreement.{ClosingsAgree, PlainDialogue}
use Rattle.rm_master.specs.Told.{allocate_told, allocated_told, asks_too_much, closings_told, asks_too_many, living_row, new_told, said_told, spoken_told}
use Rattle.rm_master.proofs.Asked.{lines_told, many_told}
use Rattle.rm_refinement.specs.Services.{LateAgrees, LateSince}
use Rattle.rm_tables.specs.LateRows.{is_late_row}
use Rattle.rm_master.proofs.Granted.{endings_same, told_rows_same}
use Rattle.rm_master.proofs.Replies.{Lives, lives_here, none_lives, row_lives}

-- too many are too many
pub many_alike : (m : Scene) (t : Tables) (attempt : AttemptId) (asks : List Ask) → RefinesLife m t → asks_too_many t.asks attempt asks ≡ too_many_told attempt (with_asks attempt m.life.asks asks)
many_alike m t attempt asks shows =
    ap (λ (n : ℕ). nat_lt 64 n)
    (ap (λ (so_far : List Ask). length (asks_after so_far asks)) (shows.asks attempt) ∙ ap (length {A = Ask}) (sym (many_told attempt m.life.asks asks)) ∙ sym (lines_told attempt (with_asks attempt m.life.asks asks)))

-- the endings of a row are those of the application
row_closings : (m : Scene) (t : Tables) (attempt : AttemptId) (row : AppRow) (o : Option AppRow) → o ≡ Some row → (retired : Bool) → ClosingsAgree m.life.endings.outbox attempt.app retired o
    → row.closings ≡ closings_for m.life.endings.outbox attempt.app
row_closings m t attempt row None e retired agree = cc
row_closings m t attempt row (Some one) e retired agree = let same : one ≡ row = cc in rw (← same) agree

pub closings_alike : (m : Scene) (t : Tables) (attempt : AttemptId) (row : AppRow) → row_of t.rows attempt.app ≡ Some row → RefinesLife m t → row.closings ≡ closings_for m.life.endings.outbox attempt.app
closings_alike m t attempt row found shows =
    row_closings m t attempt row (row_of t.rows attempt.app) found (has_app m.life.apps.retired attempt.app) (shows.closings attempt.app)

-- what a master is told
told_alike : (m : Scene) (t : Tables) (attempt : AttemptId) (id told : ℕ) (row : AppRow) → row_of t.rows attempt.app ≡ Some row → (t.settings.recover_ended_containers ≡ true → map (is_late_row t attempt told) t.book.rows ≡ map (is_late m attempt) m.life.book) → RefinesLife m t
    → allocated_told t attempt id told row ≡ allocated_reply t.settings m attempt id
told_alike m t attempt id told row found late shows =
    ap (λ (x : List Grant). Allocated (id + 1) x (closings_told attempt row.closings)) (told_rows_same m t attempt shows.records told shows.rows late)
    ∙ ap (λ (x : List Closing). Allocated (id + 1) (map grant_of (untold_rows t.settings m attempt)) x)
    (ap (closings_told attempt) (closings_alike m t attempt row found shows) ∙ endings_same attempt m.life.endings.outbox)

-- what came late is the same, where the attempt lives
late_in : (m : Scene) (t : Tables) (attempt : AttemptId) (row : AppRow) (one : Dialogue) (o : Option AppRow) → o ≡ Some row → lives_by attempt o ≡ true → row.dialogue ≡ Some one → LateAgrees m t attempt o
    → map (is_late_row t attempt one.told) t.book.rows ≡ map (is_late m attempt) m.life.book
late_in m t attempt row one None found lives spoken late = cc
late_in m t attempt row one (Some other) found lives spoken late =
    let same : other ≡ row = cc in
    let told = late lives in
    let since : LateSince m t attempt row.dialogue = rw (← same) told in
    rw spoken at since

pub late_same : (m : Scene) (t : Tables) (attempt : AttemptId) (row : AppRow) (one : Dialogue) → row_of t.rows attempt.app ≡ Some row → lives_by attempt (row_of t.rows attempt.app) ≡ true → row.dialogue ≡ Some one → RefinesLife m t
    → t.settings.recover_ended_containers ≡ true → map (is_late_row t attempt one.told) t.book.rows ≡ map (is_late m attempt) m.life.book
late_same m t attempt row one found lives spoken shows recovers = late_in m t attempt row one (row_of t.rows attempt.app) found lives spoken (shows.around.late recovers attempt)

module _ (m : Scene) (t : Tables) (attempt : AttemptId) (id : ℕ) (asks : List Ask) (shows : RefinesLife m t) where
  -- in a dialogue
  said_alike : (row : AppRow) → row_of t.rows attempt.app ≡ Some row → lives_by attempt (row_of t.rows attempt.app) ≡ true → is_live m attempt ≡ true → (one : Dialogue) (master : MasterState) → row.dialogue ≡ Some one → bare_dialogue one ≡ plain_dialogue master → master_of m attempt ≡ Some master
      → said_told t attempt id asks row one ≡ allocate_reply t.settings m attempt id asks (Some master)
  said_alike row found lives live one master spoken same is =
      let last : one.last_id ≡ master.last_id = ap (λ (x : PlainDialogue). x.last_id) same in
      let reply : one.last_reply ≡ master.last_reply = ap (λ (x : PlainDialogue). x.last_reply) same in
      let finishing : one.finishing ≡ master.finishing = ap (λ (x : PlainDialogue). x.finishing) same in
      let registered : is_registered m attempt ≡ is_none master.finishing = rw (live, is) refl in
      by_text master.finishing finishing registered last reply (id + 1 == master.last_id) (id == master.last_id) refl refl
    where
      by_id : (a b : Bool) → (id + 1 == master.last_id) ≡ a → (id == master.last_id) ≡ b → one.last_id ≡ master.last_id → one.last_reply ≡ master.last_reply
          → (if id + 1 == one.last_id then one.last_reply else (if not (id == one.last_id) then WrongId else new_told t attempt id one.told asks row)) ≡ allocation_reply t.settings m attempt id asks master
      by_id true b e f last reply = rw (last, e) reply
      by_id false false e f last reply = rw (last, e, f) refl
      by_id false true e f last reply =
          let many = many_alike m t attempt asks shows in
          let told = told_alike m t attempt id one.told row found (late_same m t attempt row one found lives spoken shows) shows in
          let next : id ≡ master.last_id = eqb-true id master.last_id f in
          rw (last, e, f, many)
          (ap (λ (x : Reply). if asks_too_much t.settings.greatest asks then TooLarge else (if too_many_told attempt (with_asks attempt m.life.asks asks) then Full else x))
          (told ∙ ap (allocated_reply t.settings m attempt) next))

      by_text : (f : Option (List ℕ)) → one.finishing ≡ f → is_registered m attempt ≡ is_none f → one.last_id ≡ master.last_id → one.last_reply ≡ master.last_reply
          → (a b : Bool) → (id + 1 == master.last_id) ≡ a → (id == master.last_id) ≡ b
          → said_told t attempt id asks row one ≡ allocate_reply t.settings m attempt id asks (Some master)
      by_text None finishing registered last reply a b e f = rw (finishing, registered) (by_id a b e f last reply)
      by_text (Some text) finishing registered last reply a b e f = rw (finishing, registered) refl

  -- of an attempt that lives
  spoken_alike : (row : AppRow) → row_of t.rows attempt.app ≡ Some row → lives_by attempt (row_of t.rows attempt.app) ≡ true → is_live m attempt ≡ true → (d : Option Dialogue) (o : Option MasterState) → row.dialogue ≡ d → option_map bare_dialogue d ≡ option_map plain_dialogue o
      → master_of m attempt ≡ o → spoken_told t attempt id asks row d ≡ allocate_reply t.settings m attempt id asks o
  spoken_alike row found lives live None None spoken same is = refl
  spoken_alike row found lives live None (Some master) spoken same is = cc
  spoken_alike row found lives live (Some one) None spoken same is = cc
  spoken_alike row found lives live (Some one) (Some master) spoken same is =
      let alike : bare_dialogue one ≡ plain_dialogue master = cc in said_alike row found lives live one master spoken alike is

  -- of one that doesn't
  gone_alike : is_live m attempt ≡ false → (o : Option MasterState) → Resync ≡ allocate_reply t.settings m attempt id asks o
  gone_alike live None = refl
  gone_alike live (Some master) = rw live refl

  by_life : (b : Bool) → lives_by attempt (row_of t.rows attempt.app) ≡ b
      → allocate_told t attempt id asks (living_row attempt (row_of t.rows attempt.app)) ≡ allocate_reply t.settings m attempt id asks (master_of m attempt)
  by_life false lives = rw (none_lives attempt (row_of t.rows attempt.app) lives) (gone_alike (shows.live attempt ∙ lives) (master_of m attempt))
  by_life true lives =
      let here : Lives m t attempt = lives_here m t attempt shows lives in
      rw (row_lives attempt (row_of t.rows attempt.app) here.row here.found lives)
      (spoken_alike here.row here.found lives (shows.live attempt ∙ lives) here.row.dialogue (master_of m attempt) refl here.agrees.0 refl)

  -- an allocation is answered as the judge does
  pub allocate_answer : allocate_told t attempt id asks (living_row attempt (row_of t.rows attempt.app)) ≡ allocate_reply t.settings m attempt id asks (master_of m attempt)
  allocate_answer = by_life (lives_by attempt (row_of t.rows attempt.app)) refl
