-- A life that begins over records in their ranges is in its range.
use Rattle.rm_invariant.proofs.Common.{◌≡◌, ◌<◌, ◌^◌, ℕ, nat_le, List, [], ◌∷◌, Bool, true, false, Option, None, Some, fold, map, refl, sym, ◌∙◌, ap, subst, arith, if◌then◌else◌, AppId, AttemptId, AppRecord, AttemptRecord, is_app, IsAppId, IsOperation, Records, last_attempt, record_of, NodeCapability, BookRow, same_app, Completion, SchedEvent, AppRow, Tables, completion_of, completions_in, ended_in, put_completion, with_completed, begun, recovered_attempt, recovered_row, recovered_rows, granted_number, granted_to, row_of}
use Rattle.std.proofs.Common.{is_some, option_map}
use Rattle.rm_invariant.proofs.opening.Apps.{recovered_found}
use Rattle.rm_invariant.specs.nodes.Book.{All}
use Rattle.rm_invariant.specs.bounds.InBounds.{AreAsked, AreCounts, AreGrants, AreNodes, AreRecords, AreRows, IfThere, IsAttemptRecord, IsBooked, IsCurrent, IsOffer, IsRow, InBounds}
use Rattle.rm_invariant.proofs.bounds.MainEvents.{last_found}
use Rattle.rm_invariant.proofs.bounds.Passable.{record_found}

-- THE ROWS

-- the record that is found is the application's
record_named : (apps : List AppRecord) (id : AppId) (app : AppRecord) → record_of apps id ≡ Some app → app.id ≡ id
record_named [] id app e = cc
record_named (one ∷ apps) id app e = by (is_app one.id id) refl (record_named apps id app)
  where
    by : (b : Bool) → is_app one.id id ≡ b → (record_of apps id ≡ Some app → app.id ≡ id) → app.id ≡ id
    by true f rest =
        let is : Some one ≡ Some app = rw f at e in
        let same : one ≡ app = cc in
        subst (λ (x : AppRecord). x.id ≡ id) same (same_app one.id id f)
    by false f rest = rest (rw f at e)

found_named : (apps : List AppRecord) (id : AppId) (app : AppRecord) → AreRecords apps → record_of apps id ≡ Some app → IsAppId id
found_named apps id app all e = subst IsAppId (record_named apps id app e) (record_found apps id app all e).id

-- the last attempt of a record
last_is : (attempts : List AttemptRecord) → All IsAttemptRecord attempts → IfThere IsCurrent (option_map recovered_attempt (last_attempt attempts))
last_is attempts all = by (last_attempt attempts) refl
  where
    by : (o : Option AttemptRecord) → last_attempt attempts ≡ o → IfThere IsCurrent (option_map recovered_attempt o)
    by None e = tt
    by (Some one) e = let is = last_found attempts one all e in record { number = is.id.number; master = is.master.container }

-- the rows of recorded applications
pub recovered_are : (apps : List AppRecord) → AreRecords apps → AreRows (recovered_rows apps)
recovered_are apps all = record { each = λ id row found. by id row (record_of apps id) refl (sym (recovered_found apps id) ∙ found) }
  where
    by : (id : AppId) (row : AppRow) (o : Option AppRecord) → record_of apps id ≡ o → option_map recovered_row o ≡ Some row → IsRow id row
    by id row None e f = cc
    by id row (Some app) e f =
        let same : recovered_row app ≡ row = cc in
        let is = record_found apps id app all e in
        subst (IsRow id) same (record { named = found_named apps id app all e; pending = tt; current = last_is app.attempts is.attempts; said = tt })

-- nothing was granted yet
none_granted : (apps : List AppRecord) (id : AttemptId) → granted_number id.number (row_of (recovered_rows apps) id.app) ≡ 0
none_granted apps id = ap (granted_number id.number) (recovered_found apps id.app) ∙ by (record_of apps id.app)
  where
    pick : (b : Bool) → ◌≡◌ {A = ℕ} (if b then 0 else 0) 0
    pick true = refl
    pick false = refl

    at : (o : Option AttemptRecord) → granted_to id.number (option_map recovered_attempt o) ≡ 0
    at None = refl
    at (Some one) = pick _

    by : (o : Option AppRecord) → granted_number id.number (option_map recovered_row o) ≡ 0
    by None = refl
    by (Some app) = at (last_attempt app.attempts)

-- THOSE THAT HAVE ENDED

put_named : (one : Completion) (list : List Completion) → IsAppId one.id → All (λ (c : Completion). IsAppId c.id) list → All (λ (c : Completion). IsAppId c.id) (put_completion one list)
put_named one [] is all = (is, tt)
put_named one (other ∷ list) is all = by (nat_le other.order one.order) (put_named one list is all.1)
  where
    by : (b : Bool) → All (λ (c : Completion). IsAppId c.id) (put_completion one list) → All (λ (c : Completion). IsAppId c.id) (if b then other ∷ put_completion one list else one ∷ other ∷ list)
    by true rest = (all.0, rest)
    by false rest = (is, all)

completed_named : (apps : List AppRecord) (list : List Completion) → AreRecords apps → All (λ (c : Completion). IsAppId c.id) list → All (λ (c : Completion). IsAppId c.id) (fold with_completed list apps)
completed_named [] list all named = named
completed_named (app ∷ apps) list all named = completed_named apps (with_completed list app) all.1 (by (is_some app.ending))
  where
    by : (b : Bool) → All (λ (c : Completion). IsAppId c.id) (if b then put_completion (completion_of app) list else list)
    by true = put_named (completion_of app) list all.0.id named
    by false = named

pub ended_named : (apps : List AppRecord) → AreRecords apps → All IsAppId (ended_in apps)
ended_named apps all = by (completions_in apps) (completed_named apps [] all tt)
  where
    by : (list : List Completion) → All (λ (c : Completion). IsAppId c.id) list → All IsAppId (map (λ one. one.id) list)
    by [] named = tt
    by (one ∷ list) named = (named.0, by list named.1)

-- LIVES

-- a life of which nothing else is known is in its range
pub fresh_ranged : (t : Tables) → AreRecords t.tree.apps → All IsOperation t.awaiting → All IsAppId t.ended → AreCounts t → t.rows ≡ recovered_rows t.tree.apps → t.sched ≡ [] → t.asks ≡ [] → t.book.rows ≡ [] → t.book.nodes ≡ []
    → t.nodes ≡ [] → InBounds t
fresh_ranged t all awaiting ended counts rows sched asks book offers nodes =
    record {
      tree = all;
      awaiting = awaiting;
      ended = ended;
      rows = subst AreRows (sym rows) (recovered_are t.tree.apps all);
      grants =
          subst (λ (l : List SchedEvent). AreGrants t.rows l t.served) (sym sched)
          (subst (λ (l : List (AppId × Option AppRow)). AreGrants l [] t.served) (sym rows) (record { each = λ id. let none = none_granted t.tree.apps id in omega (arith, none) }));
      asks = subst AreAsked (sym asks) (record { each = λ attempt. tt });
      book = subst (λ (l : List BookRow). All IsBooked l) (sym book) tt;
      offers = subst (λ (l : List NodeCapability). All IsOffer l) (sym offers) tt;
      nodes = subst AreNodes (sym nodes) (record { each = λ name row found. cc });
      counts = counts;
    }

-- so is one that begins
pub begun_ranged : (tree : Records) (stamp : ℕ) (t : Tables) → AreRecords tree.apps → tree.next_epoch < 2 ^ 24 → InBounds (begun tree stamp t)
begun_ranged tree stamp t all epoch =
    fresh_ranged (begun tree stamp t) all tt (ended_named tree.apps all) (record { epoch = epoch; served = omega arith; given = omega arith; clock = omega arith }) refl refl refl refl refl refl
