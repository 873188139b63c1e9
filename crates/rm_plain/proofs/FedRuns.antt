-- A run of the script so far goes on as one of the longer script.
use Rattle.rm_lives.proofs.Common.{Seen, ◌≢◌, ◌⊎◌, inr, ℕ, List, [], ◌∷◌, ◌++◌, true, None, Ok, Err, Result, refl, sym, ◌∙◌, ap, subst, arith, append-nil, Entry, Op, Life, Script, Place, close_left, Records, IsLeftAfter, as_new, Lane, Begin, is_ready_at, DiskView, Fused, StoreState, seen, StandsFor, DeskView}
use Rattle.std.proofs.Common.{◌≡◌, ◌≤◌, length}
use Rattle.rm_types.specs.declared.scripts.Segment.{Segment}
use Rattle.rm_types.specs.Records.{stray}
use Rattle.rm_disk.specs.Disk.{IfTold}
use Rattle.rm_store.specs.Content.{HasContent}
use Rattle.rm_model.specs.Lawful.{place_after}
use Rattle.rm_model.specs.Place.{beginning, moved, place_begun}
use Rattle.rm_desk.specs.Effects.{LifeBegins}
use Rattle.rm_desk.specs.Runs.{IsScriptRun as GoesAlong}
use Rattle.rm_model.specs.Place.{ByLife, BySegment, Growth, MayGrow, lives_grown, script_grown}
use Rattle.rm_desk.specs.Effects.{Grows}
use Rattle.rm_lives.specs.declared.halts.Halt.{Halt}
use Rattle.rm_lives.specs.declared.halts.Halt.TheVariants as halts
use Rattle.rm_lives.specs.declared.halts.Stop.{Stop}
use Rattle.rm_lives.specs.declared.moves.LifeEnd.TheVariants.{Down}
use Rattle.rm_plain.specs.Feeding.{FedLeft, FedUp, IsLastDue, IsSameManager, SettledOn, StandsAtEnd, StopsAgain, StopsFirst, by_policy}
use Rattle.rm_lives.specs.Halted.{stop_of}
use Rattle.rm_lives.specs.Keeping.{FuseStays, HaltsBy, HaltsOver, IsFoundOn, Serves}
use Rattle.rm_lives.specs.Later.{FirstStopped, IsAgain, IsDueAt, IsFirst, IsUnfounded, IsUnready, StopsLater}
use Rattle.rm_lives.specs.Lives.{WentDown}
use Rattle.rm_lives.specs.Starts.{IsAtEase, IsGivenBack, LeavesAtEnd, disarmed}
use Rattle.rm_plain.proofs.Growing.{grown_is_run, policy_may}
use Rattle.rm_lives.proofs.Halting.{unkept_same}
use Rattle.rm_lives.proofs.Moving.{TellsAll, goes_same}
use Rattle.rm_lives.specs.Order.{May}
use Rattle.rm_lives.proofs.Ordering.{none_split}
use Rattle.rm_plain.proofs.Choosing.{begin_chosen, left_none}
use Rattle.rm_lives.proofs.Onward.{again_to, first_to, stopped_before, unfounded_stops}
use Rattle.rm_lives.proofs.Parts.{down_at_ease, down_runs, fuse_is_stay, runs_on, stops_later, stops_on, whole_here}
use Rattle.rm_lives.specs.Parts.{RunsOn}
use Rattle.rm_lives.specs.Whole.{IsWholeRun}
use Rattle.rm_lives.proofs.Finishing.{due_is, first_stops, if_err, is_whole}
use Rattle.rm_lives.proofs.Ending.{over_unblown}
use Rattle.rm_plain.specs.Schedule.{by_letters}
use Rattle.rm_desk.specs.Runs.{IsPlaceSound as IsDeskSound}
use Rattle.rm_core.specs.Words.{has_rest}
use Rattle.rm_lives.specs.Order.{StopsHere}
use Rattle.rm_lives.specs.Keeping.{armed_by}
use Rattle.rm_types.proofs.TestLemmas.{on_ok}
use Rattle.rm_lives.proofs.Starting.{unbegun}
use Rattle.rm_lives.proofs.Stored.{unkept_stores}

-- a script that has lives has some when it grew
grown_some : (growth : Growth) (script : Script) → script.lives ≢ [] → (script_grown growth script).lives ≢ []
grown_some growth script some = by growth script.lives refl
  where
    by : (growth : Growth) (lives : List Life) → script.lives ≡ lives → (script_grown growth script).lives ≢ []
    by growth [] e = absurd (some e)
    by (ByLife life) (one ∷ more) e = λ none. (let x = rw e at none in cc)
    by (BySegment segment) (one ∷ []) e = λ none. (let x = rw e at none in cc)
    by (BySegment segment) (one ∷ next ∷ more) e = λ none. (let x = rw e at none in cc)

pub appended : (lives : List Life) (life : Life) → lives ++ life ∷ [] ≢ []
appended [] life h = cc
appended (one ∷ more) life h = cc

pub none_left : (lives : List Life) → length lives ≤ 0 → lives ≡ []
none_left [] h = refl
none_left (life ∷ more) h = absurd (omega (arith, h))

module _ {D : Type 0} (view : D → DiskView) (opening : List Op) (script : Script) (disk now : Fused D) (d : DeskView) where
  -- a run by the policy is one by no letters
  pub as_plain : (ended : Result (Unit {0}) Stop) → IsWholeRun by_policy view opening script d disk now ended → IsWholeRun (by_letters []) view opening script d disk now ended
  as_plain ended w =
      record {
        fallen = w.fallen;
        run = record { goes = w.run.goes; downs = λ rests. w.run.downs tt; falls = w.run.falls; moves = w.run.moves.0 };
        falls = w.falls;
        stays = w.stays;
        unarmed = w.unarmed;
        unblown = w.unblown;
        opened = w.opened;
        found = w.found;
        read_back = w.read_back;
        ends = w.ends;
        used_up = on_ok ended (left_none d.core.log);
        quiet = w.quiet;
        idle = λ none. let i = w.idle none in (i.0, i.1, λ used. i.2 tt);
        begun = w.begun;
        images = w.images;
        images_now = w.images_now;
        stopped =
            if_err ended
            (λ stop why. due_is view opening d.core.log disk now (IsDueAt d) (IsDueAt d) (StopsHere by_policy d) (StopsHere (by_letters []) d) (λ due. due) (λ place stops ops lives along. absurd (stops ops lives along)) stop why) w.stopped;
      }

  -- where a life stands at the script's end with nothing left to do, that is a whole run
  pub at_rest : (store : StoreState D) → store.disk ≡ now → StandsAtEnd view d store → has_rest d.core → TellsAll d → IsDeskSound d → RunsOn by_policy view opening script disk now d → IsWholeRun (by_letters []) view opening script d disk now (Ok tt)
  at_rest store is up rest tells sound r =
      as_plain (Ok tt)
      (whole_here by_policy view opening script disk now d r
      (subst IsAtEase is
      (record {
        unarmed = up.serves.armed ∙ ap (λ (s : List Segment). armed_by (close_left s)) up.segments;
        unblown = up.serves.blown ∙ over_unblown d sound up.stands up.segments;
      }))
      (record { lives = up.lives; over = inr (record { lives = up.lives; segments = up.segments; rest = λ ops k. (tells ops k).at_rest rest }) }) tt)

module _ {D : Type 0} (view : D → DiskView) where
  -- nothing but the script changed
  pub runs_grown : (growth : Growth) (opening : List Op) (script : Script) (disk now : Fused D) (d g : DeskView) → MayGrow growth script → Grows growth d g → RunsOn by_policy view opening script disk now d → RunsOn by_policy view opening (script_grown growth script) disk now g
  runs_grown growth opening script disk now d g may grows r =
      record {
        lives = grown_some growth script r.lives;
        read_back = r.read_back;
        fallen = r.fallen;
        run = grown_is_run growth opening script r.fallen d g may grows r.run;
        some = rw grows.core r.some;
        falls = r.falls;
        stays = r.stays;
        opened = r.opened;
        kept = rw grows.core r.kept;
        time = rw grows.core r.time;
      }

  module _ (segment : Segment) (d g e : DeskView) (grows : Grows (BySegment segment) d g) (store one two : StoreState D) (inner : one.disk.inner ≡ store.disk.inner) (refused : one.disk.refused ≡ store.disk.refused) (armed : FuseStays view store.disk one.disk) where
    abbrev longer : Script → Script
    longer script = script_grown (BySegment segment) script

    -- the fuse was armed for what was fed
    runs_armed : (opening : List Op) (script : Script) (disk : Fused D) → RunsOn by_policy view opening script disk store.disk d → RunsOn by_policy view opening (longer script) disk one.disk g
    runs_armed opening script disk r =
        runs_on by_policy view opening (longer script) disk store.disk one.disk g g (runs_grown (BySegment segment) opening script disk store.disk d g r.lives grows r) [] (goes_same g) (armed.falls ∙ sym (append-nil store.disk.falls))
        (fuse_is_stay view store.disk one.disk armed) (λ k has. rw (inner, refused) (unkept_stores opening g g (unkept_same g) (seen view store.disk) k has))

    lives_end : d.place.lives ≡ [] → length e.place.lives ≤ length g.place.lives → e.place.lives ≡ []
    lives_end none fewer =
        let g_none : g.place.lives ≡ [] = ap (λ (p : Place). p.lives) grows.place ∙ ap (lives_grown segment) none in
        none_left e.place.lives (let n = ap (λ (xs : List Life). length xs) g_none in omega (arith, n, fewer))

    same_by : as_new e.core ≡ as_new g.core → e.core.settings ≡ g.core.settings → IsSameManager d e
    same_by began settings = record { began = began ∙ ap as_new grows.core; settings = settings ∙ ap (λ (c : Seen). c.settings) grows.core }

    -- it settled
    pub fed_up : d.place.lives ≡ [] → FuseStays view one.disk two.disk → SettledOn view g e one two → FedUp view segment d e store two
    fed_up none fuse h =
        record {
          up = record { stands = h.stands; lives = lives_end none h.goes.lives; segments = h.none; serves = h.serves };
          rest = h.rest;
          same = same_by h.goes.began h.goes.settings;
          runs = λ opening script disk r.
              runs_on by_policy view opening (longer script) disk one.disk two.disk g e (runs_armed opening script disk r) [] h.goes (fuse.falls ∙ sym (append-nil one.disk.falls)) (fuse_is_stay view one.disk two.disk fuse) (h.stores opening);
        }

    -- it went down
    pub fed_left : (inner_falls : ℕ → D → D → Type 0) → d.place.lives ≡ [] → FuseStays view one.disk two.disk → (now : Fused D) (image : ℕ) (ended : Result (Unit {0}) Stop) → WentDown by_policy view g e one two image
        → LeavesAtEnd view inner_falls two.disk now (Ok (Down image)) ended → FedLeft view segment d e store now ended
    fed_left inner_falls none fuse now image ended h leaves =
        let at_ease = down_at_ease by_policy view now g e one two image h leaves.0.1.shown in
        subst (λ (r : Result (Unit {0}) Stop). FedLeft view segment d e store now r) (sym leaves.1)
        (record {
          down = record { dead = h.down; lives = lives_end none h.goes.lives; unarmed = at_ease.unarmed; unblown = λ some. at_ease.unblown };
          same = same_by h.goes.began h.goes.settings;
          runs = λ opening script disk r. down_runs by_policy view opening (longer script) disk now g e one two image (runs_armed opening script disk r) fuse h leaves.0.0 leaves.0.1.shown;
        })

    -- or the run was stopped
    pub fed_halted : (inner_falls : ℕ → D → D → Type 0) → FuseStays view one.disk two.disk → (now : Fused D) (halt : Halt) (ended : Result (Unit {0}) Stop) → HaltsBy by_policy view g e one.disk two.disk halt
        → LeavesAtEnd view inner_falls two.disk now (Err halt) ended → FedLeft view segment d e store now ended
    fed_halted inner_falls fuse now halt ended h leaves =
        subst (λ (r : Result (Unit {0}) Stop). FedLeft view segment d e store now r) (sym leaves.1)
        (record {
          same = same_by h.goes.began h.goes.settings;
          whole = λ opening script disk r.
              as_plain view opening (longer script) disk now e (Err (stop_of halt))
              (subst (λ (f : Fused D). IsWholeRun by_policy view opening (longer script) e disk f (Err (stop_of halt))) (sym leaves.0)
              (stops_on by_policy view opening (longer script) disk one.disk two.disk g e (runs_armed opening script disk r) halt h fuse));
        })

-- A LIFE BEGINS

-- the life that is due begins, with no segment
pub begun_up : {D : Type 0} (view : D → DiskView) (d e : DeskView) (tree : Records) (now : StoreState D) → IsLastDue d → LifeBegins tree d e → Serves view e now → StandsAtEnd view e now
begun_up view d e tree now due begins serves =
    let place : e.place ≡ record { lives = []; segments = [] } = begins.adds.place ∙ ap (λ (x : Entry). moved d.place x) begins.adds.of_kind.2 ∙ ap (λ (xs : List Life). place_begun xs d.place) due.next in
    record { stands = begins.standing; lives = ap (λ (p : Place). p.lives) place; segments = ap (λ (p : Place). p.segments) place; serves = serves }

-- a life is left that is due
due_some : (d : DeskView) → IsLastDue d → d.place.lives ≢ []
due_some d due = λ empty. (let x = sym due.next ∙ empty in cc)

-- it may begin by the plain policy
pub due_may : (d : DeskView) → IsLastDue d → ((lane : Lane) → is_ready_at d lane ≡ true → lane ≡ Begin) → May by_policy Begin d
due_may d due only = policy_may d Begin (begin_chosen d due.dead (due_some d due) only) (λ end. due_some d due end.lives)

-- A LIFE DOESN'T BEGIN

module _ {D : Type 0} (view : D → DiskView) (d : DeskView) (due : IsLastDue d) where
  -- the first one
  module _ (empty : d.core.log ≡ []) (opening : List Op) (read : stray opening ≡ None) where
    first_whole : (e : DeskView) (disk now : Fused D) (stop : Stop) → FirstStopped by_policy view opening d e disk now stop → StopsFirst view opening d e disk now stop
    first_whole e disk now stop h = λ script goes.
        as_plain view opening script disk now e (Err stop)
        (is_whole by_policy view opening script d e disk now (Err stop) (first_stops by_policy view opening d e disk now stop (due_some d due) h) empty goes (sym goes.along.at ∙ ap (λ (log : List Entry). place_after script log) empty)
        (λ past x more is. absurd (none_split past x more is), λ past x more is. absurd (none_split past x more is)) read)

    -- no store was opened that it can begin over
    pub first_unfounded : (disk now : Fused D) (stop : Stop) → IsGivenBack view disk now → (opening ≡ []) ⊎ IfTold (seen view disk) (λ bytes. HasContent bytes opening) → IsUnfounded view opening disk now stop → StopsFirst view opening d d disk now stop
    first_unfounded disk now stop back found why = first_whole d disk now stop (unfounded_stops by_policy view d disk now opening stop due.dead (due_some d due) empty back found why)

    -- no memory was found where it was to begin
    pub first_halted : (e : DeskView) (disk now : Fused D) (store two : StoreState D) (tree : Records) (halt : Halt) → IsFirst view disk store tree opening
        → HaltsOver by_policy view (λ ops. IsLeftAfter tree ops d.core.log) (λ ops. IsFoundOn ops d.core tree (seen view store.disk)) d e store.disk two.disk halt → two.disk.inner ≡ store.disk.inner → two.disk.refused ≡ store.disk.refused
        → FuseStays view store.disk two.disk → now ≡ disarmed two.disk → halt ≡ halts.Memory → StopsFirst view opening d e disk now (stop_of halt)
    first_halted e disk now store two tree halt first h inner refused stays same memory =
        first_whole e disk now (stop_of halt)
        (first_to by_policy view d e disk now store tree opening first empty due.dead (Err (stop_of halt))
        (unbegun {order = by_policy} view (λ ops. IsLeftAfter tree ops d.core.log) (λ ops. IsFoundOn ops d.core tree (seen view store.disk)) d e store two now halt h inner refused stays same memory))

  -- a later one
  later_whole : (e : DeskView) (disk now : Fused D) (stop : Stop) → StopsLater by_policy view d e disk now stop → StopsAgain view d e disk now stop
  later_whole e disk now stop h = λ opening script first r. as_plain view opening script first now e (Err stop) (stops_later by_policy view opening script first disk now d e r stop h)

  pub later_unopened : (disk now : Fused D) (stop : Stop) → IsGivenBack view disk now → ((opening : List Op) → StandsFor opening d.core → IsUnready view opening d.core.log disk now stop) → StopsAgain view d d disk now stop
  later_unopened disk now stop back why = later_whole d disk now stop (stopped_before by_policy view d disk now stop due.dead (due_some d due) back why)

  pub later_halted : (e : DeskView) (disk now : Fused D) (store two : StoreState D) (tree : Records) (halt : Halt) → IsAgain view d.core disk store tree
      → HaltsOver by_policy view (λ ops. IsLeftAfter tree ops d.core.log) (λ ops. IsFoundOn ops d.core tree (seen view store.disk)) d e store.disk two.disk halt → two.disk.inner ≡ store.disk.inner → two.disk.refused ≡ store.disk.refused
      → FuseStays view store.disk two.disk → now ≡ disarmed two.disk → halt ≡ halts.Memory → StopsAgain view d e disk now (stop_of halt)
  later_halted e disk now store two tree halt again h inner refused stays same memory =
      later_whole e disk now (stop_of halt)
      (again_to by_policy view d e disk now store tree again (Err (stop_of halt))
      (unbegun {order = by_policy} view (λ ops. IsLeftAfter tree ops d.core.log) (λ ops. IsFoundOn ops d.core tree (seen view store.disk)) d e store two now halt h inner refused stays same memory))

-- a script along which a run goes has the lives that are left where nothing was logged
pub due_lives : (opening : List Op) (script : Script) (d : DeskView) → d.core.log ≡ [] → IsLastDue d → GoesAlong opening script d → script.lives ≢ []
due_lives opening script d empty due goes =
    let place : d.place ≡ beginning script = sym goes.along.at ∙ ap (λ (log : List Entry). place_after script log) empty in
    λ none. due_some d due (ap (λ (p : Place). p.lives) place ∙ none)
