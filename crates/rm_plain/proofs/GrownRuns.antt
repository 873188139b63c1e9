-- What a growing run comes to at its end, or where it is told what it has run.
use Rattle.rm_lives.proofs.Common.{inl, inr, ℕ, List, [], ◌∷◌, ◌++◌, false, true, Ok, Err, is_ok, Result, refl, sym, ◌∙◌, ap, subst, append-nil, Entry, Op, Life, Script, Seen, DiskView, Fused, StoreState, as_new, stands, Settings, DeskView}
use Rattle.std.proofs.Common.{◌≡◌, ◌≢◌, Bool, arith, length, not}
use Rattle.std.specs.Prelude.{IfOk, IfErr}
use Rattle.rm_types.specs.Records.{stray}
use Rattle.rm_model.specs.Lawful.{place_after}
use Rattle.rm_model.specs.Place.{ByLife, Growth, Place, script_grown}
use Rattle.rm_desk.specs.Effects.{Grows}
use Rattle.rm_desk.specs.Runs.{IsPlaceSound as IsDeskSound}
use Rattle.rm_lives.specs.declared.halts.Halt.{Halt}
use Rattle.rm_lives.specs.declared.halts.Stop.{Stop}
use Rattle.rm_lives.specs.declared.halts.Stop.TheVariants.{Memory}
use Rattle.rm_lives.specs.declared.moves.LifeEnd.{LifeEnd}
use Rattle.rm_lives.specs.declared.moves.LifeEnd.TheVariants.{Rest, Down}
use Rattle.rm_lives.specs.Complete.{HasPlace}
use Rattle.rm_lives.specs.Halted.{stop_of}
use Rattle.rm_lives.specs.Keeping.{FuseStays, HaltsBy}
use Rattle.rm_lives.specs.Lives.{EndsBy}
use Rattle.rm_lives.specs.Parts.{RunsOn}
use Rattle.rm_lives.specs.Starts.{LeavesAtEnd}
use Rattle.rm_lives.specs.Stops.{IsDue}
use Rattle.rm_lives.specs.Whole.{HasRun, IsWholeRun}
use Rattle.rm_plain.specs.declared.growing_run.Held.{Held}
use Rattle.rm_plain.specs.declared.growing_run.Held.TheVariants as held
use Rattle.rm_plain.specs.declared.schedule.Step.{Step}
use Rattle.rm_plain.specs.Feeding.{IsLastDue, IsSameManager, WaitsAtEnd, by_policy}
use Rattle.rm_plain.specs.GrowingRuns.{IsHeldFor, IsSettledIn, IsUnbegun, RunsSoFar, disk_held}
use Rattle.rm_plain.specs.Schedule.{StopsAt, by_letters, letters_left, steps_from, steps_of}
use Rattle.rm_lives.proofs.Completing.{only_memory}
use Rattle.rm_lives.proofs.Finishing.{if_err, is_whole, none_lived}
use Rattle.rm_lives.proofs.Moving.{TellsAll}
use Rattle.rm_lives.proofs.Ordering.{none_split}
use Rattle.rm_lives.proofs.Parts.{down_at_ease, down_runs, fuse_is_stay, runs_on, stops_on, whole_here}
use Rattle.rm_plain.proofs.Choosing.{left_none}
use Rattle.rm_plain.proofs.FedRuns.{as_plain, at_rest, none_left, runs_grown}

-- what is said of a call that wasn't refused
pub made_ok : {X E : Type 0} (r : Result X E) (b : Bool) → is_ok r ≡ not b → b ≡ false → is_ok r ≡ true
made_ok r b e f = e ∙ ap not f

-- a schedule without bytes has no letters
pub no_steps : steps_of [] ≡ []
unfolding steps_from
no_steps = refl

-- and stops nothing
no_letters : (log : List Entry) (d : DeskView) (at : ℕ) → StopsAt (letters_left [] log) d at → ⊥
no_letters log d at stops = subst (λ (l : List Step). StopsAt l d at) (left_none log) stops

module _ {D : Type 0} (view : D → DiskView) where
  -- nothing but want of memory stops a run by the policy where nothing stands in its way
  pub completes : (new : Seen) (settings : Settings) (script : Script) (disk now : Fused D) (opening : List Op) (log : List Entry) (ended : Result (Unit {0}) Stop) → HasRun (by_letters []) view new settings script disk now opening log ended
      → HasPlace view disk now (IsDue script opening log) opening log → IfErr ended (λ stop. stop ≡ Memory)
  completes new settings script disk now opening log ended h place =
      if_err ended (λ stop why. only_memory view disk now opening log (IsDue script opening log) ((by_letters []).stops new script opening log) (λ at stops. no_letters log _ at stops) place stop why) h.stopped

  -- a run of the same manager
  pub same_run : (d e : DeskView) (script : Script) (first now : Fused D) (opening : List Op) (log : List Entry) (ended : Result (Unit {0}) Stop) → IsSameManager d e
      → HasRun (by_letters []) view (as_new e.core) e.core.settings script first now opening log ended → HasRun (by_letters []) view (as_new d.core) d.core.settings script first now opening log ended
  same_run d e script first now opening log ended same h =
      subst (λ (s : Settings). HasRun (by_letters []) view (as_new d.core) s script first now opening log ended) same.settings
      (subst (λ (n : Seen). HasRun (by_letters []) view n e.core.settings script first now opening log ended) same.began h)

  -- a life was added
  pub held_grown : (life : Life) (script : Script) (first disk : Fused D) (opening : List Op) (d g : DeskView) → Grows (ByLife life) d g → RunsSoFar view script first opening d (held.Disk disk) → RunsSoFar view (script_grown (ByLife life) script) first opening g (held.Disk disk)
  held_grown life script first disk opening d g grows (inl u) = inl (record { empty = ap (λ (c : Seen). c.log) grows.core ∙ u.empty; nothing = u.nothing; same = u.same; along = λ ops. grows.run ops script tt (u.along ops) })
  held_grown life script first disk opening d g grows (inr r) = inr (runs_grown view (ByLife life) opening script first disk d g tt grows r)

  -- before the first life nothing was run
  pub before_first : (script : Script) (first disk : Fused D) (opening : List Op) (d : DeskView) → d.core.log ≡ [] → RunsSoFar view script first opening d (held.Disk disk) → IsUnbegun script first disk opening d
  before_first script first disk opening d empty (inl u) = u
  before_first script first disk opening d empty (inr r) = absurd (r.some empty)

  -- and behind it something was
  pub after_first : (script : Script) (first disk : Fused D) (opening : List Op) (d : DeskView) → d.core.log ≢ [] → RunsSoFar view script first opening d (held.Disk disk) → RunsOn by_policy view opening script first disk d
  after_first script first disk opening d some (inl u) = absurd (some u.empty)
  after_first script first disk opening d some (inr r) = r

  -- the manager is the same behind a growth
  pub grown_run : (growth : Growth) (d g : DeskView) (script : Script) (first now : Fused D) (opening : List Op) (log : List Entry) (ended : Result (Unit {0}) Stop) → Grows growth d g
      → HasRun (by_letters []) view (as_new g.core) g.core.settings script first now opening log ended → HasRun (by_letters []) view (as_new d.core) d.core.settings script first now opening log ended
  grown_run growth d g script first now opening log ended grows h = subst (λ (s : Seen). HasRun (by_letters []) view (as_new s) s.settings script first now opening log ended) grows.core h

  pub same_grown : (growth : Growth) (d g e : DeskView) → Grows growth d g → IsSameManager g e → IsSameManager d e
  same_grown growth d g e grows same = record { began = same.began ∙ ap as_new grows.core; settings = same.settings ∙ ap (λ (s : Seen). s.settings) grows.core }

  pub grown_due : (stamp : ℕ) (d g : DeskView) → Grows (ByLife (record { stamp = stamp; segments = [] })) d g → stands d.core ≡ false → d.place.lives ≡ [] → IsLastDue g
  grown_due stamp d g grows dead none =
      let life : Life = record { stamp = stamp; segments = [] } in
      record { dead = rw grows.core dead; stamp = stamp; next = ap (λ (p : Place). p.lives) grows.place ∙ ap (λ (xs : List Life). xs ++ life ∷ []) none }

  -- a life that was lived is of the same manager
  pub life_same : (d e : DeskView) (one two : StoreState D) (r : Result LifeEnd Halt) → IfOk r (EndsBy (by_letters []) view d e one two) → IfErr r (HaltsBy (by_letters []) view d e one.disk two.disk) → IsSameManager d e
  life_same d e one two (Ok Rest) ends halts = record { began = ends.goes.began; settings = ends.goes.settings }
  life_same d e one two (Ok (Down image)) ends halts = record { began = ends.goes.began; settings = ends.goes.settings }
  life_same d e one two (Err halt) ends halts = record { began = halts.goes.began; settings = halts.goes.settings }

  module _ (opening : List Op) (script : Script) (first : Fused D) where
    -- a run by the policy is one by no letters
    runs_plain : (now : Fused D) (d : DeskView) → RunsOn by_policy view opening script first now d → RunsOn (by_letters []) view opening script first now d
    runs_plain now d r =
        record {
          lives = r.lives;
          read_back = r.read_back;
          fallen = r.fallen;
          run = record { goes = r.run.goes; downs = λ rests. r.run.downs tt; falls = r.run.falls; moves = r.run.moves.0 };
          some = r.some;
          falls = r.falls;
          stays = r.stays;
          opened = r.opened;
          kept = r.kept;
          time = r.time;
        }

    -- the life that stood at the script's end is worked off
    pub finished : (inner_falls : ℕ → D → D → Type 0) (d e : DeskView) (one two : StoreState D) (now : Fused D) → RunsOn by_policy view opening script first one.disk d → d.place.lives ≡ [] → FuseStays view one.disk two.disk
        → (r : Result LifeEnd Halt) (ended : Result (Unit {0}) Stop) → IfOk r (EndsBy (by_letters []) view d e one two) → IfErr r (HaltsBy (by_letters []) view d e one.disk two.disk) → LeavesAtEnd view inner_falls two.disk now r ended
        → IsWholeRun (by_letters []) view opening script e first now ended
    finished inner_falls d e one two now r none fuse (Ok Rest) ended h halts leaves =
        let runs = runs_on (by_letters []) view opening script first one.disk two.disk d e (runs_plain one.disk d r) [] h.goes (fuse.falls ∙ sym (append-nil one.disk.falls)) (fuse_is_stay view one.disk two.disk fuse) (h.stores.kept opening) in
        let whole = whole_here (by_letters []) view opening script first two.disk e runs (record { unarmed = h.unarmed; unblown = h.unblown }) (record { lives = h.over.lives; over = inr h.over }) h.used_up in
        subst (λ (x : Result (Unit {0}) Stop). IsWholeRun (by_letters []) view opening script e first now x) (sym leaves.1) (subst (λ (f : Fused D). IsWholeRun (by_letters []) view opening script e first f (Ok tt)) (sym leaves.0) whole)
    finished inner_falls d e one two now r none fuse (Ok (Down image)) ended h halts leaves =
        let runs = down_runs (by_letters []) view opening script first now d e one two image (runs_plain one.disk d r) fuse h leaves.0.0 leaves.0.1.shown in
        let n = ap (λ (xs : List Life). length xs) none in
        let fewer = h.goes.lives in
        let lives = none_left e.place.lives (omega (arith, n, fewer)) in
        subst (λ (x : Result (Unit {0}) Stop). IsWholeRun (by_letters []) view opening script e first now x) (sym leaves.1)
        (whole_here (by_letters []) view opening script first now e runs (down_at_ease (by_letters []) view now d e one two image h leaves.0.1.shown) (record { lives = lives; over = inl h.down }) (left_none e.core.log))
    finished inner_falls d e one two now r none fuse (Err halt) ended h halts leaves =
        subst (λ (x : Result (Unit {0}) Stop). IsWholeRun (by_letters []) view opening script e first now x) (sym leaves.1)
        (subst (λ (f : Fused D). IsWholeRun (by_letters []) view opening script e first f (Err (stop_of halt))) (sym leaves.0)
        (stops_on (by_letters []) view opening script first one.disk two.disk d e (runs_plain one.disk d r) halt halts fuse))

    -- nothing was run
    unbegun_whole : (now : Fused D) (d : DeskView) → WaitsAtEnd d now → IsUnbegun script first now opening d → IsWholeRun (by_letters []) view opening script d first now (Ok tt)
    unbegun_whole now d waits u =
        let all = none_lived (by_letters []) view opening d now waits.dead u.empty waits.lives waits.unarmed u.nothing (Ok tt) (left_none d.core.log) tt (λ ends. refl) in
        let goes = u.along opening in
        subst (λ (f : Fused D). IsWholeRun (by_letters []) view opening script d f now (Ok tt)) u.same
        (is_whole (by_letters []) view opening script d d now now (Ok tt) all u.empty goes (sym goes.along.at ∙ ap (λ (log : List Entry). place_after script log) u.empty) (λ past x more is. absurd (none_split past x more is)) (ap stray u.nothing))

    -- the last life went down
    down_whole : (now : Fused D) (d : DeskView) → WaitsAtEnd d now → RunsOn by_policy view opening script first now d → IsWholeRun (by_letters []) view opening script d first now (Ok tt)
    down_whole now d waits r =
        as_plain view opening script first now d (Ok tt)
        (whole_here by_policy view opening script first now d r (record { unarmed = waits.unarmed; unblown = waits.unblown r.some }) (record { lives = waits.lives; over = inl waits.dead }) tt)

    pub disk_whole : (now : Fused D) (d : DeskView) → WaitsAtEnd d now → RunsSoFar view script first opening d (held.Disk now) → IsWholeRun (by_letters []) view opening script d first now (Ok tt)
    disk_whole now d waits (inl u) = unbegun_whole now d waits u
    disk_whole now d waits (inr r) = down_whole now d waits r

    -- all that was fed is worked off
    pub settled_whole : (d : DeskView) (h : Held D) → IsHeldFor view d h → IsSettledIn d h → TellsAll d → IsDeskSound d → RunsSoFar view script first opening d h → IsWholeRun (by_letters []) view opening script d first (disk_held h) (Ok tt)
    settled_whole d (held.Store store) up rest tells sound r = at_rest view opening script first store.disk d store refl up rest tells sound r
    settled_whole d (held.Disk disk) waits rest tells sound r = disk_whole disk d waits r
