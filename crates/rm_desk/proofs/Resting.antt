-- Where nothing is left to do, a lane of the script is ready, or the run is done.
use Rattle.std.proofs.Common.{◌≡◌, ◌⊎◌, inl, inr, ⊎_elim, List, [], ◌∷◌, Bool, true, false, is_some, refl, sym, ◌∙◌, subst}
use Rattle.std.proofs.lemmas.Bool.{and_parts}
use Rattle.rm_types.specs.declared.messages.Lane.{Lane}
use Rattle.rm_types.specs.declared.messages.Lane.TheVariants.{Client, Master, Node, Clock, Main, Sched, Hand, Write, End, Begin}
use Rattle.rm_types.specs.declared.messages.Message.{Message}
use Rattle.rm_types.specs.declared.messages.Message.TheVariants.{Client as FromClient, Clock as FromClock, Master as FromMaster, Node as FromNode}
use Rattle.rm_types.specs.declared.messages.Sender.TheVariants as senders
use Rattle.rm_types.specs.declared.operations.Op.{Op}
use Rattle.rm_types.specs.declared.scripts.Close.{Close}
use Rattle.rm_types.specs.declared.scripts.Close.TheVariants.{Settle, Crash}
use Rattle.rm_types.specs.declared.scripts.Life.{Life}
use Rattle.rm_types.specs.declared.scripts.Segment.{Segment}
use Rattle.rm_model.specs.Place.{close_left, first_from, messages_left}
use Rattle.rm_core.specs.Seen.{Rests, StandsFor}
use Rattle.rm_core.specs.Words.{can_go_down, has_rest, is_blown, ready_at, stands}
use Rattle.rm_desk.specs.View.{DeskView}
use Rattle.rm_desk.specs.Lanes.{HasNoWork, is_ready_at}
use Rattle.rm_desk.specs.Runs.{IsLast, IsScriptOver, IsPlaceSound, DescribesState}
use Rattle.rm_desk.specs.Scripts.{EndsInCrash, ClosesByCrash}
use Rattle.rm_desk.proofs.Words.{blown_down, blown_serves, dead_idle, idle_rests, life_blew, life_none, life_stands, rest_down, rest_ends, rest_open, rest_owes}

-- what a desk tells of the state after its log
pub tells : (d : DeskView) → Rests d.core → (opening : List Op) → StandsFor opening d.core → DescribesState opening d
tells d rests opening k =
    record { life = life_stands d.core opening k; none = life_none d.core opening k; blew = life_blew d.core opening k; at_rest = λ rest. rest_owes d.core rest rests opening k }

-- some lane is ready
abbrev pub SomeReady : DeskView → Type 0
SomeReady d = (lane : Lane) × (is_ready_at d lane ≡ true)

-- where the current segment may close
module _ (d : DeskView) (serves : ready_at d.core Client ≡ true) (down : can_go_down d.core ≡ true) where
  -- it closes, or a message of it is served
  of_segment : (segment : Segment) (more : List Segment) → d.place.segments ≡ segment ∷ more → (messages : List Message) → segment.messages ≡ messages → (close : Close) → segment.close ≡ close
      → (close ≡ Settle → ready_at d.core End ≡ true) → SomeReady d
  of_segment segment more e (FromClient user ask ∷ messages) em close ec settles = (Client, rw (e, em, serves) refl)
  of_segment segment more e (FromMaster attempt ask ∷ messages) em close ec settles = (Master, rw (e, em, serves) refl)
  of_segment segment more e (FromNode name ask ∷ messages) em close ec settles = (Node, rw (e, em, serves) refl)
  of_segment segment more e (FromClock ask ∷ messages) em close ec settles = (Clock, rw (e, em, serves) refl)
  of_segment segment more e [] em Settle ec settles = (End, rw (e, ec, em, settles refl) refl)
  of_segment segment more e [] em (Crash calls image) ec settles = (End, rw (e, ec, em, down) refl)

-- where nothing is left to do in a life that stands
module _ (d : DeskView) (h : IsPlaceSound d) (rests : Rests d.core) (alive : stands d.core ≡ true) (rest : has_rest d.core) where
  lives_none : d.place.segments ≡ [] → (lives : List Life) → d.place.lives ≡ lives → lives ≡ []
  lives_none none [] e = refl
  lives_none none (life ∷ more) e = absurd (subst EndsInCrash none (h.ends alive (λ x. let y = sym e ∙ x in cc)))

  at_segments : (segments : List Segment) → d.place.segments ≡ segments → IsScriptOver d ⊎ SomeReady d
  at_segments [] e = inl (record { lives = lives_none e d.place.lives refl; segments = e; rest = λ a. rest })
  at_segments (segment ∷ more) e =
      inr (of_segment d (rest_open d.core alive rest rests) (rest_down d.core alive rest) segment more e segment.messages refl segment.close refl (λ settles. rest_ends d.core alive rest))

-- where an operation of a life was refused, and the store's lane isn't ready
module _ (d : DeskView) (h : IsPlaceSound d) (alive : stands d.core ≡ true) (blown : is_blown d.core ≡ true) (write : is_ready_at d Write ≡ false) where
  blown_segments : (segments : List Segment) → d.place.segments ≡ segments → SomeReady d
  blown_segments [] e = absurd (subst (λ (s : List Segment). IsLast (close_left s)) e (h.blown alive blown))
  blown_segments (segment ∷ more) e =
      let last : ClosesByCrash segment.close = subst (λ (s : List Segment). IsLast (close_left s)) e (h.blown alive blown) in
      of_segment d (blown_serves d.core alive blown) (blown_down d.core alive write) segment more e segment.messages refl segment.close refl
      (λ settles. absurd (subst ClosesByCrash settles last))

-- the run is over, or some lane is ready
pub over_or_ready : (d : DeskView) → IsPlaceSound d → Rests d.core → IsScriptOver d ⊎ SomeReady d
over_or_ready d h rests = by (stands d.core) refl
  where
    between : stands d.core ≡ false → (lives : List Life) → d.place.lives ≡ lives → IsScriptOver d ⊎ SomeReady d
    between dead [] e = inl (record { lives = e; segments = h.between dead; rest = λ alive. let x = alive in cc })
    between dead (life ∷ more) e = inr (Begin, rw (e, dead) refl)

    idle : stands d.core ≡ true → is_ready_at d Main ≡ false → is_ready_at d Sched ≡ false → is_ready_at d Hand ≡ false → is_ready_at d Write ≡ false → (blown : Bool) → is_blown d.core ≡ blown → IsScriptOver d ⊎ SomeReady d
    idle alive em es eh ew true eb = inr (blown_segments d h alive eb ew d.place.segments refl)
    idle alive em es eh ew false eb = at_segments d h rests alive (idle_rests d.core alive eb rests em es eh ew) d.place.segments refl

    working : stands d.core ≡ true → (main sched hand write : Bool) → is_ready_at d Main ≡ main → is_ready_at d Sched ≡ sched → is_ready_at d Hand ≡ hand → is_ready_at d Write ≡ write
        → IsScriptOver d ⊎ SomeReady d
    working alive true sched hand write em es eh ew = inr (Main, em)
    working alive false true hand write em es eh ew = inr (Sched, es)
    working alive false false true write em es eh ew = inr (Hand, eh)
    working alive false false false true em es eh ew = inr (Write, ew)
    working alive false false false false em es eh ew = idle alive em es eh ew (is_blown d.core) refl

    by : (b : Bool) → stands d.core ≡ b → IsScriptOver d ⊎ SomeReady d
    by true alive = working alive (is_ready_at d Main) (is_ready_at d Sched) (is_ready_at d Hand) (is_ready_at d Write) refl refl refl refl
    by false dead = between dead d.place.lives refl

-- so where it isn't over, some lane is ready
pub ready_unless : (d : DeskView) → IsPlaceSound d → Rests d.core → (IsScriptOver d → ⊥) → SomeReady d
ready_unless d h rests unless = ⊎_elim (λ over. absurd (unless over)) (λ some. some) (over_or_ready d h rests)

-- where no life stands, no lane is ready but that in which a life begins
pub dead_ready : (d : DeskView) → IsPlaceSound d → Rests d.core → stands d.core ≡ false → (lane : Lane) → is_ready_at d lane ≡ true → lane ≡ Begin
dead_ready d h rests dead Client ready = dead_idle d.core dead rests Client (and_parts (ready_at d.core Client) (is_some (first_from senders.Client (messages_left d.place.segments))) ready).0
dead_ready d h rests dead Master ready = dead_idle d.core dead rests Master (and_parts (ready_at d.core Master) (is_some (first_from senders.Master (messages_left d.place.segments))) ready).0
dead_ready d h rests dead Node ready = dead_idle d.core dead rests Node (and_parts (ready_at d.core Node) (is_some (first_from senders.Node (messages_left d.place.segments))) ready).0
dead_ready d h rests dead Clock ready = dead_idle d.core dead rests Clock (and_parts (ready_at d.core Clock) (is_some (first_from senders.Clock (messages_left d.place.segments))) ready).0
dead_ready d h rests dead Main ready = dead_idle d.core dead rests Main ready
dead_ready d h rests dead Sched ready = dead_idle d.core dead rests Sched ready
dead_ready d h rests dead Hand ready = dead_idle d.core dead rests Hand ready
dead_ready d h rests dead Write ready = dead_idle d.core dead rests Write ready
dead_ready d h rests dead End ready = absurd (let x = rw (h.between dead) at ready in cc)
dead_ready d h rests dead Begin ready = refl

-- where none of the lanes of the manager's work is ready in a life of which no operation was refused, nothing is left to do
pub no_work_rests : (d : DeskView) → Rests d.core → stands d.core ≡ true → is_blown d.core ≡ false → HasNoWork d → has_rest d.core
no_work_rests d rests alive unblown none = idle_rests d.core alive unblown rests (none Main tt) (none Sched tt) (none Hand tt) (none Write tt)
