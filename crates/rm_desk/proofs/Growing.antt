-- A log that goes along a script goes along a longer one.
use Rattle.std.proofs.Common.{◌≡◌, ℕ, List, [], ◌∷◌, ◌++◌, Some, refl, sym, ◌∙◌, ap, subst}
use Rattle.std.specs.List.{fold}
use Rattle.rm_types.specs.declared.entries.Entry.{Entry}
use Rattle.rm_types.specs.declared.entries.Entry.TheVariants.{Opened, Issued, Handed, Kept, Blown, Served, Accepted, Queued, Absorbed, Pass, Ordered, Ended, Settled, Down, Quiet}
use Rattle.rm_types.specs.declared.messages.Message.{Message}
use Rattle.rm_types.specs.declared.messages.Sender.{Sender}
use Rattle.rm_types.specs.declared.operations.Op.{Op}
use Rattle.rm_types.specs.declared.replies.Reply.{Reply}
use Rattle.rm_types.specs.declared.scripts.Life.{Life}
use Rattle.rm_types.specs.declared.scripts.Segment.{Segment}
use Rattle.rm_types.specs.declared.scripts.Script.{Script}
use Rattle.rm_model.specs.State.{Manager, opening_state}
use Rattle.rm_model.specs.Changes.{after}
use Rattle.rm_model.specs.Lawful.{Follows, place_after}
use Rattle.rm_model.specs.Place.{BeginsAsScripted, Blows, ByLife, BySegment, Crashes, Growth, IsNext, MayGrow, Place, Settles, beginning, first_from, lives_grown, messages_left, moved, place_grown, script_grown}
use Rattle.rm_desk.specs.Effects.{Grows}
use Rattle.rm_desk.specs.Runs.{IsScriptRun}
use Rattle.rm_desk.specs.View.{DeskView}

-- an entry that is next is so in the longer script too, and leads to the same place there
pub record IsNextGrown (growth : Growth) (s : Manager) (p : Place) (e : Entry) : Type 0 where
  pub next : IsNext s (place_grown growth p) e
  pub moves : moved (place_grown growth p) e ≡ place_grown growth (moved p e)

-- a life begins
begins_grown : (growth : Growth) (s : Manager) (lives : List Life) (segments : List Segment) (landed epoch stamp : ℕ)
    → BeginsAsScripted s (record { lives = lives; segments = segments }) landed stamp
    → IsNextGrown growth s (record { lives = lives; segments = segments }) (Opened landed epoch stamp)
begins_grown growth s [] segments landed epoch stamp b = absurd (let none = b.next in cc)
begins_grown (ByLife life) s (first ∷ more) segments landed epoch stamp b =
    let same : b.life ≡ first = (let next = b.next in cc) in
    record { next = record { life = first; more = more ++ life ∷ []; next = refl; at_end = b.at_end; stamped = rw (← same) b.stamped }; moves = refl }
begins_grown (BySegment segment) s (first ∷ []) segments landed epoch stamp b =
    let same : b.life ≡ first = (let next = b.next in cc) in
    let none : segments ≡ [] = b.at_end in
    record { next = record { life = record first { segments = first.segments ++ segment ∷ [] }; more = []; next = refl; at_end = b.at_end; stamped = rw (← same) b.stamped }; moves = refl }
begins_grown (BySegment segment) s (first ∷ second ∷ more) segments landed epoch stamp b =
    let same : b.life ≡ first = (let next = b.next in cc) in
    record { next = record { life = first; more = lives_grown segment (second ∷ more); next = refl; at_end = b.at_end; stamped = rw (← same) b.stamped }; moves = refl }

-- a message is answered
answers_grown : (growth : Growth) (s : Manager) (lives : List Life) (segments : List Segment) (sender : Sender) (message : Message) (reply : Reply)
    → first_from sender (messages_left segments) ≡ Some message
    → IsNextGrown growth s (record { lives = lives; segments = segments }) (Served sender message reply)
answers_grown growth s lives [] sender message reply first = absurd (let none = first in cc)
answers_grown (ByLife life) s lives (segment ∷ more) sender message reply first = record { next = first; moves = refl }
answers_grown (BySegment one) s [] (segment ∷ more) sender message reply first = record { next = first; moves = refl }
answers_grown (BySegment one) s (life ∷ lives) (segment ∷ more) sender message reply first = record { next = first; moves = refl }

-- an operation is refused
blows_grown : (growth : Growth) (s : Manager) (lives : List Life) (segments : List Segment) (passed : ℕ)
    → Blows (record { lives = lives; segments = segments }) passed
    → IsNextGrown growth s (record { lives = lives; segments = segments }) (Blown passed)
blows_grown growth s lives [] passed b = absurd (let none = b.closes in cc)
blows_grown (ByLife life) s lives (segment ∷ more) passed b = record { next = record { image = b.image; closes = b.closes }; moves = refl }
blows_grown (BySegment one) s [] (segment ∷ more) passed b = record { next = record { image = b.image; closes = b.closes }; moves = refl }
blows_grown (BySegment one) s (life ∷ lives) (segment ∷ more) passed b = record { next = record { image = b.image; closes = b.closes }; moves = refl }

-- a segment settles
settles_grown : (growth : Growth) (s : Manager) (lives : List Life) (segments : List Segment) → Settles (record { lives = lives; segments = segments })
    → IsNextGrown growth s (record { lives = lives; segments = segments }) Settled
settles_grown growth s lives [] b = absurd (let none = b.closes in cc)
settles_grown (ByLife life) s lives (segment ∷ more) b = record { next = record { none_left = b.none_left; closes = b.closes }; moves = refl }
settles_grown (BySegment one) s [] (segment ∷ more) b = record { next = record { none_left = b.none_left; closes = b.closes }; moves = refl }
settles_grown (BySegment one) s (life ∷ lives) (segment ∷ more) b = record { next = record { none_left = b.none_left; closes = b.closes }; moves = refl }

-- a life goes down
crashes_grown : (growth : Growth) (s : Manager) (lives : List Life) (segments : List Segment) → Crashes (record { lives = lives; segments = segments })
    → IsNextGrown growth s (record { lives = lives; segments = segments }) Down
crashes_grown growth s lives [] b = absurd (let none = b.closes in cc)
crashes_grown (ByLife life) s lives (segment ∷ more) b = record { next = record { none_left = b.none_left; calls = b.calls; image = b.image; closes = b.closes }; moves = refl }
crashes_grown (BySegment one) s [] (segment ∷ more) b = record { next = record { none_left = b.none_left; calls = b.calls; image = b.image; closes = b.closes }; moves = refl }
crashes_grown (BySegment one) s (life ∷ lives) (segment ∷ more) b = record { next = record { none_left = b.none_left; calls = b.calls; image = b.image; closes = b.closes }; moves = refl }

-- what is next is so in the longer script
pub next_grown : (growth : Growth) (s : Manager) (p : Place) (e : Entry) → IsNext s p e → IsNextGrown growth s p e
next_grown growth s p (Opened landed epoch stamp) h = begins_grown growth s p.lives p.segments landed epoch stamp h
next_grown growth s p (Issued op) h = record { next = tt; moves = refl }
next_grown growth s p Handed h = record { next = tt; moves = refl }
next_grown growth s p (Kept op) h = record { next = tt; moves = refl }
next_grown growth s p (Blown passed) h = blows_grown growth s p.lives p.segments passed h
next_grown growth s p (Served sender message reply) h = answers_grown growth s p.lives p.segments sender message reply h
next_grown growth s p (Accepted app) h = record { next = tt; moves = refl }
next_grown growth s p (Queued attempt) h = record { next = tt; moves = refl }
next_grown growth s p (Absorbed node taken ended) h = record { next = tt; moves = refl }
next_grown growth s p (Pass node grants) h = record { next = tt; moves = refl }
next_grown growth s p (Ordered container node) h = record { next = tt; moves = refl }
next_grown growth s p (Ended cause list) h = record { next = tt; moves = refl }
next_grown growth s p Settled h = settles_grown growth s p.lives p.segments h
next_grown growth s p Down h = crashes_grown growth s p.lives p.segments h
next_grown growth s p (Quiet lane) h = record { next = tt; moves = refl }

-- and so is a whole log
pub follows_grown : (growth : Growth) (s : Manager) (p : Place) (log : List Entry) → Follows s p log → Follows s (place_grown growth p) log
follows_grown growth s p [] h = tt
follows_grown growth s p (e ∷ log) h =
    let one = next_grown growth s p e h.0 in
    (one.next, subst (λ (q : Place). Follows (after s e) q log) (sym one.moves) (follows_grown growth (after s e) (moved p e) log h.1))

pub place_after_grown : (growth : Growth) (s : Manager) (p : Place) (log : List Entry) → Follows s p log
    → fold moved (place_grown growth p) log ≡ place_grown growth (fold moved p log)
place_after_grown growth s p [] h = refl
place_after_grown growth s p (e ∷ log) h =
    let one = next_grown growth s p e h.0 in
    ap (λ (q : Place). fold moved q log) one.moves ∙ place_after_grown growth (after s e) (moved p e) log h.1

-- the beginning of the longer script
pub beginning_grown : (growth : Growth) (script : Script) → MayGrow growth script → beginning (script_grown growth script) ≡ place_grown growth (beginning script)
beginning_grown (ByLife life) script may = refl
beginning_grown (BySegment segment) script may = by script.lives refl
  where
    by : (lives : List Life) → script.lives ≡ lives → beginning (script_grown (BySegment segment) script) ≡ place_grown (BySegment segment) (beginning script)
    by [] e = absurd (may e)
    by (life ∷ more) e = rw e refl

-- a run along the script is one along the longer script
pub grown_run : (growth : Growth) (opening : List Op) (script : Script) (d next : DeskView) → MayGrow growth script → next.core ≡ d.core
    → next.place ≡ place_grown growth d.place → IsScriptRun opening script d
    → IsScriptRun opening (script_grown growth script) next
grown_run growth opening script d next may core place run =
    let s = opening_state opening in
    let from = beginning_grown growth script may in
    let log = d.core.log in
    let along : Follows s (beginning (script_grown growth script)) log = subst (λ (p : Place). Follows s p log) (sym from) (follows_grown growth s (beginning script) log run.along.along) in
    let at : place_after (script_grown growth script) log ≡ next.place =
    ap (λ (p : Place). fold moved p log) from ∙ place_after_grown growth s (beginning script) log run.along.along ∙ ap (place_grown growth) run.along.at ∙ sym place in
    record {
      stands = rw core run.stands;
      along = rw core (record { along = along; at = at });
    }

pub script_grows : (growth : Growth) (d next : DeskView) → next.core ≡ d.core → next.place ≡ place_grown growth d.place → Grows growth d next
script_grows growth d next core place = record { core = core; place = place; run = λ opening script may run. grown_run growth opening script d next may core place run }
