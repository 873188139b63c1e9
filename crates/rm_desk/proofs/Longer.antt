-- A run with one more entry.
use Rattle.std.proofs.Common.{◌≡◌, List, [], ◌∷◌, ◌++◌, refl, sym, ◌∙◌, ap, subst}
use Rattle.std.proofs.lemmas.List.Sums.{fold_push}
use Rattle.rm_types.specs.declared.entries.Entry.{Entry}
use Rattle.rm_types.specs.declared.entries.Entry.TheVariants.{Opened, Issued, Handed, Kept, Blown, Served, Accepted, Queued, Absorbed, Pass, Ordered, Ended, Settled, Down, Quiet}
use Rattle.rm_types.specs.declared.messages.Lane.{Lane}
use Rattle.rm_types.specs.declared.messages.Lane.TheVariants.{Main, Sched, Hand}
use Rattle.rm_types.specs.declared.messages.Sender.TheVariants.{Client, Master, Node, Clock}
use Rattle.rm_types.specs.declared.operations.Op.{Op}
use Rattle.rm_types.specs.declared.scripts.Script.{Script}
use Rattle.rm_types.specs.Lanes.{lane_of_entry}
use Rattle.rm_model.specs.State.{Manager, opening_state}
use Rattle.rm_model.specs.Changes.{after, after_all}
use Rattle.rm_model.specs.Lawful.{Follows, state_after}
use Rattle.rm_model.specs.Place.{IsNext, Place, beginning, moved}
use Rattle.rm_core.specs.Seen.{StandsFor}
use Rattle.rm_desk.specs.View.{DeskView}
use Rattle.rm_desk.specs.Runs.{GoesTo, IsScriptRun}
use Rattle.std.specs.List.{fold}

-- an entry that is next may be added
Follows-push : (s : Manager) (p : Place) (log : List Entry) (e : Entry) → Follows s p log → IsNext (after_all s log) (fold moved p log) e → Follows s p (log ++ e ∷ [])
Follows-push s p [] e h n = (n, tt)
Follows-push s p (x ∷ log) e h n = (h.0, Follows-push (after s x) (moved p x) log e h.1 n)

goes_push : (opening : List Op) (script : Script) (log : List Entry) (place : Place) (e : Entry) → IsNext (state_after opening log) place e → GoesTo opening script log place
    → GoesTo opening script (log ++ e ∷ []) (moved place e)
goes_push opening script log place e n g =
    record {
      along = Follows-push (opening_state opening) (beginning script) log e g.along (rw g.at n);
      at = fold_push moved (beginning script) log e ∙ ap (λ (p : Place). moved p e) g.at;
    }

-- the run with one more entry
pub one_more : (opening : List Op) (script : Script) (d next : DeskView) (e : Entry) → IsScriptRun opening script d → StandsFor opening next.core → next.core.log ≡ d.core.log ++ e ∷ []
    → next.place ≡ moved d.place e → IsNext (state_after opening d.core.log) d.place e → IsScriptRun opening script next
one_more opening script d next e run stands added place is_next =
    record {
      stands = stands;
      along = subst (λ (l : List Entry). GoesTo opening script l next.place) (sym added)
          (subst (λ (p : Place). GoesTo opening script (d.core.log ++ e ∷ []) p) (sym place) (goes_push opening script d.core.log d.place e is_next run.along));
    }

-- the script says nothing of the entry
pub record IsSilent (e : Entry) : Type 0 where
  pub next : (s : Manager) (p : Place) → IsNext s p e
  pub stays : (p : Place) → moved p e ≡ p

-- the lanes in which the manager alone moves
abbrev pub IsOwn : Lane → Type 0
IsOwn Main = Unit {0}
IsOwn Sched = Unit {0}
IsOwn Hand = Unit {0}
IsOwn _ = ⊥

pub own_silent : (e : Entry) → IsOwn (lane_of_entry e) → IsSilent e
own_silent (Issued op) h = record { next = λ s p. tt; stays = λ p. refl }
own_silent Handed h = record { next = λ s p. tt; stays = λ p. refl }
own_silent (Accepted app) h = record { next = λ s p. tt; stays = λ p. refl }
own_silent (Queued attempt) h = record { next = λ s p. tt; stays = λ p. refl }
own_silent (Absorbed node taken ended) h = record { next = λ s p. tt; stays = λ p. refl }
own_silent (Pass node grants) h = record { next = λ s p. tt; stays = λ p. refl }
own_silent (Ordered container node) h = record { next = λ s p. tt; stays = λ p. refl }
own_silent (Ended cause list) h = record { next = λ s p. tt; stays = λ p. refl }
own_silent (Quiet lane) h = record { next = λ s p. tt; stays = λ p. refl }
own_silent (Opened landed epoch stamp) h = absurd h
own_silent (Kept op) h = absurd h
own_silent (Blown passed) h = absurd h
own_silent (Served Client message reply) h = absurd h
own_silent (Served Master message reply) h = absurd h
own_silent (Served Node message reply) h = absurd h
own_silent (Served Clock message reply) h = absurd h
own_silent Settled h = absurd h
own_silent Down h = absurd h

-- the script has nothing against an entry at this place, and stays there
pub record IsQuietAt (p : Place) (e : Entry) : Type 0 where
  pub next : (s : Manager) → IsNext s p e
  pub stays : moved p e ≡ p

pub quiet_at : (p : Place) (e : Entry) → IsSilent e → IsQuietAt p e
quiet_at p e silent = record { next = λ s. silent.next s p; stays = silent.stays p }

pub kept_silent : (op : Op) → IsSilent (Kept op)
kept_silent op = record { next = λ s p. tt; stays = λ p. refl }
