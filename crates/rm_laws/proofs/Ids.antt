-- Ids that are given differ.
use Rattle.rm_laws.proofs.Common.{◌≡◌, ◌≢◌, ℕ, ◌+◌, ◌<◌, List, [], ◌∷◌, ◌++◌, Bool, true, false, if◌then◌else◌, Option, None, Some, refl, sym, subst, arith, inl, inr, flat_map, slice_get, Entry, Opened, Issued, Kept, Served, Down, AppId, Message, Op, Epoch, App, Attempt, AttemptEnd, AppEnd, Remove, Reply, Settings, records, LifeState, Manager, scene, opening_state, AllAllowed, Allowed, AllowedIn, MayOpen, MayIssue, after, life_issues}
use Rattle.rm_types.specs.declared.messages.ClientAsk.TheVariants.{New as AskNew, Submit as AskSubmit, Report as AskReport, Kill as AskKill}
use Rattle.rm_types.specs.declared.messages.Message.TheVariants.{Client as FromClient, Master as FromMaster, Node as FromNode, Clock as FromClock}
use Rattle.rm_types.specs.declared.messages.Sender.{Sender}
use Rattle.rm_types.specs.declared.replies.Reply.TheVariants as replies
use Rattle.rm_model.specs.State.{new_life}
use Rattle.rm_model.specs.Rules.{MayServe}
use Rattle.rm_model.specs.Changes.{kept_after_landing}
use Rattle.rm_laws.specs.Laws.{given_by, IdsDiffer}
use Rattle.rm_laws.proofs.Lists.{each_all, pairs_all}
use Rattle.rm_laws.proofs.Walks.{Step, beyond, differs, in_order}
use Rattle.rm_laws.proofs.Stamps.{IsBetween, Phase, Sound, stored}
use Rattle.rm_laws.proofs.Giving as giving
use Rattle.rm_laws.proofs.Giving.{begins_earlier}
use Rattle.rm_laws.proofs.Served.{IsOther, SameIds, plain, same, same_other}
use Rattle.rm_laws.proofs.Phases.{state, phase_same, epoch_issued, other_issued, op_kept, goes_down, opens, life_kept, life_keeps_all, sound_opening, stays as kept_stays}

-- an id's number is its stamp; a life uses its ids up to those that it gave, and free is what is above the recorded stamp
abbrev pub Unused : LifeState → AppId → Type 0
Unused life id = life.given < id.number

abbrev pub Free : List Op → AppId → Type 0
Free kept id = stored kept < id.stamp

abbrev pub Above : List Op → LifeState → Bool → AppId → Type 0
Above kept life b id = giving.Above (λ (x : AppId). x.stamp) (λ l. l.stamp) Unused Free kept life b id

abbrev pub Beyond : Manager → AppId → Type 0
Beyond s id = giving.Beyond (λ (x : AppId). x.stamp) (λ l. l.stamp) Unused Free s id

is_own : giving.IsOwn (λ (x : AppId). x.stamp) (λ l. l.stamp) Unused Free
is_own =
    record {
      earlier = record {
        stays = λ kept op other id h. let e = (kept_stays kept op other).0 in omega (arith, e, h);
        lands = λ kept awaiting b id h. let e = b.stamp in omega (arith, e, h);
      };
      closed = λ kept awaiting life c id h. let r = c.rises in omega (arith, r, h);
      opened = λ kept awaiting life o id h. let e = o.stamped in omega (arith, e, h);
      keeps = λ life op. (life_keeps_all life op).1;
      uses = λ life op id h. let e = (life_keeps_all life op).2 in omega (arith, e, h);
      opens = λ life op other. (life_kept life op other).ids.same.is_open;
    }

-- a step that gives no id
abbrev pub StepOf : Manager → Entry → Type 0
StepOf s e = Step given_by Beyond ◌≢◌ Sound s e

lift : (kept : List Op) (old new : LifeState) → SameIds old new → (id : AppId) → Above kept new new.is_open id → Above kept old old.is_open id
lift kept old new e id h =
    giving.lift (λ (x : AppId). x.stamp) (λ l. l.stamp) Unused Free kept kept old new id (λ x. x) e.same.stamp (λ x. let g = e.given in omega (arith, g, x)) e.same.is_open h

module _ (kept awaiting : List Op) (blew : Bool) (life : LifeState) (p : Phase kept awaiting (Some life)) where
  -- an entry that gives no id, where nothing is kept by it
  quiet : (more : List Op) (new : LifeState) → SameIds life new → Phase kept more (Some life) → (e : Entry) → given_by e ≡ []
      → after (state kept awaiting blew (Some life)) e ≡ state kept more blew (Some new)
      → StepOf (state kept awaiting blew (Some life)) e
  quiet more new is next e none at =
      record {
        sound = subst Sound (sym at) (phase_same kept more life new is.same next);
        lifts = λ id h. lift kept life new is id (subst (λ (s : Manager). Beyond s id) at h);
        gives = rw none tt;
        apart = rw none tt;
        past = rw none tt;
      }

  stays : (e : Entry) → given_by e ≡ [] → (new : LifeState) → SameIds life new → after (state kept awaiting blew (Some life)) e ≡ state kept awaiting blew (Some new)
      → StepOf (state kept awaiting blew (Some life)) e
  stays e none new is at = quiet awaiting new is p e none at

  -- a new id is given in an o life
  gives_new : (user : List ℕ) (sender : Sender) → life.is_open ≡ true
      → StepOf (state kept awaiting blew (Some life)) (Served sender (FromClient user AskNew) (replies.New (record { stamp = life.stamp; number = life.given + 1 })))
  gives_new user sender o =
      record {
        sound = phase_same kept awaiting life (record life { given = life.given + 1 }) (record { epoch = refl; stamp = refl; is_open = refl }) p;
        lifts = λ id h. lifts_new id h;
        gives = (rw o (inr (refl, omega arith)), tt);
        apart = (tt, tt);
        past = (differs (Above kept (record life { given = life.given + 1 }) life.is_open) _ past_new, tt);
      }
    where
      lifts_new : (id : AppId) → Above kept (record life { given = life.given + 1 }) life.is_open id → Above kept life life.is_open id
      lifts_new id h = subst (λ (b : Bool). Above kept life b id) (sym o) (go (subst (λ (b : Bool). Above kept (record life { given = life.given + 1 }) b id) o h))
        where
          go : Above kept (record life { given = life.given + 1 }) true id → Above kept life true id
          go (inl x) = inl x
          go (inr x) = inr (x.0, let y = x.1 in omega (arith, y))

      past_new : Above kept (record life { given = life.given + 1 }) life.is_open (record { stamp = life.stamp; number = life.given + 1 }) → ⊥
      past_new h = go (subst (λ (b : Bool). Above kept (record life { given = life.given + 1 }) b (record { stamp = life.stamp; number = life.given + 1 })) o h)
        where
          go : Above kept (record life { given = life.given + 1 }) true (record { stamp = life.stamp; number = life.given + 1 }) → ⊥
          go (inl x) = omega (arith, x)
          go (inr x) = let y = x.1 in omega (arith, y)

  -- a message is answered
  module _ (settings : Settings) (sender : Sender) where
    answers_new : (user : List ℕ) (reply : Reply) (b : Bool) → life.is_open ≡ b
        → reply ≡ (if b then replies.New (record { stamp = life.stamp; number = life.given + 1 }) else replies.NotOpen)
        → StepOf (state kept awaiting blew (Some life)) (Served sender (FromClient user AskNew) reply)
    answers_new user reply true o is = subst (λ (r : Reply). StepOf (state kept awaiting blew (Some life)) (Served sender (FromClient user AskNew) r)) (sym is) (gives_new user sender o)
    answers_new user reply false closed is =
        subst (λ (r : Reply). StepOf (state kept awaiting blew (Some life)) (Served sender (FromClient user AskNew) r)) (sym is)
        (stays (Served sender (FromClient user AskNew) replies.NotOpen) refl life (same life).ids refl)

    others : (message : Message) (reply : Reply) → IsOther message reply → given_by (Served sender message reply) ≡ [] → StepOf (state kept awaiting blew (Some life)) (Served sender message reply)
    others message reply other none = stays (Served sender message reply) none _ (same_other (scene (state kept awaiting blew (Some life)) life) message reply other).ids refl

    serves : (message : Message) (reply : Reply) → MayServe settings (scene (state kept awaiting blew (Some life)) life) sender message reply
        → StepOf (state kept awaiting blew (Some life)) (Served sender message reply)
    serves (FromClient user AskNew) reply may = answers_new user reply life.is_open refl may.answers
    serves (FromClient user (AskSubmit id submission)) reply may = others (FromClient user (AskSubmit id submission)) reply (λ u h. cc) refl
    serves (FromClient user (AskReport id)) reply may = others (FromClient user (AskReport id)) reply (λ u h. cc) refl
    serves (FromClient user (AskKill id)) reply may = others (FromClient user (AskKill id)) reply (λ u h. cc) refl
    serves (FromMaster attempt ask) reply may = others (FromMaster attempt ask) reply (λ u h. cc) refl
    serves (FromNode name ask) reply may = others (FromNode name ask) reply (λ u h. cc) refl
    serves (FromClock ask) reply may = others (FromClock ask) reply (λ u h. cc) refl

  -- an operation is issued, or kept
  issues : (settings : Settings) (op : Op) → MayIssue settings (scene (state kept awaiting blew (Some life)) life) op → StepOf (state kept awaiting blew (Some life)) (Issued op)
  issues settings (Epoch next stamp) may =
      quiet (awaiting ++ Epoch next stamp ∷ []) life (same life).ids (epoch_issued kept awaiting blew life next stamp p may.closed may.once may.follows may.of_life) (Issued (Epoch next stamp)) refl refl
  issues settings (App id submission) may =
      quiet (awaiting ++ App id submission ∷ []) life (same life).ids (other_issued kept awaiting blew life (App id submission) p may.opened refl) (Issued (App id submission)) refl refl
  issues settings (Attempt id master node) may =
      quiet (awaiting ++ Attempt id master node ∷ []) life (same life).ids (other_issued kept awaiting blew life (Attempt id master node) p may.opened refl) (Issued (Attempt id master node)) refl refl
  issues settings (AttemptEnd id how text) may =
      quiet (awaiting ++ AttemptEnd id how text ∷ []) life (same life).ids (other_issued kept awaiting blew life (AttemptEnd id how text) p may.opened refl) (Issued (AttemptEnd id how text)) refl refl
  issues settings (AppEnd id how text) may =
      quiet (awaiting ++ AppEnd id how text ∷ []) (life_issues (scene (state kept awaiting blew (Some life)) life) (AppEnd id how text)) (plain refl refl refl refl refl).ids
      (other_issued kept awaiting blew life (AppEnd id how text) p may.opened refl) (Issued (AppEnd id how text)) refl refl
  issues settings (Remove id) may =
      quiet (awaiting ++ Remove id ∷ []) life (same life).ids (other_issued kept awaiting blew life (Remove id) p may.opened refl) (Issued (Remove id)) refl refl

  keeps : (op : Op) → slice_get awaiting 0 ≡ Some op → StepOf (state kept awaiting blew (Some life)) (Kept op)
  keeps op first =
      record {
        sound = op_kept kept awaiting blew life op p first;
        lifts = giving.keeps (λ (x : AppId). x.stamp) (λ l. l.stamp) Unused Free is_own kept awaiting life op first p;
        gives = tt;
        apart = tt;
        past = tt;
      }

  in_life : (settings : Settings) (e : Entry) → AllowedIn settings (scene (state kept awaiting blew (Some life)) life) e → StepOf (state kept awaiting blew (Some life)) e
  in_life settings (Opened landed epoch stamp) may = absurd may
  in_life settings (Issued op) may = issues settings op may
  in_life settings (Kept op) may = keeps op may.first
  in_life settings (Served sender message reply) may = serves settings sender message reply may
  in_life settings Down may = record { sound = goes_down kept awaiting blew life p; lifts = giving.goes_down (λ (x : AppId). x.stamp) (λ l. l.stamp) Unused Free is_own kept awaiting life p; gives = tt; apart = tt; past = tt }
  in_life settings e may = stays e refl _ (record { same = record { epoch = refl; stamp = refl; is_open = refl }; given = refl }) refl

-- a life begins
begins : (kept awaiting : List Op) (blew : Bool) → IsBetween kept awaiting → (landed epoch stamp : ℕ) → MayOpen (state kept awaiting blew None) landed epoch stamp
    → StepOf (state kept awaiting blew None) (Opened landed epoch stamp)
begins kept awaiting blew b landed epoch stamp may =
    record {
      sound = opens (state kept awaiting blew None) landed epoch stamp may (new_life epoch stamp (records (kept_after_landing (state kept awaiting blew None) landed))) refl refl refl;
      lifts = begins_earlier Free is_own.earlier kept awaiting blew b landed may.landing;
      gives = tt;
      apart = tt;
      past = tt;
    }

-- each entry that is allowed
pub steps : (settings : Settings) (kept awaiting : List Op) (blew : Bool) (life : Option LifeState) (e : Entry) → Phase kept awaiting life
    → Allowed settings (state kept awaiting blew life) e → StepOf (state kept awaiting blew life) e
steps settings kept awaiting blew None (Opened landed epoch stamp) p may = begins kept awaiting blew p landed epoch stamp may
steps settings kept awaiting blew None _ p may = absurd may
steps settings kept awaiting blew (Some life) e p may = in_life kept awaiting blew life p settings e may

-- the law
pub ids_differ : (settings : Settings) (opening : List Op) (log : List Entry) → AllAllowed settings (opening_state opening) log → IdsDiffer opening log
ids_differ settings opening log allowed =
    let each = beyond given_by Beyond ◌≢◌ Sound settings (λ s e p may. steps settings s.kept s.awaiting s.blew s.life e p may) (opening_state opening) log (sound_opening opening) allowed in
    let apart = in_order given_by Beyond ◌≢◌ Sound settings (λ s e p may. steps settings s.kept s.awaiting s.blew s.life e p may) (opening_state opening) log (sound_opening opening) allowed in
    record {
      differ = pairs_all ◌≢◌ (flat_map given_by log) apart;
      stamps = each_all (Beyond (opening_state opening)) (flat_map given_by log) each;
    }
