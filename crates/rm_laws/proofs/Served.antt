-- What serving leaves of a life as it was: its epoch, its stamp, that it is open, and the grants; and the number of ids given,
-- but where a new one is given.
use Rattle.rm_laws.proofs.Common.{◌≡◌, ℕ, List, refl, AppId, Message, Reply, LifeState, Scene, judged_node, tidied, with_judged_node, allocates, beats, expired, nodes_registered, life_after}
use Rattle.rm_types.specs.declared.messages.ClientAsk.TheVariants.{New as AskNew}
use Rattle.rm_types.specs.declared.messages.Message.TheVariants.{Client as FromClient}
use Rattle.rm_types.specs.declared.replies.Reply.TheVariants as replies
use Rattle.rm_model.specs.MasterReplies.{takes_over}
use Rattle.rm_laws.proofs.Messages.{Any, Changes, served}

-- this is left
pub record Same (old new : LifeState) : Type 0 where
  pub epoch : new.epoch ≡ old.epoch
  pub stamp : new.stamp ≡ old.stamp
  pub is_open : new.is_open ≡ old.is_open

-- and the number of ids given
pub record SameIds (old new : LifeState) : Type 0 where
  pub same : Same old new
  pub given : new.given ≡ old.given

-- and the grants
pub record SameAll (old new : LifeState) : Type 0 where
  pub ids : SameIds old new
  pub granted : new.granted ≡ old.granted

-- a life with other parts changed
pub plain : {old new : LifeState} → new.epoch ≡ old.epoch → new.stamp ≡ old.stamp → new.is_open ≡ old.is_open → new.given ≡ old.given → new.granted ≡ old.granted → SameAll old new
plain a b c d e = record { ids = record { same = record { epoch = a; stamp = b; is_open = c }; given = d }; granted = e }

pub same : (life : LifeState) → SameAll life life
same life = plain refl refl refl refl refl

-- all but the number of ids given
pub record SameGrants (old new : LifeState) : Type 0 where
  pub same : Same old new
  pub granted : new.granted ≡ old.granted

pub all_same : {old new : LifeState} → SameAll old new → SameGrants old new
all_same e = record { same = e.ids.same; granted = e.granted }

-- the message asks for no new id
abbrev pub IsOther : Message → Reply → Type 0
IsOther message reply = (user : List ℕ) → message ≡ FromClient user AskNew → ⊥

module _ (m : Scene) where
  others : (P : LifeState → Type 0) → ((new : LifeState) → SameAll m.life new → P new) → (Q : Message → Reply → Type 0)
      → ((user : List ℕ) (id : AppId) → Q (FromClient user AskNew) (replies.New id) → P (record m.life { given = id.number })) → Changes m P Q
  others P of Q gives =
      record {
        nothing = of m.life (same m.life);
        gives = gives;
        joins = λ user id submission q new. of _ (plain refl refl refl refl refl);
        wishes = λ id. of _ (plain refl refl refl refl refl);
        registered = λ attempt q. of _ (plain refl refl refl refl refl);
        takes_over = λ attempt kept q. of (takes_over m attempt kept) (plain refl refl refl refl refl);
        allocated = λ attempt id asks release next grants ended q. of (allocates m attempt asks release (replies.Allocated next grants ended)) (plain refl refl refl refl refl);
        finishes = λ attempt text. of _ (plain refl refl refl refl refl);
        node_registered = λ name registration reply. of (tidied (record m.life { nodes = nodes_registered m name registration reply (judged_node m.life.nodes name) })) (plain refl refl refl refl refl);
        beaten = λ name running done launch reply. of (beats m name running done launch reply) (plain refl refl refl refl refl);
        ticks = λ time. of _ (plain refl refl refl refl refl);
        node_expires = λ name. of (tidied (record m.life { nodes = with_judged_node expired name m.life.nodes })) (plain refl refl refl refl refl);
        master_expires = λ attempt. of _ (plain refl refl refl refl refl);
      }

  pub same_served : (message : Message) (reply : Reply) → SameGrants m.life (life_after m message reply)
  same_served message reply =
      served m (SameGrants m.life) Any (others (SameGrants m.life) (λ new e. all_same e) Any (λ user id any. record { same = record { epoch = refl; stamp = refl; is_open = refl }; granted = refl })) message reply tt

  -- where no new id is given
  pub same_other : (message : Message) (reply : Reply) → IsOther message reply → SameAll m.life (life_after m message reply)
  same_other message reply other =
      served m (SameAll m.life) IsOther (others (SameAll m.life) (λ new e. e) IsOther (λ user id q. absurd (q user refl))) message reply other
