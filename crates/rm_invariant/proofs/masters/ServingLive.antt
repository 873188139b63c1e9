-- The clock and a master are served, of an attempt that is live for the judge: each whole step as `Serving` has it, whose row is found.
use Rattle.rm_invariant.proofs.Common.{◌≡◌, List, [], ◌∷◌, ◌++◌, true, Option, inl, inr, refl, ℕ, Served, AttemptId, ExpireMaster, Finish, Register, Settings, has_registered, is_live, is_registered, reply_to, AttemptState, Dialogue, Tables, with_row, History, abstract_scene, Bool, ContainerId, Reply, Row, after, list_any, live_state}
use Rattle.rm_types.specs.declared.messages.Message.TheVariants as messages
use Rattle.rm_types.specs.declared.messages.Sender.TheVariants as senders
use Rattle.rm_types.specs.declared.replies.Reply.TheVariants as replies
use Rattle.rm_model.specs.MasterReplies.{with_master}
use Rattle.rm_tables.specs.declared.events.MainEvent.TheVariants as mains
use Rattle.rm_invariant.specs.Step.{AppsInvariant}
use Rattle.rm_invariant.specs.apps.Invariant.{is_active}
use Rattle.rm_invariant.specs.apps.View.{view}
use Rattle.rm_invariant.specs.masters.Invariant.{ContainersInvariant}
use Rattle.rm_invariant.specs.masters.Sound.{RecordsAreSound}
use Rattle.rm_invariant.specs.masters.Preserves.{PreservesContainers}
use Rattle.rm_invariant.proofs.masters.Ends.{Alive}
use Rattle.rm_invariant.proofs.masters.Living.{LivesHere, live_here}
use Rattle.rm_invariant.proofs.masters.Saying.{active_of, goes_on}
use Rattle.rm_invariant.proofs.masters.Serving.{expire_joins, finish_joins, register_joins, registered_row, said_row}
use Rattle.rm_invariant.proofs.masters.Finishing.{new_master, says_so}

module _ (settings : Settings) (h : History) (t : Tables) (k : AppsInvariant settings h t) (all : ContainersInvariant h t) (each : RecordsAreSound t.tree.apps) (id : AttemptId) (live : is_live (abstract_scene h t) id ≡ true) where
  here : LivesHere t id
  here = live_here settings h t k each id live

  goes_by : (s : AttemptState) → Alive s → goes_on s ≡ true
  goes_by s (inl e) = rw e refl
  goes_by s (inr (inl e)) = rw e refl
  goes_by s (inr (inr e)) = rw e refl

  active : is_active here.row.state ≡ true
  active =
      let at_row = here.found in
      active_of settings id here.row (view h t id) here.current here.is (goes_by here.current.state here.alive) (rw at_row at (k.all id))

  -- its master's lease ran out
  pub expire_live_joins : replies.Ok ≡ reply_to settings (abstract_scene h t) (messages.Clock (ExpireMaster id))
      → PreservesContainers settings h t (Served senders.Clock (messages.Clock (ExpireMaster id)) replies.Ok) (record h { masters = record h.masters { expired = h.masters.expired ++ id ∷ [] } }) (record t { main = t.main ++ mains.AttemptExpired id ∷ [] })
  expire_live_joins reply = expire_joins settings h t k all id here.row here.found here.current here.is here.alive here.number reply

  -- its master, which registered, says that it finishes
  pub finish_live_joins : (talk : Option Dialogue → Option Dialogue) (text : List ℕ) → replies.Finishing ≡ reply_to settings (abstract_scene h t) (messages.Master id (Finish text)) → is_registered (abstract_scene h t) id ≡ true → has_registered (abstract_scene h t) id ≡ true
      → PreservesContainers settings h t (Served senders.Master (messages.Master id (Finish text)) replies.Finishing) (record h { masters = with_master (says_so text) id h.masters })
      (record t { rows = with_row (said_row talk) id.app t.rows; main = t.main ++ mains.AttemptFinish id ∷ [] })
  finish_live_joins talk text reply registered has = finish_joins settings h t k all id here.row here.found here.current here.is here.alive here.number active talk text reply registered has

  -- its master registers
  pub register_live_joins : (talk : Option Dialogue → Option Dialogue) (told : Reply) (living : List Row) → told ≡ reply_to settings (abstract_scene h t) (messages.Master id Register)
      → after (live_state h t) (Served senders.Master (messages.Master id Register) told)
      ≡ live_state (record h { masters = record h.masters { registered = h.masters.registered ++ new_master id told ∷ [] }; book = living }) (record t { rows = with_row (registered_row talk) id.app t.rows })
      → ((test : ContainerId → Bool) → list_any (λ row. test row.id) living ≡ list_any (λ row. test row.id) h.book)
      → PreservesContainers settings h t (Served senders.Master (messages.Master id Register) told) (record h { masters = record h.masters { registered = h.masters.registered ++ new_master id told ∷ [] }; book = living })
      (record t { rows = with_row (registered_row talk) id.app t.rows })
  register_live_joins talk told living reply stands same_ids = register_joins settings h t k all id here.row here.found here.current here.is here.alive here.number active talk told living reply stands same_ids
