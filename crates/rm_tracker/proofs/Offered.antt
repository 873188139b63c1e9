-- Only nodes that registered offer something, after each message too.
use Rattle.std.proofs.Common.{◌≡◌, ℕ, ◌+◌, List, [], ◌∷◌, ◌++◌, Bool, true, false, Option, None, Some, refl, sym, ◌∙◌, ap, subst}
use Rattle.std.specs.Prelude.{if◌then◌else◌, option_map, nat_lt}
use Rattle.std.specs.Str.{bytes_eq}
use Rattle.rm_types.specs.declared.containers.BookRow.{BookRow}
use Rattle.rm_types.specs.declared.containers.ContainerState.{ContainerState}
use Rattle.rm_types.specs.declared.containers.ContainerState.TheVariants.{Acquired, Running}
use Rattle.rm_types.specs.declared.containers.Held.{Held}
use Rattle.rm_types.specs.declared.ids.ContainerId.{ContainerId}
use Rattle.rm_types.specs.declared.messages.ClockAsk.{ClockAsk}
use Rattle.rm_types.specs.declared.messages.ClockAsk.TheVariants.{Tick, ExpireNode, ExpireMaster}
use Rattle.rm_types.specs.declared.messages.NodeAsk.{NodeAsk}
use Rattle.rm_types.specs.declared.messages.NodeAsk.TheVariants.{Register as AskRegister, Beat as AskBeat}
use Rattle.rm_types.specs.declared.replies.Reply.{Reply}
use Rattle.rm_types.specs.declared.replies.Reply.TheVariants.{Beat as TellBeat, Ok}
use Rattle.rm_types.specs.declared.resources.Resource.{Resource}
use Rattle.rm_types.specs.Records.{is_some_and}
use Rattle.rm_types.proofs.TestLemmas.{same_text}
use Rattle.rm_book.specs.Books.{BookOf, capability_in, book_row, with_state}
use Rattle.rm_book.specs.declared.plain.NodeCapability.{NodeCapability}
use Rattle.rm_model.specs.NodeReplies.{reported}
use Rattle.rm_tables.specs.declared.nodes.NodeChange.TheVariants as of_node
use Rattle.rm_tables.specs.declared.nodes.NodeRow.{NodeRow}
use Rattle.rm_tables.specs.declared.tables.Tables.{Tables}
use Rattle.rm_tables.specs.Nodes.{beaten_row, changed_row, new_node_row, node_row as node_in, registered_node_row, with_node}
use Rattle.rm_tracker.specs.Answers.{after_clock, after_node, beaten_book, beaten_with, brought_all, brought_one, is_next_beat, is_row_on, is_untold_row, launched_by, registered_by, registered_later}
use Rattle.rm_tracker.specs.Offers.{OnlyNodesOffer}
use Rattle.rm_refinement.proofs.Found.{other_row, own_row}

-- a node without a row had none before a row was added, or changed
none_added : (one : List ℕ × NodeRow) (rows : List (List ℕ × NodeRow)) (q : List ℕ) → node_in (rows ++ one ∷ []) q ≡ None → node_in rows q ≡ None
none_added one [] q none = refl
none_added one (first ∷ rows) q none = by (bytes_eq q first.0) refl (none_added one rows q)
  where
    by : (b : Bool) → bytes_eq q first.0 ≡ b → (node_in (rows ++ one ∷ []) q ≡ None → node_in rows q ≡ None) → node_in (first ∷ rows) q ≡ None
    by true e rest = let h : Some first.1 ≡ None = rw e at none in cc
    by false e rest = rw e (rest (rw e at none))

none_changed : (f : NodeRow → NodeRow) (n : List ℕ) (rows : List (List ℕ × NodeRow)) (q : List ℕ) → node_in (with_node f n rows) q ≡ None → node_in rows q ≡ None
none_changed f n rows q none = by (bytes_eq n q) refl
  where
    unmapped : (o : Option NodeRow) → option_map f o ≡ None → o ≡ None
    unmapped None e = refl
    unmapped (Some row) e = cc

    by : (b : Bool) → bytes_eq n q ≡ b → node_in rows q ≡ None
    by true e =
        let own : node_in (with_node f n rows) n ≡ None = subst (λ (z : List ℕ). node_in (with_node f n rows) z ≡ None) (sym (same_text n q e)) none in
        subst (λ (z : List ℕ). node_in rows z ≡ None) (same_text n q e) (unmapped (node_in rows n) (sym (own_row f n rows) ∙ own))
    by false e = sym (other_row f n q rows e) ∙ none

-- what nodes offer stays where containers change their states
brought_offers : (passes : BookRow → Bool) (state : ContainerState) (ids : List ContainerId) (book : BookOf) → (brought_all passes state book ids).nodes ≡ book.nodes
brought_offers passes state [] book = refl
brought_offers passes state (id ∷ ids) book = brought_offers passes state ids (brought_one passes state book id) ∙ one (is_some_and passes (book_row book id))
  where
    one : (b : Bool) → (if b then with_state book id state else book).nodes ≡ book.nodes
    one true = refl
    one false = refl

beaten_offers : (name : List ℕ) (running launched : List ContainerId) (book : BookOf) → (beaten_book name running launched book).nodes ≡ book.nodes
beaten_offers name running launched book =
    brought_offers (is_row_on name) Running running (brought_all (is_untold_row name) Acquired book launched) ∙ brought_offers (is_untold_row name) Acquired launched book

beaten_kept : (name : List ℕ) (id : ℕ) (running : List Held) (done : List ContainerId) (reply : Reply) (t : Tables) → OnlyNodesOffer t → OnlyNodesOffer (beaten_with name id running done reply t)
beaten_kept name id running done reply t offer = λ q none.
    ap (λ (nodes : List NodeCapability). capability_in nodes q) (beaten_offers name (reported running) (launched_by reply) t.book)
    ∙ offer q (none_changed (beaten_row (id + 1) reply) name t.nodes q none)

register_kept : (r : Option NodeRow) (name : List ℕ) (turn : ℕ) (capability : Resource) (running : List Held) (reply : Reply) (t : Tables) → OnlyNodesOffer t
    → OnlyNodesOffer (registered_by r name turn capability running reply t)
register_kept None name turn capability running reply t offer = λ q none. offer q (none_added (name, new_node_row turn capability running reply) t.nodes q none)
register_kept (Some row) name turn capability running reply t offer = by (nat_lt row.turn turn)
  where
    by : (b : Bool) → OnlyNodesOffer (if b then registered_later name turn capability running reply t else t)
    by true = λ q none. offer q (none_changed (registered_node_row turn capability running reply) name t.nodes q none)
    by false = offer

-- after a node was answered
pub node_offers : (name : List ℕ) (ask : NodeAsk) (reply : Reply) (t : Tables) → OnlyNodesOffer t → OnlyNodesOffer (after_node name ask reply t)
node_offers name (AskRegister turn capability running) reply t offer = register_kept (node_in t.nodes name) name turn capability running reply t offer
node_offers name (AskBeat id running done) (TellBeat next launched clean) t offer = by (is_next_beat id (node_in t.nodes name))
  where
    by : (b : Bool) → OnlyNodesOffer (if b then beaten_with name id running done (TellBeat next launched clean) t else t)
    by true = beaten_kept name id running done (TellBeat next launched clean) t offer
    by false = offer
node_offers name (AskBeat id running done) _ t offer = offer

-- after the clock was answered
pub clock_offers : (ask : ClockAsk) (reply : Reply) (t : Tables) → OnlyNodesOffer t → OnlyNodesOffer (after_clock ask reply t)
clock_offers (ExpireNode name) Ok t offer = λ q none. offer q (none_changed (changed_row of_node.Lose) name t.nodes q none)
clock_offers (Tick time) Ok t offer = offer
clock_offers (ExpireMaster attempt) Ok t offer = offer
clock_offers _ _ t offer = offer
