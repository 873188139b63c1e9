-- What the two calls promise, by what they answer and how the tables change.
use Rattle.std.proofs.Common.{◌≡◌, ℕ, List, Err, Ok, Result, sym, subst}
use Rattle.std.specs.Prelude.{IfOk, OnErr}
use Rattle.rm_types.specs.declared.duplicate.NoMemory.{NoMemory}
use Rattle.rm_types.specs.declared.messages.ClockAsk.{ClockAsk}
use Rattle.rm_types.specs.declared.messages.NodeAsk.{NodeAsk}
use Rattle.rm_types.specs.declared.replies.Reply.{Reply}
use Rattle.rm_book.specs.Books.{IsBook}
use Rattle.rm_model.specs.State.{Scene}
use Rattle.rm_model.specs.NodeReplies.{clock_reply, life_after_clock, life_after_node, node_reply}
use Rattle.rm_tables.specs.declared.tables.Tables.{Tables}
use Rattle.rm_refinement.specs.Services.{RefinesLife}
use Rattle.rm_tracker.specs.Answers.{after_clock, after_node}
use Rattle.rm_tracker.specs.Offers.{OnlyNodesOffer}
use Rattle.rm_tracker.proofs.Offered.{clock_offers, node_offers}
use Rattle.rm_tracker.proofs.Same.{clock_same, living, node_same}

pub node_served : (m : Scene) (t new : Tables) (name : List ℕ) (ask : NodeAsk) (r : Result Reply NoMemory) → IfOk r (λ reply. reply ≡ node_reply m name ask)
    → IfOk r (λ reply. new ≡ after_node name ask reply t) → RefinesLife m t → IsBook t.book → OnlyNodesOffer t → IfOk r (λ reply. RefinesLife (living m (life_after_node m name ask reply)) new)
node_served m t new name ask (Err refused) is changed shows book offer = tt
node_served m t new name ask (Ok reply) is changed shows book offer =
    subst (λ (one : Tables). RefinesLife (living m (life_after_node m name ask reply)) one) (sym changed) (node_same m t name ask reply shows book offer is)

pub node_offered : (t new : Tables) (name : List ℕ) (ask : NodeAsk) (r : Result Reply NoMemory) → IfOk r (λ reply. new ≡ after_node name ask reply t) → OnErr r (new ≡ t) → OnlyNodesOffer t
    → OnlyNodesOffer new
node_offered t new name ask (Err refused) changed err offer = subst OnlyNodesOffer (sym err) offer
node_offered t new name ask (Ok reply) changed err offer = subst OnlyNodesOffer (sym changed) (node_offers name ask reply t offer)

pub clock_served : (m : Scene) (t new : Tables) (ask : ClockAsk) (r : Result Reply NoMemory) → IfOk r (λ reply. reply ≡ clock_reply m ask) → IfOk r (λ reply. new ≡ after_clock ask reply t)
    → RefinesLife m t → IfOk r (λ reply. RefinesLife (living m (life_after_clock m ask reply)) new)
clock_served m t new ask (Err refused) is changed shows = tt
clock_served m t new ask (Ok reply) is changed shows =
    subst (λ (one : Tables). RefinesLife (living m (life_after_clock m ask reply)) one) (sym changed) (clock_same m t ask reply shows is)

pub clock_offered : (t new : Tables) (ask : ClockAsk) (r : Result Reply NoMemory) → IfOk r (λ reply. new ≡ after_clock ask reply t) → OnErr r (new ≡ t) → OnlyNodesOffer t → OnlyNodesOffer new
clock_offered t new ask (Err refused) changed err offer = subst OnlyNodesOffer (sym err) offer
clock_offered t new ask (Ok reply) changed err offer = subst OnlyNodesOffer (sym changed) (clock_offers ask reply t offer)
