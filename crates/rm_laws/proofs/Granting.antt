-- The sequences that a pass gives go on from those that were given.
use Rattle.rm_laws.proofs.Common.{◌≡◌, ◌≢◌, ℕ, zero, suc, ◌+◌, ◌<◌, ◌≤◌, List, [], ◌∷◌, ◌++◌, cond, map, fold, count_by, refl, subst, arith, append-nil, append_assoc, range_with_len, sum_by-append, Ask, Grant, Turn, AttemptId, ContainerId, Resource, is_attempt, PassNode, fitting, turn_grant, by_priority, left_of, seq_after, with_granted, with_turn}
use Rattle.rm_types.proofs.IdLemmas.{attempt_itself}
use Rattle.rm_laws.proofs.Lists.{Each, Pairs, each-append, each-map, pairs-append}

-- how many of these grants are to an attempt
abbrev pub made_to : AttemptId → List Grant → ℕ
made_to attempt grants = count_by (λ grant. is_attempt grant.id.attempt attempt) grants

pub made_to-append : (attempt : AttemptId) (grants more : List Grant) → made_to attempt (grants ++ more) ≡ made_to attempt grants + made_to attempt more
made_to-append attempt grants more = sum_by-append (λ (grant : Grant). let n : ℕ = cond (is_attempt grant.id.attempt attempt) 1 0 in n) grants more

-- so many containers of each attempt were granted before
module _ (epoch : ℕ) (node : List ℕ) (base : AttemptId → ℕ) where
  -- a grant is new: on this node, of this epoch, with a sequence above those before and not above all
  pub record IsNew (grants : List Grant) (grant : Grant) : Type 0 where
    pub node_is : grant.node ≡ node
    pub epoch_is : grant.id.epoch ≡ epoch
    pub above : base grant.id.attempt < grant.id.seq
    pub within : grant.id.seq ≤ base grant.id.attempt + made_to grant.id.attempt grants

  pub record AreNew (grants : List Grant) : Type 0 where
    pub each : Each (IsNew grants) grants
    pub apart : Pairs (λ a b. a.id ≢ b.id) grants

  more_new : (grants more : List Grant) (grant : Grant) → IsNew grants grant → IsNew (grants ++ more) grant
  more_new grants more grant n =
      let e = made_to-append grant.id.attempt grants more in
      let w = n.within in
      record { node_is = n.node_is; epoch_is = n.epoch_is; above = n.above; within = omega (arith, e, w) }

  differs : (grants : List Grant) (grant old : Grant) → grant.id.seq ≡ base grant.id.attempt + made_to grant.id.attempt grants + 1 → IsNew grants old → old.id ≢ grant.id
  differs grants grant old is n same =
      let w = subst (λ (id : ContainerId). id.seq ≤ base id.attempt + made_to id.attempt grants) same n.within in
      omega (arith, w, is)

  one_more : (grants : List Grant) (grant : Grant) → grant.node ≡ node → grant.id.epoch ≡ epoch → grant.id.seq ≡ base grant.id.attempt + made_to grant.id.attempt grants + 1
      → AreNew grants → AreNew (grants ++ grant ∷ [])
  one_more grants grant o e is n =
      record {
        each = each-append (IsNew (grants ++ grant ∷ [])) grants (grant ∷ []) (each-map (IsNew grants) (IsNew (grants ++ grant ∷ [])) (λ old. more_new grants (grant ∷ []) old) grants n.each) (itself, tt);
        apart = pairs-append (λ a b. a.id ≢ b.id) grants (grant ∷ []) n.apart (tt, tt)
            (each-map (IsNew grants) (λ old. Each (λ b. old.id ≢ b.id) (grant ∷ [])) (λ old new. (differs grants grant old is new, tt)) grants n.each);
      }
    where
      itself : IsNew (grants ++ grant ∷ []) grant
      itself =
          let a = made_to-append grant.id.attempt grants (grant ∷ []) in
          let one : made_to grant.id.attempt (grant ∷ []) ≡ 1 = rw (attempt_itself grant.id.attempt) refl in
          record { node_is = o; epoch_is = e; above = omega (arith, is); within = omega (arith, is, a, one) }

  module _ (pass : PassNode) (turn : Turn) (of_node : pass.node ≡ node) (of_epoch : pass.epoch ≡ epoch) (follows : turn.next_seq ≡ base turn.attempt + 1) where
    -- so many grants of one size
    size_new : (size : Resource) (n : ℕ) (grants : List Grant) (seq : ℕ) → seq ≡ base turn.attempt + made_to turn.attempt grants + 1 → AreNew grants
        → AreNew (grants ++ map (turn_grant pass turn size) (range_with_len seq n))
    size_new size zero grants seq is new = rw (append-nil grants) new
    size_new size (suc n) grants seq is new =
        let grant = turn_grant pass turn size seq in
        let a = made_to-append turn.attempt grants (grant ∷ []) in
        let one : made_to turn.attempt (grant ∷ []) ≡ 1 = rw (attempt_itself turn.attempt) refl in
        let next = size_new size n (grants ++ grant ∷ []) (seq + 1) (omega (arith, is, a, one)) (one_more grants grant of_node of_epoch is new) in
        subst AreNew (append_assoc grants (grant ∷ []) (map (turn_grant pass turn size) (range_with_len (seq + 1) n))) next

    ask_new : (grants : List Grant) (ask : Ask) → AreNew grants → AreNew (with_granted pass turn grants ask)
    ask_new grants ask new =
        size_new ask.size (fitting ask.count ask.size (left_of pass grants)) grants (seq_after turn grants) (rw follows (omega arith)) new

    asks_new : (asks : List Ask) (grants : List Grant) → AreNew grants → AreNew (fold (with_granted pass turn) grants asks)
    asks_new [] grants new = new
    asks_new (ask ∷ asks) grants new = asks_new asks (with_granted pass turn grants ask) (ask_new grants ask new)

  pub turns_new : (pass : PassNode) (asks_of : AttemptId → List Ask) → pass.node ≡ node → pass.epoch ≡ epoch → (turns : List Turn) → Each (λ turn. turn.next_seq ≡ base turn.attempt + 1) turns
      → (grants : List Grant) → AreNew grants → AreNew (fold (with_turn pass asks_of) grants turns)
  turns_new pass asks_of of_node of_epoch [] follow grants new = new
  turns_new pass asks_of of_node of_epoch (turn ∷ turns) follow grants new =
      turns_new pass asks_of of_node of_epoch turns follow.1 (with_turn pass asks_of grants turn)
      (asks_new pass turn of_node of_epoch follow.0 (by_priority (asks_of turn.attempt)) grants new)
