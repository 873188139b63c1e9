-- Granted containers enter the book: what holds of the book holds after them.
use Rattle.rm_invariant.proofs.Common.{◌≡◌, ◌≤◌, ℕ, ◌+◌, List, [], ◌∷◌, ◌++◌, Bool, true, false, ◌&&◌, Option, None, Some, map, refl, sym, ◌∙◌, ap, subst, arith, if◌then◌else◌, bytes_eq, false≢true, Grant, AppId, ContainerId, Resource, is_attempt, is_container, attempt_itself, container_itself, same_container, is_living, lives_on, judged_node, with_judged_node, passed, passes, row_granted, LifeState, Row, Scene, grants_of, found_each, AppRow}
use Rattle.std.proofs.Common.{is_some, append_assoc, append-nil}
use Rattle.std.specs.Prelude.{option_and_then, option_map}
use Rattle.rm_model.specs.State.{NodeState}
use Rattle.rm_invariant.specs.apps.View.{one_if, set_if}
use Rattle.rm_invariant.proofs.apps.Counts.{at_end}
use Rattle.rm_invariant.specs.nodes.Book.{All, LivingRowsAreApart, AreLaunches, BookInvariant, IsAbsorbed, IsGranted, BookRowInvariant}
use Rattle.rm_invariant.proofs.nodes.Entries.{at_name}
use Rattle.rm_invariant.proofs.nodes.Holds.{IsNew, all_append, all_map, not_left, not_living}
use Rattle.rm_invariant.proofs.masters.Tests.{any_end}
use Rattle.rm_invariant.specs.events.Asking.{AreNext}
use Rattle.rm_invariant.specs.Core.{Nothing}
use Rattle.rm_invariant.proofs.events.Leaving.{tidied_holds}

-- a row behind others is apart from them
apart_end : (row : Row) (book : List Row) → is_living book row.id ≡ false → LivingRowsAreApart book → LivingRowsAreApart (book ++ row ∷ [])
apart_end row [] none apart = (refl, tt)
apart_end row (one ∷ book) none apart = by (is_container one.id row.id) refl (apart_end row book)
  where
    by : (b : Bool) → is_container one.id row.id ≡ b → (is_living book row.id ≡ false → LivingRowsAreApart book → LivingRowsAreApart (book ++ row ∷ [])) → LivingRowsAreApart (one ∷ book ++ row ∷ [])
    by true e rest = absurd (false≢true (sym (let x : true ≡ false = rw e at none in x)))
    by false e rest =
        let none_here : is_living book row.id ≡ false = rw e at none in
        let away : is_container row.id one.id ≡ false = back (is_container row.id one.id) refl in
        (any_end (λ other. is_container other.id one.id) book row ∙ ap (λ (b : Bool). set_if b (is_living book one.id)) away ∙ apart.0, rest none_here apart.1)
      where
        back : (c : Bool) → is_container row.id one.id ≡ c → is_container row.id one.id ≡ false
        back true f =
            let same : row.id ≡ one.id = same_container row.id one.id f in
            let own : is_container one.id row.id ≡ true = subst (λ (id : ContainerId). is_container one.id id ≡ true) (sym same) (container_itself one.id) in
            absurd (false≢true (sym e ∙ own))
        back false f = f

-- what holds of all for one reason holds for another
pub all_weaker : {X : Type 0} (P Q : X → Type 0) → ((x : X) → P x → Q x) → (xs : List X) → All P xs → All Q xs
all_weaker P Q f [] each = tt
all_weaker P Q f (x ∷ xs) each = (f x each.0, all_weaker P Q f xs each.1)

-- one that lives on a node lives there still
lives_more : (row : Row) (name : List ℕ) (id : ContainerId) (book : List Row) → lives_on book name id ≡ true → lives_on (book ++ row ∷ []) name id ≡ true
lives_more row name id book lives =
    any_end (λ one. is_container one.id id && bytes_eq one.node name) book row ∙ ap (set_if (is_container row.id id && bytes_eq row.node name)) lives ∙ still (is_container row.id id && bytes_eq row.node name)
  where
    still : (b : Bool) → set_if b true ≡ true
    still true = refl
    still false = refl

module _ (life : LifeState) (grant : Grant) where
  -- the life with one more container
  abbrev pub with_one : LifeState
  with_one = record life { granted = life.granted ++ grant.id ∷ []; book = life.book ++ row_granted grant ∷ [] }

  module _ (holds : BookInvariant life Nothing) (epoch : grant.id.epoch ≡ life.epoch) (seq : grant.id.seq ≡ grants_of life.granted grant.id.attempt + 1) (absorbed : IsAbsorbed life.nodes grant.node) where
    new : IsNew life grant.id
    new = (epoch, omega (arith, seq))

    more_granted : (id : ContainerId) → IsGranted life id → IsGranted with_one id
    more_granted id old e =
        let low = old e in
        let now = at_end (λ (one : ContainerId). is_attempt one.attempt id.attempt) life.granted grant.id in
        by (is_attempt grant.id.attempt id.attempt) low now
      where
        by : (b : Bool) → id.seq ≤ grants_of life.granted id.attempt → grants_of (life.granted ++ grant.id ∷ []) id.attempt ≡ one_if b (grants_of life.granted id.attempt)
            → id.seq ≤ grants_of (life.granted ++ grant.id ∷ []) id.attempt
        by true low now = omega (arith, low, now)
        by false low now = omega (arith, low, now)

    own_granted : IsGranted with_one grant.id
    own_granted e =
        let now = at_end (λ (one : ContainerId). is_attempt one.attempt grant.id.attempt) life.granted grant.id ∙ ap (λ (b : Bool). one_if b (grants_of life.granted grant.id.attempt)) own in
        omega (arith, seq, now)
      where
        own : is_attempt grant.id.attempt grant.id.attempt ≡ true
        own = attempt_itself grant.id.attempt

    -- holds with it
    pub one_enters : BookInvariant with_one Nothing
    one_enters =
        record {
          apart = apart_end (row_granted grant) life.book (not_living life Nothing life.book grant.id new holds.rows) holds.apart;
          rows =
              all_append (BookRowInvariant with_one Nothing) life.book (row_granted grant ∷ [])
              (all_weaker (BookRowInvariant life Nothing) (BookRowInvariant with_one Nothing) (λ row is. (is.0, more_granted row.id is.1, is.2, is.3)) life.book holds.rows)
              ((absorbed, own_granted, (λ e. not_left life life.endings.left grant.id new holds.left), tt), tt);
          left = all_weaker (IsGranted life) (IsGranted with_one) more_granted life.endings.left holds.left;
          launches =
              all_weaker (AreLaunches life.book) (AreLaunches with_one.book)
              (λ node are. all_weaker (λ id. lives_on life.book node.name id ≡ true) (λ id. lives_on with_one.book node.name id ≡ true) (λ id lives. lives_more (row_granted grant) node.name id life.book lives) node.launches are)
              life.nodes holds.launches;
        }

-- the life with these containers
abbrev pub with_all : LifeState → List Grant → LifeState
with_all life grants = record life { granted = life.granted ++ map (λ grant. grant.id) grants; book = life.book ++ map row_granted grants }

-- holds with them
pub all_enter : (rows : List (AppId × Option AppRow)) (grants : List Grant) (life : LifeState) → BookInvariant life Nothing → AreNext rows life.granted grants → All (λ grant. grant.id.epoch ≡ life.epoch) grants
    → All (λ grant. IsAbsorbed life.nodes grant.node) grants → BookInvariant (with_all life grants) Nothing
all_enter rows [] life holds next now absorbed =
    subst (λ (book : List Row). BookInvariant (record life { granted = life.granted ++ []; book = book }) Nothing) (sym (append-nil life.book))
    (subst (λ (granted : List ContainerId). BookInvariant (record life { granted = granted }) Nothing) (sym (append-nil life.granted)) holds)
all_enter rows (grant ∷ grants) life holds next now absorbed =
    subst (λ (book : List Row). BookInvariant (record life { granted = life.granted ++ map (λ one. one.id) (grant ∷ grants); book = book }) Nothing) (append_assoc life.book (row_granted grant ∷ []) (map row_granted grants))
    (subst (λ (granted : List ContainerId). BookInvariant (record life { granted = granted; book = (life.book ++ row_granted grant ∷ []) ++ map row_granted grants }) Nothing) (append_assoc life.granted (grant.id ∷ []) (map (λ one. one.id) grants))
    (all_enter rows grants (with_one life grant) (one_enters life grant holds now.0 next.1 absorbed.0) next.2 now.1 absorbed.1))

-- a beat that is worked off is nothing to the book
worked_holds : (life : LifeState) (name : List ℕ) → BookInvariant life Nothing → BookInvariant (record life { nodes = with_judged_node passed name life.nodes }) Nothing
worked_holds life name h =
    record {
      apart = h.apart;
      rows = all_weaker (BookRowInvariant life Nothing) (BookRowInvariant (record life { nodes = with_judged_node passed name life.nodes }) Nothing) (λ row is. (absorbed row.node is.0, is.1, is.2, is.3)) life.book h.rows;
      left = h.left;
      launches = all_map (AreLaunches life.book) (AreLaunches life.book) change (λ node are. still node (bytes_eq node.name name) are) life.nodes h.launches;
    }
  where
    change : NodeState → NodeState
    change node = if bytes_eq node.name name then passed node else node

    still : (node : NodeState) (b : Bool) → AreLaunches life.book node → AreLaunches life.book (if b then passed node else node)
    still node true are = are
    still node false are = are

    offers : (node : NodeState) (b : Bool) → (if b then passed node else node).capability ≡ node.capability
    offers node true = refl
    offers node false = refl

    absorbed : (q : List ℕ) → IsAbsorbed life.nodes q → IsAbsorbed (with_judged_node passed name life.nodes) q
    absorbed q is = rw (found_each change q life.nodes (at_name name passed (λ node. refl))) (by (judged_node life.nodes q) is)
      where
        by : (o : Option NodeState) → is_some (option_and_then (λ (node : NodeState). node.capability) o) ≡ true
            → is_some (option_and_then (λ (node : NodeState). node.capability) (option_map change o)) ≡ true
        by None is = is
        by (Some node) is = ap (λ (o : Option Resource). is_some o) (offers node (bytes_eq node.name name)) ∙ is

-- holds of the life after a pass
pub passed_holds : (m : Scene) (name : List ℕ) (rows : List (AppId × Option AppRow)) (grants : List Grant) → BookInvariant m.life Nothing → AreNext rows m.life.granted grants
    → All (λ grant. grant.id.epoch ≡ m.life.epoch) grants → All (λ grant. IsAbsorbed m.life.nodes grant.node) grants → BookInvariant (passes m name grants) Nothing
passed_holds m name rows grants holds next now absorbed =
    let entered : BookInvariant (with_all m.life grants) Nothing = all_enter rows grants m.life holds next now absorbed in
    let worked : BookInvariant (record (with_all m.life grants) { nodes = with_judged_node passed name m.life.nodes }) Nothing = worked_holds (with_all m.life grants) name entered in
    tidied_holds _ Nothing (record { apart = worked.apart; rows = worked.rows; left = worked.left; launches = worked.launches })
