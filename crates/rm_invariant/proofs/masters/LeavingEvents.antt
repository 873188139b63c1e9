-- Release, NodeDone and NodeLost, each as a whole step: the containers that they end leave the book, if there are any.
use Rattle.rm_invariant.proofs.Common.{◌≡◌, ℕ, ◌&&◌, not, List, [], ◌∷◌, Bool, true, false, filter, find, map, refl, sym, ◌∙◌, ap, subst, list_any, bytes_eq, IsPermutation-sym, BookRow, AttemptId, ContainerId, Settings, is_container, Ascend, and_first, same_container, ids_on, is_living, lives_on, once, has_container, Allowed, Row, has_row, is_of, SchedEvent, Tables, ended_by, is_masters_in, EndsByEvent, is_on, is_released, sched_step, sched_worked, PlainRow, bare_row, plain_row, SameRows, History, live_state, ◌⊎◌, inl, inr, ◌||◌, ◌<◌, length, zero, suc, get_or, arith, Scene, scene, attempt_was_first, abstract_life, Contains}
use Rattle.std.specs.Prelude.{unwrap_or, nat_lt}
use Rattle.rm_types.specs.declared.containers.Cause.TheVariants as causes
use Rattle.rm_model.specs.Ending.{done_on}
use Rattle.rm_model.specs.Containers.{is_astray, is_missing}
use Rattle.rm_model.specs.Attempts.{is_wanted}
use Rattle.rm_model.specs.Nodes.{beat_at}
use Rattle.rm_model.specs.State.{NodeState}
use Rattle.rm_tables.specs.SchedEvents.{done_by, release_step, ends_as_done}
use Rattle.rm_tables.specs.declared.events.SchedEvent.TheVariants as scheds
use Rattle.rm_tables.specs.Missing.{is_at_disposal_in}
use Rattle.rm_invariant.specs.Step.{AppsInvariant}
use Rattle.rm_invariant.specs.masters.Invariant.{ContainersInvariant}
use Rattle.rm_invariant.specs.masters.Sound.{RecordsAreSound}
use Rattle.rm_invariant.specs.masters.Preserves.{PreservesContainersTo}
use Rattle.rm_invariant.proofs.masters.Removed.{leaving_joins, Departs}
use Rattle.rm_invariant.proofs.nodes.Ascending.{permuted_has}
use Rattle.rm_invariant.proofs.nodes.Lists.{lives_is}
use Rattle.rm_invariant.proofs.masters.Tests.{and_right}

-- of some ids that pass a test each is one of the ids, and passes
pub of_passing : (p : ContainerId → Bool) (ids : List ContainerId) (c : ContainerId) → has_container (filter p ids) c ≡ true → (has_container ids c ≡ true) × (p c ≡ true)
of_passing p [] c e = cc
of_passing p (id ∷ ids) c e = by (p id) (is_container id c) refl refl (of_passing p ids c)
  where
    by : (a b : Bool) → p id ≡ a → is_container id c ≡ b → (has_container (filter p ids) c ≡ true → (has_container ids c ≡ true) × (p c ≡ true)) → (has_container (id ∷ ids) c ≡ true) × (p c ≡ true)
    by true true f g h = (rw g refl, subst (λ (x : ContainerId). p x ≡ true) (same_container id c g) f)
    by true false f g h = let r = h (let x = rw (f, g) at e in x) in (rw g r.0, r.1)
    by false true f g h = let r = h (let x = rw f at e in x) in (rw g refl, r.1)
    by false false f g h = let r = h (let x = rw f at e in x) in (rw g r.0, r.1)

-- with each once, they are the same ids
pub of_once : (ids : List ContainerId) (c : ContainerId) → has_container (once ids) c ≡ true → has_container ids c ≡ true
of_once [] c e = e
of_once (id ∷ ids) c e = by (is_container id c) refl (of_once ids c)
  where
    by : (b : Bool) → is_container id c ≡ b → (has_container (once ids) c ≡ true → has_container ids c ≡ true) → has_container (id ∷ ids) c ≡ true
    by true f h = rw f refl
    by false f h = rw f (h (of_passing (λ other. not (is_container other id)) (once ids) c (let x = rw f at e in x)).0)

-- a container has a row in the tables where it lives for the judge
living_more : (c : ContainerId) (row : BookRow) (rows : List BookRow) (one : Row) (book : List Row) → bare_row row ≡ plain_row one → list_any (is_of c) rows ≡ is_living book c → list_any (is_of c) (row ∷ rows) ≡ is_living (one ∷ book) c
living_more c row rows one book same rest =
    let id : row.id ≡ one.id = ap (λ (x : PlainRow). x.id) same in
    rw (id, rest) refl

pub same_living : (c : ContainerId) (rows : List BookRow) (book : List Row) → SameRows rows book → list_any (is_of c) rows ≡ is_living book c
same_living c [] [] same = refl
same_living c [] (one ∷ book) same = cc
same_living c (row ∷ rows) [] same = cc
same_living c (row ∷ rows) (one ∷ book) same =
    let first : bare_row row ≡ plain_row one = cc in
    let more : SameRows rows book = cc in
    living_more c row rows one book first (same_living c rows book more)

-- and a row that is found is one
found_row : (rows : List BookRow) (c : ContainerId) (name : List ℕ) → is_on name (find (is_of c) rows) ≡ true → list_any (is_of c) rows ≡ true
found_row [] c name e = cc
found_row (row ∷ rows) c name e = by (is_container row.id c) refl (found_row rows c name)
  where
    by : (b : Bool) → is_container row.id c ≡ b → (is_on name (find (is_of c) rows) ≡ true → list_any (is_of c) rows ≡ true) → list_any (is_of c) (row ∷ rows) ≡ true
    by true f h = rw f refl
    by false f h = rw f (h (let x = rw f at e in x))

-- the tables and the judge have the same containers on a node, in the same order
abbrev ids_at : List BookRow → List ℕ → List ContainerId
ids_at rows name = map (λ row. row.id) (filter (λ row. bytes_eq row.node name) rows)

ids_more : (name : List ℕ) (row : BookRow) (rows : List BookRow) (one : Row) (book : List Row) → bare_row row ≡ plain_row one → (b : Bool) → bytes_eq one.node name ≡ b → ids_at rows name ≡ ids_on book name
    → ids_at (row ∷ rows) name ≡ ids_on (one ∷ book) name
ids_more name row rows one book same true e rest =
    let id : row.id ≡ one.id = ap (λ (x : PlainRow). x.id) same in
    let node : row.node ≡ one.node = ap (λ (x : PlainRow). x.node) same in
    rw (node, e, id) (ap (λ ids. one.id ∷ ids) rest)
ids_more name row rows one book same false e rest =
    let node : row.node ≡ one.node = ap (λ (x : PlainRow). x.node) same in
    rw (node, e) rest

pub same_ids_on : (name : List ℕ) (rows : List BookRow) (book : List Row) → SameRows rows book → ids_at rows name ≡ ids_on book name
same_ids_on name [] [] same = refl
same_ids_on name [] (one ∷ book) same = cc
same_ids_on name (row ∷ rows) [] same = cc
same_ids_on name (row ∷ rows) (one ∷ book) same =
    let first : bare_row row ≡ plain_row one = cc in
    let more : SameRows rows book = cc in
    ids_more name row rows one book first (bytes_eq one.node name) refl (same_ids_on name rows book more)

-- one that lives on a node lives
pub lives_there : (book : List Row) (name : List ℕ) (c : ContainerId) → lives_on book name c ≡ true → is_living book c ≡ true
lives_there [] name c e = e
lives_there (row ∷ rows) name c e = by (is_container row.id c) refl (lives_there rows name c)
  where
    by : (b : Bool) → is_container row.id c ≡ b → (lives_on rows name c ≡ true → is_living rows c ≡ true) → is_living (row ∷ rows) c ≡ true
    by true f h = rw f refl
    by false f h = rw f (h (let x = rw f at e in x))

-- what ends of a node's done list is astray or in the book on the node: an astray one's attempt was kept when the life began
one_departs : (settings : Settings) (m : Scene) (node : NodeState) (c : ContainerId) → has_container (done_on settings m node) c ≡ true → (is_living m.life.book c ≡ true) ⊎ (attempt_was_first m c.attempt ≡ true)
one_departs settings m node c e = by (is_astray settings m c) refl
  where
    passes : (is_astray settings m c || lives_on m.life.book node.name c) ≡ true
    passes =
        let ends : ContainerId → Bool = λ id. is_astray settings m id || lives_on m.life.book node.name id in
        let listed : List ContainerId = unwrap_or (beat_at node.undone) [] in
        (of_passing ends listed c (of_once (filter ends listed) c e)).1

    first : (settings.recover_ended_containers && is_missing m c) ≡ true → attempt_was_first m c.attempt ≡ true
    first astray =
        let missing = and_right settings.recover_ended_containers (is_missing m c) astray in
        let not_left = and_right (not (is_living m.life.book c)) _ missing in
        let former = and_right (not (has_container m.life.endings.left c)) _ not_left in
        let wanted = and_right (nat_lt c.epoch m.life.epoch) (attempt_was_first m c.attempt && is_wanted m c) former in
        and_first (attempt_was_first m c.attempt) (is_wanted m c) wanted

    by : (b : Bool) → is_astray settings m c ≡ b → (is_living m.life.book c ≡ true) ⊎ (attempt_was_first m c.attempt ≡ true)
    by true f = inr (first f)
    by false f = inl (lives_there m.life.book node.name c (rw f at passes))

listed_departs : (settings : Settings) (m : Scene) (nodes : List NodeState) (list : List ContainerId) (k : ℕ) → k < length (map (done_on settings m) nodes) → get_or (map (done_on settings m) nodes) k list ≡ list
    → (c : ContainerId) → has_container list c ≡ true → (is_living m.life.book c ≡ true) ⊎ (attempt_was_first m c.attempt ≡ true)
listed_departs settings m [] list k lt is c e = absurd (omega (arith, lt))
listed_departs settings m (node ∷ nodes) list zero lt is c e = one_departs settings m node c (rw is e)
listed_departs settings m (node ∷ nodes) list (suc k) lt is c e = listed_departs settings m nodes list k (omega (arith, lt)) is c e

pub done_departs : (settings : Settings) (h : History) (t : Tables) (list : List ContainerId) → Allowed settings (live_state h t) (ended_by causes.Done list t).0 → (c : ContainerId) → has_container list c ≡ true → Departs h t c
done_departs settings h t [] allowed c e = cc
done_departs settings h t (one ∷ more) allowed c e =
    let m : Scene = scene (live_state h t) (abstract_life h t) in
    let ends : Contains (map (done_on settings m) m.life.nodes) (one ∷ more) = allowed.ends in
    listed_departs settings m m.life.nodes (one ∷ more) ends.0 ends.1 ends.2 c e

module _ (settings : Settings) (h : History) (t : Tables) (k : AppsInvariant settings h t) (all : ContainersInvariant h t) (each : RecordsAreSound t.tree.apps) (agree : SameRows t.book.rows h.book) where
  -- Release
  pub released_joins : (attempt : AttemptId) (released : List ContainerId) (rest : List SchedEvent) → t.sched ≡ scheds.Release attempt released ∷ rest → (list : List ContainerId)
      → Allowed settings (live_state h t) (release_step attempt released t).0 → PreservesContainersTo settings h t (sched_worked (sched_step (scheds.Release attempt released) list t))
  released_joins attempt released rest front list lawful =
      leaving_joins settings h t k all each (scheds.Release attempt released) rest front (λ q v. refl) causes.Released (once (filter (is_released attempt t) released))
      (λ c e.
      let passes = (of_passing (is_released attempt t) released c (of_once (filter (is_released attempt t) released) c e)).1 in
      inl (sym (same_living c t.book.rows h.book agree) ∙ and_first (has_row t.book c) (is_at_disposal_in t.tree.apps attempt c && not (is_masters_in t.tree.apps c)) passes))
      (λ c x l s. cc) lawful

  -- NodeDone
  pub node_done_joins : (name : List ℕ) (done : List ContainerId) (rest : List SchedEvent) → t.sched ≡ scheds.NodeDone name done ∷ rest → (list : List ContainerId)
      → Allowed settings (live_state h t) (done_by name done t).0 → PreservesContainersTo settings h t (sched_worked (sched_step (scheds.NodeDone name done) list t))
  node_done_joins name done rest front list lawful = by (once (filter (ends_as_done name t) done)) lawful
    where
      by : (ended : List ContainerId) → Allowed settings (live_state h t) (ended_by causes.Done ended t).0 → PreservesContainersTo settings h t (sched_worked (ended_by causes.Done ended t))
      by ended allowed =
          leaving_joins settings h t k all each (scheds.NodeDone name done) rest front (λ q v. refl) causes.Done ended (λ c e. done_departs settings h t ended allowed c e) (λ c x l s. cc) allowed

  -- NodeLost
  pub node_lost_joins : (name : List ℕ) (rest : List SchedEvent) → t.sched ≡ scheds.NodeLost name ∷ rest → (list : List ContainerId) → EndsByEvent (scheds.NodeLost name) t list
      → Allowed settings (live_state h t) (ended_by causes.Node list t).0 → PreservesContainersTo settings h t (sched_worked (sched_step (scheds.NodeLost name) list t))
  node_lost_joins name rest front list ends lawful =
      let same = same_ids_on name t.book.rows h.book agree in
      let told : Ascend (ids_on h.book name) list = subst (λ (ids : List ContainerId). Ascend ids list) same ends in
      leaving_joins settings h t k all each (scheds.NodeLost name) rest front (λ q v. refl) causes.Node list
      (λ c e. inl (lives_there h.book name c (lives_is h.book name c ∙ permuted_has list (ids_on h.book name) c (IsPermutation-sym (ids_on h.book name) list told.same) e)))
      (λ c x l s. cc) lawful
