-- AttemptRemoved, as a whole step: the stale containers of its application leave the book, if there are any.
use Rattle.rm_invariant.proofs.Common.{◌≡◌, List, [], ◌∷◌, Bool, true, false, filter, map, refl, ap, subst, inl, inr, ◌∙◌, arith, nat_tests, IsPermutation-sym, BookRow, Ended, AttemptId, ContainerId, Settings, is_container, Ascend, same_container, is_living, has_container, Allowed, Row, SchedEvent, Tables, ended_by, EndsByEvent, sched_step, sched_worked, PlainRow, bare_row, plain_row, SameRows, History, abstract_scene, live_state, AppId, AppRecord, BookOf, Scene, is_app, sym, ◌&&◌}
use Rattle.rm_types.specs.declared.containers.Cause.TheVariants as causes
use Rattle.rm_model.specs.Containers.{stale_of}
use Rattle.rm_model.specs.Attempts.{is_stale}
use Rattle.rm_tables.specs.declared.events.SchedEvent.TheVariants as scheds
use Rattle.rm_tables.specs.Leaving.{is_stale_in}
use Rattle.rm_tables.specs.SchedEvents.{stale_in}
use Rattle.rm_refinement.proofs.Recorded.{stale_same}
use Rattle.rm_invariant.specs.Step.{AppsInvariant}
use Rattle.rm_invariant.proofs.apps.Keeping.{in_scene}
use Rattle.rm_invariant.specs.masters.Invariant.{ContainersInvariant}
use Rattle.rm_invariant.specs.masters.Sound.{RecordsAreSound}
use Rattle.rm_invariant.specs.masters.Preserves.{PreservesContainersTo}
use Rattle.rm_invariant.proofs.masters.Removed.{leaving_joins}
use Rattle.rm_invariant.proofs.nodes.Ascending.{permuted_has}

-- the tables and the judge pick the same containers by a test, in the same order
abbrev picked_in : (ContainerId → Bool) → List BookRow → List ContainerId
picked_in p rows = map (λ row. row.id) (filter (λ row. p row.id) rows)

abbrev picked : (ContainerId → Bool) → List Row → List ContainerId
picked p book = map (λ row. row.id) (filter (λ row. p row.id) book)

module _ (p q : ContainerId → Bool) (alike : (c : ContainerId) → p c ≡ q c) where
  picked_more : (row : BookRow) (rows : List BookRow) (one : Row) (book : List Row) → bare_row row ≡ plain_row one → (b : Bool) → q one.id ≡ b → picked_in p rows ≡ picked q book → picked_in p (row ∷ rows) ≡ picked q (one ∷ book)
  picked_more row rows one book same true e rest =
      let id : row.id ≡ one.id = ap (λ (x : PlainRow). x.id) same in
      let both : p row.id ≡ true = rw id (alike one.id ∙ e) in
      rw (both, e, id) (ap (λ ids. one.id ∷ ids) rest)
  picked_more row rows one book same false e rest =
      let id : row.id ≡ one.id = ap (λ (x : PlainRow). x.id) same in
      let both : p row.id ≡ false = rw id (alike one.id ∙ e) in
      rw (both, e) rest

  -- for a whole book
  pub same_picked : (rows : List BookRow) (book : List Row) → SameRows rows book → picked_in p rows ≡ picked q book
  same_picked [] [] same = refl
  same_picked [] (one ∷ book) same = cc
  same_picked (row ∷ rows) [] same = cc
  same_picked (row ∷ rows) (one ∷ book) same =
      let first : bare_row row ≡ plain_row one = cc in
      let more : SameRows rows book = cc in
      picked_more row rows one book first (q one.id) refl (same_picked rows book more)

module _ (p : ContainerId → Bool) where
  -- they live
  pub picked_live : (book : List Row) (c : ContainerId) → has_container (picked p book) c ≡ true → is_living book c ≡ true
  picked_live [] c e = e
  picked_live (one ∷ book) c e = by (is_container one.id c) (p one.id) refl refl (picked_live book c)
    where
      by : (a b : Bool) → is_container one.id c ≡ a → p one.id ≡ b → (has_container (picked p book) c ≡ true → is_living book c ≡ true) → is_living (one ∷ book) c ≡ true
      by true b f g rest = rw f refl
      by false true f g rest = rw f (rest (let x = rw (g, f) at e in x))
      by false false f g rest = rw f (rest (let x = rw g at e in x))

  -- and those that live and pass are among them
  pub live_picked : (book : List Row) (c : ContainerId) → p c ≡ true → is_living book c ≡ true → has_container (picked p book) c ≡ true
  live_picked [] c o e = e
  live_picked (one ∷ book) c o e = by (is_container one.id c) (p one.id) refl refl (live_picked book c o)
    where
      by : (a b : Bool) → is_container one.id c ≡ a → p one.id ≡ b → (is_living book c ≡ true → has_container (picked p book) c ≡ true) → has_container (picked p (one ∷ book)) c ≡ true
      by true true f g rest = rw (g, f) refl
      by true false f g rest = absurd (let same : one.id ≡ c = same_container one.id c f in let x : p one.id ≡ true = rw same o in cc)
      by false true f g rest = rw (g, f) (rest (let x = rw f at e in x))
      by false false f g rest = rw g (rest (let x = rw f at e in x))

-- a container is of the application and stale, by the tables and by the judge
abbrev pub goes_in : List AppRecord → AppId → ContainerId → Bool
goes_in apps id c = is_app c.attempt.app id && is_stale_in apps c

abbrev pub goes_told : Scene → AppId → ContainerId → Bool
goes_told m id c = is_app c.attempt.app id && is_stale m c

pub goes_alike : (m : Scene) (id : AppId) (c : ContainerId) → goes_in m.records.apps id c ≡ goes_told m id c
goes_alike m id c = ap (λ b. is_app c.attempt.app id && b) (stale_same m c)

-- the tables and the judge have the same stale containers of an application, in the same order
pub same_stale : (m : Scene) (id : AppId) (book : BookOf) → SameRows book.rows m.life.book → stale_in book m.records.apps id ≡ stale_of m id
same_stale m id book agree = same_picked (goes_in m.records.apps id) (goes_told m id) (goes_alike m id) book.rows m.life.book agree

module _ (settings : Settings) (h : History) (t : Tables) (k : AppsInvariant settings h t) (all : ContainersInvariant h t) (each : RecordsAreSound t.tree.apps) (agree : SameRows t.book.rows h.book) (id : AttemptId) (rest : List SchedEvent)
    (front : t.sched ≡ scheds.AttemptRemoved id ∷ rest) where
  removed_lawful : (list : List ContainerId) → Ascend (stale_of (abstract_scene h t) id.app) list → Allowed settings (live_state h t) (ended_by causes.Attempt list t).0
  removed_lawful [] a = inr refl
  removed_lawful (one ∷ more) a = in_scene settings h t k (Ended causes.Attempt (one ∷ more)) (record { some = λ e. cc; ends = (id.app, a) })

  -- AttemptRemoved, whichever containers of the application are stale
  pub removed_joins : (list : List ContainerId) → EndsByEvent (scheds.AttemptRemoved id) t list → PreservesContainersTo settings h t (sched_worked (sched_step (scheds.AttemptRemoved id) list t))
  removed_joins list ends =
      let same = same_stale (abstract_scene h t) id.app t.book agree in
      let told : Ascend (stale_of (abstract_scene h t) id.app) list = subst (λ (ids : List ContainerId). Ascend ids list) same ends in
      leaving_joins settings h t k all each (scheds.AttemptRemoved id) rest front (λ q v. refl) causes.Attempt list
      (λ c e. inl (picked_live (goes_told (abstract_scene h t) id.app) h.book c (permuted_has list (stale_of (abstract_scene h t) id.app) c (IsPermutation-sym (stale_of (abstract_scene h t) id.app) list told.same) e)))
      (λ c x l s. permuted_has (stale_of (abstract_scene h t) id.app) list c told.same (live_picked (goes_told (abstract_scene h t) id.app) h.book c (passes c x s) l))
      (removed_lawful list told)
    where
      passes : (c : ContainerId) → is_app id.app c.attempt.app ≡ true → is_stale_in t.tree.apps c ≡ true → goes_told (abstract_scene h t) id.app c ≡ true
      passes c x s =
          let same : is_app c.attempt.app id.app ≡ true = grind (arith, nat_tests) in
          let stale : is_stale (abstract_scene h t) c ≡ true = sym (stale_same (abstract_scene h t) c) ∙ s in
          rw same stale
