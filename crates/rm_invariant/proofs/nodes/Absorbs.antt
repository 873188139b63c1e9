-- What holds of the book after a node's report was absorbed.
use Rattle.rm_invariant.proofs.Common.{◌≡◌, ◌⊎◌, inl, inr, ℕ, ◌<◌, List, [], ◌∷◌, ◌++◌, Bool, true, false, not, ◌&&◌, ◌||◌, Option, None, Some, filter, fold, map, refl, sym, ◌∙◌, ap, subst, arith, if◌then◌else◌, bytes_eq, false≢true, or_right, not-true, nat_tests, list_any-append, Held, ContainerId, is_container, and_first, container_itself, same_container, absorbed, as_booked, as_counted, as_reported, row_absorbed, row_taken, taken_of, is_held, attempt_was_first, is_living, leave, lives_on, without_launches, has_container, judged_node, with_judged_node, LifeState, Row, Scene}
use Rattle.std.proofs.Common.{nat_lt}
use Rattle.std.specs.Prelude.{is_some, option_map, option_and_then}
use Rattle.std.proofs.lemmas.Bool.{or_left}
use Rattle.rm_types.specs.declared.containers.Cause.TheVariants.{Gone}
use Rattle.rm_book.specs.Books.{AreOnce}
use Rattle.rm_book.proofs.TakenRows.{held_filter}
use Rattle.rm_model.specs.Absorbing.{may_take, with_counted, with_taken}
use Rattle.rm_model.specs.Containers.{is_pending, judged_row}
use Rattle.rm_model.specs.State.{NodeState}
use Rattle.rm_types.specs.declared.settings.Settings.{Settings}
use Rattle.rm_sched.proofs.Absorbable.{once_more}
use Rattle.rm_invariant.specs.nodes.Book.{All, LivingRowsAreApart, AreLaunches, BookInvariant, IsAbsorbed, BookRowInvariant}
use Rattle.rm_invariant.proofs.nodes.Entries.{KeepsPlace, taken_place}
use Rattle.rm_invariant.proofs.nodes.Holds.{all_append, all_map, leave_holds, lives_still, living_granted}
use Rattle.rm_invariant.proofs.nodes.Moved.{name_of, node_of-map}
use Rattle.rm_invariant.proofs.masters.LeavingEvents.{lives_there}
use Rattle.rm_invariant.proofs.masters.Tests.{and_right}

-- TESTS

-- WHAT IS TAKEN OF A REPORT

module _ (settings : Settings) (m : Scene) (node : NodeState) where
  -- it lives on the node, or an earlier life granted it
  abbrev pub IsOld : ContainerId → Type 0
  IsOld id = (lives_on m.life.book node.name id ≡ true) ⊎ (nat_lt id.epoch m.life.epoch ≡ true)

  abbrev pub IsOldHeld : Held → Type 0
  IsOldHeld held = IsOld held.id

  -- one that counts is so
  abbrev Counts : Option Held → Type 0
  Counts None = Unit {0}
  Counts (Some held) = IsOldHeld held

  row_is : (book : List Row) (c : ContainerId) (row : Row) → judged_row book c ≡ Some row → row.id ≡ c
  row_is [] c row e = cc
  row_is (one ∷ book) c row e = by (is_container one.id c) refl (row_is book c row)
    where
      by : (b : Bool) → is_container one.id c ≡ b → (judged_row book c ≡ Some row → row.id ≡ c) → row.id ≡ c
      by true f h = let same : one ≡ row = let x = rw f at e in cc in subst (λ (r : Row). r.id ≡ c) same (same_container one.id c f)
      by false f h = h (rw f at e)

  booked_counts : (held : Held) → Counts (as_booked m node held)
  booked_counts held = by (lives_on m.life.book node.name held.id) refl (judged_row m.life.book held.id) refl
    where
      by : (b : Bool) → lives_on m.life.book node.name held.id ≡ b → (o : Option Row) → judged_row m.life.book held.id ≡ o → Counts (as_booked m node held)
      by false e o f = rw e tt
      by true e None f = rw (e, f) tt
      by true e (Some row) f =
          let same : row.id ≡ held.id = row_is m.life.book held.id row f in
          let lives : lives_on m.life.book node.name row.id ≡ true = rw same e in rw (e, f) (inl lives)

  reported_counts : (held : Held) → Counts (as_reported m held)
  reported_counts held = by (nat_lt held.id.epoch m.life.epoch) (attempt_was_first m held.id.attempt) refl refl
    where
      by : (a b : Bool) → nat_lt held.id.epoch m.life.epoch ≡ a → attempt_was_first m held.id.attempt ≡ b → Counts (as_reported m held)
      by true true e f = rw (e, f) (inr e)
      by true false e f = rw (e, f) tt
      by false b e f = rw e tt

  counted : (held : Held) → Counts (as_counted m node held)
  counted held = by (is_some node.capability) refl
    where
      by : (b : Bool) → is_some node.capability ≡ b → Counts (as_counted m node held)
      by true e = rw e (booked_counts held)
      by false e = rw e (reported_counts held)

  -- each of them is so, and each is taken once
  abbrev pub WellTaken : List Held → Type 0
  WellTaken taken = All IsOldHeld taken × AreOnce taken

  one_taken : (taken : List Held) (o : Option Held) → Counts o → WellTaken taken → WellTaken (with_counted settings m node taken o)
  one_taken taken None c well = well
  one_taken taken (Some held) c well = by (may_take settings m node taken held) refl
    where
      by : (b : Bool) → may_take settings m node taken held ≡ b → WellTaken (with_counted settings m node taken (Some held))
      by false e = rw e well
      by true e =
          let none : is_held taken held.id ≡ false = not-true (is_held taken held.id) (and_first (not (is_held taken held.id)) _ (and_right (not (is_pending settings m held.id)) _ e)) in
          rw e (all_append IsOldHeld taken (held ∷ []) well.0 (c, tt), once_more taken held well.1 none)

  fold_taken : (running taken : List Held) → WellTaken taken → WellTaken (fold (λ taken held. with_counted settings m node taken (as_counted m node held)) taken running)
  fold_taken [] taken well = well
  fold_taken (held ∷ running) taken well = fold_taken running (with_counted settings m node taken (as_counted m node held)) (one_taken taken (as_counted m node held) (counted held) well)

  pub well_taken : WellTaken (taken_of settings m node)
  well_taken = fold_taken node.last.running [] (tt, tt)

-- ROWS APART

-- rows that change, but not their ids and nodes, live as they did
living_change : (change : Row → Row) → KeepsPlace change → (rows : List Row) (id : ContainerId) → is_living (map change rows) id ≡ is_living rows id
living_change change k [] id = refl
living_change change k (row ∷ rows) id = let own = (k row).0 in let more = living_change change k rows id in rw (own, more) refl

lives_change : (change : Row → Row) → KeepsPlace change → (rows : List Row) (name : List ℕ) (id : ContainerId) → lives_on (map change rows) name id ≡ lives_on rows name id
lives_change change k [] name id = refl
lives_change change k (row ∷ rows) name id = let own = k row in let more = lives_change change k rows name id in rw (own.0, own.1, more) refl

apart_change : (change : Row → Row) → KeepsPlace change → (rows : List Row) → LivingRowsAreApart rows → LivingRowsAreApart (map change rows)
apart_change change k [] apart = tt
apart_change change k (row ∷ rows) apart =
    (living_change change k rows (change row).id ∙ ap (is_living rows) (k row).0 ∙ apart.0, apart_change change k rows apart.1)

-- what enters lives where it is one of those that are taken
living_entered : (name : List ℕ) (list : List Held) (id : ContainerId) → is_living (map (row_absorbed name) list) id ≡ is_held list id
living_entered name [] id = refl
living_entered name (held ∷ list) id = ap (λ (b : Bool). is_container held.id id || b) (living_entered name list id)

apart_entered : (name : List ℕ) (list : List Held) → AreOnce list → LivingRowsAreApart (map (row_absorbed name) list)
apart_entered name [] once = tt
apart_entered name (held ∷ list) once = (living_entered name list held.id ∙ once.0, apart_entered name list once.1)

-- fewer of them are no two of one container
once_less : (p : Held → Bool) (list : List Held) → AreOnce list → AreOnce (filter p list)
once_less p [] once = tt
once_less p (held ∷ list) once = by (p held) refl (once_less p list once.1)
  where
    by : (b : Bool) → p held ≡ b → AreOnce (filter p list) → AreOnce (filter p (held ∷ list))
    by true e rest = rw e (held_filter p list held.id once.0, rest)
    by false e rest = rw e rest

-- what lives does not enter
not_entering : (book : List Row) (list : List Held) (id : ContainerId) → is_living book id ≡ true → is_held (filter (λ held. not (is_living book held.id)) list) id ≡ false
not_entering book [] id lives = refl
not_entering book (held ∷ list) id lives = by (is_living book held.id) (is_container held.id id) refl refl (not_entering book list id lives)
  where
    by : (b c : Bool) → is_living book held.id ≡ b → is_container held.id id ≡ c → is_held (filter (λ held. not (is_living book held.id)) list) id ≡ false → is_held (filter (λ held. not (is_living book held.id)) (held ∷ list)) id ≡ false
    by true c e f rest = rw e rest
    by false true e f rest = absurd (let same : held.id ≡ id = same_container held.id id f in let own : is_living book held.id ≡ true = rw same lives in false≢true (sym e ∙ own))
    by false false e f rest = rw (e, f) rest

-- rows behind rows of other containers
apart_append : (rows more : List Row) → LivingRowsAreApart rows → LivingRowsAreApart more → ((id : ContainerId) → is_living rows id ≡ true → is_living more id ≡ false) → LivingRowsAreApart (rows ++ more)
apart_append [] more apart others none = others
apart_append (row ∷ rows) more apart others none =
    let split : is_living (rows ++ more) row.id ≡ (is_living rows row.id || is_living more row.id) = list_any-append (λ (one : Row). is_container one.id row.id) rows more in
    let own : is_living (row ∷ rows) row.id ≡ true = or_left (is_container row.id row.id) (is_living rows row.id) (container_itself row.id) in (
      split ∙ rw (apart.0, none row.id own) refl,
      apart_append rows more apart.1 others (λ id lives. none id (or_right (is_container row.id id) (is_living rows id) lives)),
    )

-- NODES

-- a node as it is changed by an absorption on this name
abbrev absorbed_at : List ℕ → NodeState → NodeState
absorbed_at name one = if bytes_eq one.name name then absorbed one else one

keeps_name : (name : List ℕ) (one : NodeState) → (absorbed_at name one).name ≡ one.name
keeps_name name one = by (bytes_eq one.name name) refl
  where
    by : (b : Bool) → bytes_eq one.name name ≡ b → (absorbed_at name one).name ≡ one.name
    by true e = rw e refl
    by false e = rw e refl

-- a node that was absorbed still is
absorbed_more : (name : List ℕ) (nodes : List NodeState) (q : List ℕ) → IsAbsorbed nodes q → IsAbsorbed (with_judged_node absorbed name nodes) q
absorbed_more name nodes q h = rw (node_of-map (absorbed_at name) (keeps_name name) nodes q) (by (judged_node nodes q) h)
  where
    offers : (one : NodeState) (b : Bool) → bytes_eq one.name name ≡ b → is_some one.capability ≡ true → is_some (absorbed_at name one).capability ≡ true
    offers one true e k = rw e refl
    offers one false e k = rw e k

    by : (o : Option NodeState) → is_some (option_and_then (λ (one : NodeState). one.capability) o) ≡ true → is_some (option_and_then (λ (one : NodeState). one.capability) (option_map (absorbed_at name) o)) ≡ true
    by None k = k
    by (Some one) k = offers one (bytes_eq one.name name) refl k

-- and the node itself is
absorbed_now : (name : List ℕ) (nodes : List NodeState) (node : NodeState) → judged_node nodes name ≡ Some node → bytes_eq node.name name ≡ true → IsAbsorbed (with_judged_node absorbed name nodes) name
absorbed_now name nodes node there own = rw (node_of-map (absorbed_at name) (keeps_name name) nodes name, there, own) refl

-- ALL FACTS OF THE BOOK

-- the report of a node is absorbed: these are taken of it, and these leave
module _ (settings : Settings) (m : Scene) (more : ContainerId → Type 0) (name : List ℕ) (node : NodeState) (there : judged_node m.life.nodes name ≡ Some node) (taken : List Held) (ended : List ContainerId)
    (takes : taken ≡ taken_of settings m node) (living : All (λ id. is_living m.life.book id ≡ true) ended) (stay : All (λ held. has_container ended held.id ≡ false) taken)
    (said : All (λ held. more held.id) taken) (before : BookInvariant m.life more) where
  abbrev left : LifeState
  left = leave m Gone ended

  abbrev now : LifeState
  now = with_taken name taken left

  abbrev entering : List Held
  entering = filter (λ held. not (is_living left.book held.id)) taken

  gone : BookInvariant left more
  gone = leave_holds m Gone ended more (living_granted m.life more ended living before) before

  well : WellTaken settings m node taken
  well = subst (λ (list : List Held). WellTaken settings m node list) (sym takes) (well_taken settings m node)

  own_name : bytes_eq node.name name ≡ true
  own_name = name_of m.life.nodes name node there

  -- what stood there runs
  stood : (row : Row) → BookRowInvariant left more row → BookRowInvariant now more (row_taken taken row)
  stood row k =
      let place = taken_place taken row in
      let moved : BookRowInvariant now more row = (absorbed_more name left.nodes row.node k.0, k.1, k.2, k.3) in
      rw (place.0, place.1) moved

  -- what enters is of an earlier life
  entered : (held : Held) → is_living left.book held.id ≡ false → has_container ended held.id ≡ false → IsOldHeld settings m node held → more held.id → BookRowInvariant now more (row_absorbed name held)
  entered held out stays (inl lives) says = absurd (false≢true (sym out ∙ lives_there left.book node.name held.id (lives_still ended m.life.book node.name held.id stays lives)))
  entered held out stays (inr old) says =
      let less : held.id.epoch < m.life.epoch = grind (arith, nat_tests) in (
        absorbed_now name left.nodes (without_launches ended node) (node_of-map (without_launches ended) (λ one. refl) m.life.nodes name ∙ rw there refl) own_name,
        λ same. absurd (omega (arith, same, less)),
        λ same. absurd (omega (arith, same, less)),
        says,
      )

  all_entered : (list : List Held) → All (IsOldHeld settings m node) list → All (λ held. has_container ended held.id ≡ false) list → All (λ held. more held.id) list
      → All (BookRowInvariant now more) (map (row_absorbed name) (filter (λ held. not (is_living left.book held.id)) list))
  all_entered [] old stays says = tt
  all_entered (held ∷ list) old stays says = by (is_living left.book held.id) refl (all_entered list old.1 stays.1 says.1)
    where
      by : (b : Bool) → is_living left.book held.id ≡ b → All (BookRowInvariant now more) (map (row_absorbed name) (filter (λ one. not (is_living left.book one.id)) list))
          → All (BookRowInvariant now more) (map (row_absorbed name) (filter (λ one. not (is_living left.book one.id)) (held ∷ list)))
      by true e rest = rw e rest
      by false e rest = rw e (entered held e stays.0 old.0 says.0, rest)

  -- what is to be launched lives on
  lives_now : (q : List ℕ) (id : ContainerId) → lives_on left.book q id ≡ true → lives_on now.book q id ≡ true
  lives_now q id lives =
      let split : lives_on now.book q id ≡ (lives_on (map (row_taken taken) left.book) q id || lives_on (map (row_absorbed name) entering) q id) =
      list_any-append (λ (row : Row). is_container row.id id && bytes_eq row.node q) (map (row_taken taken) left.book) (map (row_absorbed name) entering) in
      split ∙ or_left _ (lives_on (map (row_absorbed name) entering) q id) (lives_change (row_taken taken) (taken_place taken) left.book q id ∙ lives)

  launched : (one : NodeState) → AreLaunches left.book one → AreLaunches now.book (absorbed_at name one)
  launched one k = by (bytes_eq one.name name) refl
    where
      still : (ids : List ContainerId) → All (λ id. lives_on left.book one.name id ≡ true) ids → All (λ id. lives_on now.book one.name id ≡ true) ids
      still [] h = tt
      still (id ∷ ids) h = (lives_now one.name id h.0, still ids h.1)

      by : (b : Bool) → bytes_eq one.name name ≡ b → AreLaunches now.book (absorbed_at name one)
      by true e = rw e (still one.launches k)
      by false e = rw e (still one.launches k)

  -- what holds of the book holds after it
  pub taken_holds : BookInvariant now more
  taken_holds =
      record {
        apart =
            apart_append (map (row_taken taken) left.book) (map (row_absorbed name) entering) (apart_change (row_taken taken) (taken_place taken) left.book gone.apart)
            (apart_entered name entering (once_less (λ held. not (is_living left.book held.id)) taken well.1))
            (λ id lives. living_entered name entering id ∙ not_entering left.book taken id (sym (living_change (row_taken taken) (taken_place taken) left.book id) ∙ lives));
        rows =
            all_append (BookRowInvariant now more) (map (row_taken taken) left.book) (map (row_absorbed name) entering)
            (all_map (BookRowInvariant left more) (BookRowInvariant now more) (row_taken taken) stood left.book gone.rows) (all_entered taken well.0 stay said);
        left = gone.left;
        launches = all_map (AreLaunches left.book) (AreLaunches now.book) (absorbed_at name) launched left.nodes gone.launches;
      }
