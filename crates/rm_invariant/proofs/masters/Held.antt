-- What the book tells of a container and of all containers of an attempt, and that the tables and the judge find a container on the same node.
use Rattle.rm_invariant.proofs.Common.{◌≡◌, ℕ, ◌||◌, List, [], ◌∷◌, ◌++◌, Bool, true, false, Option, None, Some, refl, sym, ◌∙◌, ap, find, list_any, AttemptId, ContainerId, is_attempt, is_container, BookRow, container_itself, same_container, text_itself, is_living, lives_on, has_container, Row, BookOf, is_of, is_master_of, node_at, PlainRow, SameRows, bare_row, plain_row}
use Rattle.std.proofs.Common.{option_map}
use Rattle.rm_model.specs.Containers.{judged_row as book_row_of}
use Rattle.rm_invariant.specs.apps.View.{set_if}

-- the row's master, twice
pub mine_same : (a b : ContainerId) (master : Option ContainerId) → is_master_of a master ≡ true → is_master_of b master ≡ true → a ≡ b
mine_same a b None h i = cc
mine_same a b (Some one) h i = sym (same_container one a h) ∙ same_container one b i

-- where a container stands, as the judge has it
abbrev pub node_told : List Row → ContainerId → Option (List ℕ)
node_told book c = option_map (λ row. row.node) (book_row_of book c)

-- the tables and the judge find it on the same node, or both nowhere
node_more : (c : ContainerId) (row : BookRow) (rows : List BookRow) (one : Row) (book : List Row) → bare_row row ≡ plain_row one → (b : Bool) → is_container one.id c ≡ b
    → option_map (λ (row : BookRow). row.node) (find (is_of c) rows) ≡ node_told book c
    → option_map (λ (row : BookRow). row.node) (find (is_of c) (row ∷ rows)) ≡ node_told (one ∷ book) c
node_more c row rows one book same true e rest =
    let id : row.id ≡ one.id = ap (λ (x : PlainRow). x.id) same in
    let node : row.node ≡ one.node = ap (λ (x : PlainRow). x.node) same in
    rw (id, e, node) refl
node_more c row rows one book same false e rest =
    let id : row.id ≡ one.id = ap (λ (x : PlainRow). x.id) same in
    rw (id, e) rest

same_rows : (rows : List BookRow) (book : List Row) (c : ContainerId) → SameRows rows book → option_map (λ (row : BookRow). row.node) (find (is_of c) rows) ≡ node_told book c
same_rows [] [] c same = refl
same_rows [] (one ∷ book) c same = cc
same_rows (row ∷ rows) [] c same = cc
same_rows (row ∷ rows) (one ∷ book) c same =
    let first : bare_row row ≡ plain_row one = cc in
    let more : SameRows rows book = cc in
    node_more c row rows one book first (is_container one.id c) refl (same_rows rows book c more)

-- for a whole book
pub same_node : (book : BookOf) (told : List Row) (c : ContainerId) → SameRows book.rows told → node_at book c ≡ node_told told c
same_node book told c same = same_rows book.rows told c same

-- a row that is found lives, on its node
pub record IsOnNode (book : List Row) (c : ContainerId) (node : List ℕ) : Type 0 where
  pub living : is_living book c ≡ true
  pub on : lives_on book node c ≡ true

stands_more : (row : Row) (rows : List Row) (c : ContainerId) (node : List ℕ) (b : Bool) → is_container row.id c ≡ b → node_told (row ∷ rows) c ≡ Some node → (node_told rows c ≡ Some node → IsOnNode rows c node) → IsOnNode (row ∷ rows) c node
stands_more row rows c node true e is rest =
    let here : Some row.node ≡ Some node = rw e at is in
    let same : row.node ≡ node = cc in
    record { living = rw e refl; on = rw (e, same, text_itself node) refl }
stands_more row rows c node false e is rest =
    let r = rest (rw e at is) in
    record { living = rw e r.living; on = rw e r.on }

-- the book tells where it stands
pub stands : (book : List Row) (c : ContainerId) (node : List ℕ) → node_told book c ≡ Some node → IsOnNode book c node
stands [] c node is = cc
stands (row ∷ rows) c node is = stands_more row rows c node (is_container row.id c) refl is (stands rows c node)

absent_more : (row : Row) (rows : List Row) (c : ContainerId) (b : Bool) → is_container row.id c ≡ b → node_told (row ∷ rows) c ≡ None → (node_told rows c ≡ None → is_living rows c ≡ false) → is_living (row ∷ rows) c ≡ false
absent_more row rows c true e is rest = absurd (let x = rw e at is in cc)
absent_more row rows c false e is rest = rw e (rest (rw e at is))

-- where it tells nothing it doesn't live
pub absent : (book : List Row) (c : ContainerId) → node_told book c ≡ None → is_living book c ≡ false
absent [] c is = refl
absent (row ∷ rows) c is = absent_more row rows c (is_container row.id c) refl is (absent rows c)

-- an attempt no container of which lives has none
held_more : (row : Row) (rows : List Row) (q : AttemptId) (b d : Bool) → is_attempt row.id.attempt q ≡ b → is_container row.id row.id ≡ d → ((c : ContainerId) → is_attempt c.attempt q ≡ true → is_living (row ∷ rows) c ≡ false)
    → (((c : ContainerId) → is_attempt c.attempt q ≡ true → is_living rows c ≡ false) → list_any (λ row. is_attempt row.id.attempt q) rows ≡ false) → list_any (λ row. is_attempt row.id.attempt q) (row ∷ rows) ≡ false
held_more row rows q true d e f none rest = absurd (let x = none row.id e in let y = container_itself row.id in let z = rw y at x in cc)
held_more row rows q false d e f none rest = rw e (rest (λ c is. later (is_container row.id c) (none c is)))
  where
    later : (a : Bool) {b : Bool} → (a || b) ≡ false → b ≡ false
    later true n = cc
    later false n = n

-- so that the attempt holds none
pub none_held : (book : List Row) (q : AttemptId) → ((c : ContainerId) → is_attempt c.attempt q ≡ true → is_living book c ≡ false) → list_any (λ row. is_attempt row.id.attempt q) book ≡ false
none_held [] q none = refl
none_held (row ∷ rows) q none = held_more row rows q (is_attempt row.id.attempt q) (is_container row.id row.id) refl refl none (none_held rows q)

-- one more container of a list
more_container : (one : ContainerId) (ids : List ContainerId) (id q : ContainerId) (b : Bool) → is_container one q ≡ b → has_container (ids ++ id ∷ []) q ≡ set_if (is_container id q) (has_container ids q)
    → has_container ((one ∷ ids) ++ id ∷ []) q ≡ set_if (is_container id q) (has_container (one ∷ ids) q)
more_container one ids id q true e h = rw e (by (is_container id q))
  where
    by : (b : Bool) → true ≡ set_if b true
    by true = refl
    by false = refl
more_container one ids id q false e h = rw e h

-- and of the ids of containers
pub has_end : (ids : List ContainerId) (id q : ContainerId) → has_container (ids ++ id ∷ []) q ≡ set_if (is_container id q) (has_container ids q)
has_end [] id q = by (is_container id q) refl
  where
    by : (b : Bool) → is_container id q ≡ b → has_container (id ∷ []) q ≡ set_if b false
    by true e = rw e refl
    by false e = rw e refl
has_end (one ∷ ids) id q = more_container one ids id q (is_container one q) refl (has_end ids id q)

-- the row's master is this container: another is it where it is this one
pub mine_is : (c d : ContainerId) (master : Option ContainerId) → is_master_of c master ≡ true → is_master_of d master ≡ is_container c d
mine_is c d None h = cc
mine_is c d (Some one) h = ap (λ (x : ContainerId). is_container x d) (same_container one c h)

-- the row's master by name
pub mine_of : (a c : ContainerId) (master : Option ContainerId) → master ≡ Some c → is_master_of a master ≡ true → a ≡ c
mine_of a c None e m = cc
mine_of a c (Some one) e m = let same : one ≡ c = cc in sym (same_container one a m) ∙ same
