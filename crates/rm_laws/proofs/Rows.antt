-- Each entry changes the rows of the book as the log says.
use Rattle.rm_laws.proofs.Common.{◌≡◌, ℕ, List, [], ◌∷◌, ◌++◌, Bool, true, false, ◌&&◌, not, Option, None, Some, map, filter, fold, refl, sym, ap, subst, ◌∙◌, IsSomeAnd, bytes_eq, list_any-append, Grant, Held, Entry, Opened, Issued, Kept, Served, Absorbed, Pass, Ended, ContainerId, Op, Epoch, App, Attempt, AttemptEnd, AppEnd, Remove, Settings, same_text, LifeState, Manager, NodeState, Row, Scene, scene, opening_state, has_container, is_living, lives_elsewhere, lives_on, is_held, judged_node, row_allocated, row_beaten, row_granted, Allowed, AllowedIn, MayAbsorb, MayPass, after, after_all, life_issues, life_keeps, AllAllowed}
use Rattle.rm_laws.specs.Laws.{lives_on_node, stands_after, stands_by}
use Rattle.rm_model.specs.MasterReplies.{row_kept}
use Rattle.rm_laws.proofs.Lists.{Each, each-map}
use Rattle.rm_laws.proofs.Messages.{Any, Changes, either, served}
use Rattle.rm_laws.proofs.Phases.{state}
use Rattle.rm_laws.proofs.Granting.{AreNew}
use Rattle.rm_laws.proofs.Grants.{made, pass_new}
use Rattle.rm_laws.proofs.Book.{absorbed_by, each_held, found, is_living-filter, lives-filter, lives-granted, lives-map, lives-taken, lives_home, not_taken_apart, taken_home}

module _ (name : List ℕ) (id : ContainerId) where
  -- a life has the container on the node where another does
  abbrev pub Alike : LifeState → LifeState → Type 0
  Alike old new = lives_on new.book name id ≡ lives_on old.book name id

  pub beaten_stays : (on : List ℕ) (running launched : List ContainerId) (row : Row) → ((row_beaten on running launched row).id ≡ row.id) × ((row_beaten on running launched row).node ≡ row.node)
  beaten_stays on running launched row =
      either (λ (x : Row). (x.id ≡ row.id) × (x.node ≡ row.node)) (not (bytes_eq row.node on)) _ _ (refl, refl)
      (either (λ (x : Row). (x.id ≡ row.id) × (x.node ≡ row.node)) (has_container running row.id) _ _ (refl, refl)
      (either (λ (x : Row). (x.id ≡ row.id) × (x.node ≡ row.node)) _ _ _ (refl, refl) (refl, refl)))

  pub row_kept_stays : (told : List ContainerId) (row : Row) → ((row_kept told row).id ≡ row.id) × ((row_kept told row).node ≡ row.node)
  row_kept_stays told row = (refl, refl)

  answered : (m : Scene) → Changes m (Alike m.life) Any
  answered m =
      record {
        nothing = refl;
        gives = λ user one any. refl;
        joins = λ user one submission any new. refl;
        wishes = λ one. refl;
        registered = λ attempt any. refl;
        takes_over = λ attempt kept any. lives-map (row_kept (map (λ one. one.id) kept)) (λ row. row_kept_stays (map (λ one. one.id) kept) row) m.life.book name id;
        allocated = λ attempt ask asks release next grants ended any. lives-map (row_allocated _ _ _) (λ row. (refl, refl)) m.life.book name id;
        finishes = λ attempt text. refl;
        node_registered = λ node registration reply. refl;
        beaten = λ node running done launch reply. lives-map (row_beaten node _ launch) (λ row. beaten_stays node _ launch row) m.life.book name id;
        ticks = λ time. refl;
        node_expires = λ node. refl;
        master_expires = λ attempt. refl;
      }

  kept_rows : (life : LifeState) (op : Op) → Alike life (record (life_keeps life op) { handed = false })
  kept_rows life (Epoch next stamp) = refl
  kept_rows life (App one submission) = refl
  kept_rows life (Attempt one master node) = refl
  kept_rows life (AttemptEnd one how text) = refl
  kept_rows life (AppEnd one how text) = refl
  kept_rows life (Remove one) = refl

  issued_rows : (m : Scene) (op : Op) → Alike m.life (life_issues m op)
  issued_rows m (Epoch next stamp) = refl
  issued_rows m (App one submission) = refl
  issued_rows m (Attempt one master node) = refl
  issued_rows m (AttemptEnd one how text) = refl
  issued_rows m (AppEnd one how text) = refl
  issued_rows m (Remove one) = refl

  module _ (settings : Settings) (kept awaiting : List Op) (blew : Bool) (life : LifeState) where
    abbrev pub Says : Entry → Type 0
    Says e = lives_on_node (after (state kept awaiting blew (Some life)) e).life name id ≡ stands_by name id (lives_on life.book name id) e

    and_comm : (a b : Bool) → (a && b) ≡ (b && a)
    and_comm true true = refl
    and_comm true false = refl
    and_comm false true = refl
    and_comm false false = refl

    absorbed_rows : (on : List ℕ) (taken : List Held) (ended : List ContainerId) (node : Option NodeState) → judged_node life.nodes on ≡ node
        → IsSomeAnd node (λ n. MayAbsorb settings (scene (state kept awaiting blew (Some life)) life) n taken ended) → Says (Absorbed on taken ended)
    absorbed_rows on taken ended None e may = absurd may
    absorbed_rows on taken ended (Some n) e may =
        lives-taken on name id taken (filter (λ row. not (has_container ended row.id)) life.book)
        ∙ rw (lives-filter ended life.book name id, is_living-filter ended life.book id) (absorbed_by (lives_on life.book name id) (has_container ended id) (is_living life.book id) true (is_held taken id) (bytes_eq on name) apart home)
      where
        apart : is_held taken id ≡ true → has_container ended id ≡ false
        apart held = not_taken_apart (scene (state kept awaiting blew (Some life)) life) n taken ended id may.ends held

        home : is_held taken id ≡ true → bytes_eq on name ≡ true → is_living life.book id ≡ true → lives_on life.book name id ≡ true
        home held here living =
            let at : n.name ≡ name = found life.nodes on n e ∙ same_text on name here in
            let all = subst (λ (list : List Held). Each (λ held. lives_elsewhere life.book n.name held.id ≡ false) list) (sym may.takes) (taken_home settings (scene (state kept awaiting blew (Some life)) life) n) in
            let out = each_held (λ x. lives_elsewhere life.book n.name x ≡ false) id taken all held in
            subst (λ (x : List ℕ). lives_on life.book x id ≡ true) at (lives_home life.book n.name id out living)

    passed_rows : (on : List ℕ) (grants : List Grant) (node : Option NodeState) → judged_node life.nodes on ≡ node
        → IsSomeAnd node (λ n. MayPass settings (scene (state kept awaiting blew (Some life)) life) n grants) → Says (Pass on grants)
    passed_rows on grants None e may = absurd may
    passed_rows on grants (Some n) e may =
        let new = subst (AreNew life.epoch n.name (λ attempt. made attempt life.granted)) (sym may.grants_are) (pass_new settings (scene (state kept awaiting blew (Some life)) life) n) in
        let on_node : Each (λ (grant : Grant). grant.node ≡ on) grants = each-map _ _ (λ grant is. is.node_is ∙ found life.nodes on n e) grants new.each in
        list_any-append _ life.book (map row_granted grants) ∙ rw (lives-granted on name id grants on_node) refl

    in_life : (e : Entry) → AllowedIn settings (scene (state kept awaiting blew (Some life)) life) e → Says e
    in_life (Opened landed epoch stamp) may = absurd may
    in_life (Issued op) may = issued_rows (scene (state kept awaiting blew (Some life)) life) op
    in_life (Kept op) may = kept_rows life op
    in_life (Served sender message reply) may = served (scene (state kept awaiting blew (Some life)) life) (Alike life) Any (answered (scene (state kept awaiting blew (Some life)) life)) message reply tt
    in_life (Absorbed node taken ended) may = absorbed_rows node taken ended (judged_node life.nodes node) refl may
    in_life (Pass node grants) may = passed_rows node grants (judged_node life.nodes node) refl may
    in_life (Ended cause list) may = lives-filter list life.book name id ∙ and_comm (not (has_container list id)) (lives_on life.book name id)
    in_life e may = refl

  -- each entry that is allowed
  pub step : (settings : Settings) (kept awaiting : List Op) (blew : Bool) (life : Option LifeState) (e : Entry) → Allowed settings (state kept awaiting blew life) e
      → lives_on_node (after (state kept awaiting blew life) e).life name id ≡ stands_by name id (lives_on_node life name id) e
  step settings kept awaiting blew None (Opened landed epoch stamp) may = refl
  step settings kept awaiting blew None _ may = absurd may
  step settings kept awaiting blew (Some life) e may = in_life settings kept awaiting blew life e may

  walk : (settings : Settings) (s : Manager) (before rest : List Entry) → AllAllowed settings s (before ++ rest) → (stood : Bool) → lives_on_node s.life name id ≡ stood
      → lives_on_node (after_all s before).life name id ≡ fold (stands_by name id) stood before
  walk settings s [] rest allowed stood same = same
  walk settings s (e ∷ before) rest allowed stood same =
      walk settings (after s e) before rest allowed.1 (stands_by name id stood e)
      (step settings s.kept s.awaiting s.blew s.life e allowed.0 ∙ ap (λ (b : Bool). stands_by name id b e) same)

-- the first part of the law of the book
pub rows_are_of_log : (settings : Settings) (opening : List Op) (log : List Entry) → AllAllowed settings (opening_state opening) log
    → (before rest : List Entry) (name : List ℕ) (id : ContainerId) → log ≡ before ++ rest → lives_on_node (after_all (opening_state opening) before).life name id ≡ stands_after name id before
rows_are_of_log settings opening log allowed before rest name id whole =
    walk name id settings (opening_state opening) before rest (subst (AllAllowed settings (opening_state opening)) whole allowed) false refl
