-- The tables grant on a node what the judge grants there.
use Rattle.rm_invariant.proofs.Common.{◌≡◌, ℕ, List, [], Bool, ◌&&◌, not, Option, None, Some, filter, map, refl, sym, ◌∙◌, ap, if◌then◌else◌, bytes_eq, Ask, BookRow, Grant, AttemptId, Resource, Settings, pass_list, same_text, attempt_asks, sizes_on, Row, Scene, NodeRow, Tables, is_ready_row, node_row, fitted_on, grants_on, still_waits, PlainNode, PlainRow, SameRows, bare_row, bare_node, plain_row, plain_node}
use Rattle.std.specs.Prelude.{option_map}
use Rattle.std.proofs.lemmas.Simd.{map-map}
use Rattle.rm_types.proofs.TestLemmas.{found_passes}
use Rattle.rm_book.proofs.Lists.{filter_view}
use Rattle.rm_model.specs.Containers.{rows_on}
use Rattle.rm_model.specs.Nodes.{is_ready as ready_told, judged_node as node_told}
use Rattle.rm_model.specs.Passing.{asks_of as asks_told, first_fit_on, pass_of, turns, waits_for_nodes}
use Rattle.rm_model.specs.State.{NodeState}
use Rattle.rm_states.specs.declared.node.states.NodeState.{NodeState as NodePhase}
use Rattle.rm_states.specs.declared.node.states.NodeState.TheVariants as states
use Rattle.rm_refinement.specs.Agreement.{phase_of}
use Rattle.rm_invariant.specs.events.Refines.{Refines}
use Rattle.rm_invariant.specs.events.Asking.{AskersCurrent}
use Rattle.rm_invariant.proofs.events.Turns.{turns_same}

-- the sizes of what stands on a node
pub sizes_same : (name : List ℕ) (rows : List BookRow) (book : List Row) → SameRows rows book → sizes_on name rows ≡ map (λ row. row.size) (rows_on book name)
sizes_same name rows book same =
    sym (map-map size bare_row (filter (λ row. here (bare_row row)) rows))
    ∙ ap (map size) (filter_view bare_row here rows ∙ ap (filter here) same ∙ sym (filter_view plain_row here book))
    ∙ map-map size plain_row (filter (λ row. here (plain_row row)) book)
  where
    size : PlainRow → Resource
    size row = row.size

    here : PlainRow → Bool
    here row = bytes_eq row.node name

-- a node is found by its name
pub found_name : (name : List ℕ) (nodes : List NodeState) (node : NodeState) → node_told nodes name ≡ Some node → node.name ≡ name
found_name name nodes node found = same_text node.name name (found_passes (λ one. bytes_eq one.name name) nodes node found)

-- it is ready on both sides, or on neither
pub ready_same : (state : NodePhase) → is_ready_row state ≡ ready_told (phase_of state)
ready_same states.Absent = refl
ready_same _ = refl

module _ (settings : Settings) (m : Scene) (t : Tables) (recorded : m.records ≡ t.tree) (epoch : m.life.epoch ≡ t.epoch) (same : Refines m.life t) (current : AskersCurrent t) where
  -- what first fit grants
  pub fitted_same : (name : List ℕ) (capability : Option Resource) → fitted_on name capability t ≡ first_fit_on m name capability
  fitted_same name None = refl
  fitted_same name (Some capability) =
      turns_same m t recorded same current (record { node = name; capability = capability; sizes = sizes_on name t.book.rows; epoch = t.epoch })
      ∙ ap (λ (asks : AttemptId → List Ask). pass_list (record { node = name; capability = capability; sizes = sizes_on name t.book.rows; epoch = t.epoch }) asks (turns m)) alike
      ∙ ap (λ (sizes : List Resource). pass_list (record { node = name; capability = capability; sizes = sizes; epoch = t.epoch }) (asks_told m.life.asks) (turns m)) (sizes_same name t.book.rows m.life.book same.rows)
      ∙ ap (λ (n : ℕ). pass_list (record { node = name; capability = capability; sizes = map (λ row. row.size) (rows_on m.life.book name); epoch = n }) (asks_told m.life.asks) (turns m)) (sym epoch)
    where
      alike : attempt_asks t.asks ≡ asks_told m.life.asks
      alike = λ i attempt. same.asks attempt i

  -- the tables grant what the judge grants
  pub pass_same : (name : List ℕ) (row : NodeRow) (node : NodeState) → still_waits t ≡ waits_for_nodes settings m → node_row t.nodes name ≡ Some row → node_told m.life.nodes name ≡ Some node
      → grants_on name row t ≡ pass_of settings m node
  pass_same name row node waits found told =
      ap (λ (capability : Option Resource). if is_ready_row row.state && not (still_waits t) then fitted_on name capability t else []) (ap (λ (n : PlainNode). n.capability) alike)
      ∙ ap (λ (grants : List Grant). if is_ready_row row.state && not (still_waits t) then grants else []) (fitted_same name node.capability)
      ∙ ap (λ (n : List ℕ). if is_ready_row row.state && not (still_waits t) then first_fit_on m n node.capability else []) (sym (found_name name m.life.nodes node told))
      ∙ ap (λ (b : Bool). if b && not (still_waits t) then first_fit_on m node.name node.capability else []) (ready_same row.state ∙ ap (λ (n : PlainNode). ready_told n.phase) alike)
      ∙ ap (λ (b : Bool). if ready_told node.phase && not b then first_fit_on m node.name node.capability else []) waits
    where
      alike : bare_node t.book name row ≡ plain_node node
      alike =
          let both : option_map (bare_node t.book name) (Some row) ≡ option_map plain_node (Some node) =
          ap (option_map (bare_node t.book name)) (sym found) ∙ same.nodes name ∙ ap (option_map plain_node) told in
          cc
