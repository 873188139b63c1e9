-- A pass answers the beat of a node: the tables agree with the judge's life again.
use Rattle.rm_invariant.proofs.Common.{ℕ, List, ◌++◌, map, Grant, with_grants, has_app, passed, passes, Scene, Tables, passed_with, tidied_same}
use Rattle.rm_model.specs.Nodes.{with_judged_node as with_told}
use Rattle.rm_model.specs.Passing.{row_granted as row_told}
use Rattle.rm_invariant.specs.events.Refines.{Refines}
use Rattle.rm_invariant.specs.events.Asking.{AreNext}
use Rattle.rm_invariant.proofs.events.Answered.{asks_answered}
use Rattle.rm_invariant.proofs.events.Granting.{closings_passed, masters_passed, nodes_passed, rows_passed}

module _ (m : Scene) (t : Tables) (same : Refines m.life t) (name : List ℕ) where
  -- the tables agree with the life after these grants
  pub passed_agrees : (grants : List Grant) → AreNext t.rows m.life.granted grants → Refines (passes m name grants) (passed_with grants t)
  passed_agrees grants next =
      record {
        rows = rows_passed t.book m.life.book grants same.rows;
        nodes =
            tidied_same (with_grants t.book grants) t.nodes (m.life.book ++ map row_told grants) (with_told passed name m.life.nodes)
            (nodes_passed t.book t.nodes m.life.nodes name grants same.nodes);
        asks = asks_answered grants t.asks m.life.asks same.asks;
        closings = λ id. closings_passed m.life.endings.outbox id (has_app m.life.apps.retired id) grants t.rows (same.closings id);
        masters = λ attempt. masters_passed m.life.masters.registered (has_app m.life.apps.retired attempt.app) attempt grants m.life.granted t.rows next (same.masters attempt);
      }
