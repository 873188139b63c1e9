use Rattle.rm_book.proofs.Common.{◌≡◌, not, filter, take, list_any, is_container}
use Rattle.rm_book.specs.Kept.{AreUsed, nodes_shown}
use Rattle.rm_book.proofs.leaving.end_each.Given as goal

abbrev pub invariant-ids : goal.invariant-ids
invariant-ids l = record {
  rest : l.rows ≡ filter (λ row. not (list_any (λ id. is_container id row.id) (take l.id-index l.ids))) l.initial.rows;
  shown : nodes_shown l.nodes.map.entries ≡ nodes_shown l.initial.nodes.map.entries;
  used : AreUsed l.nodes.map.entries l.rows;
}
