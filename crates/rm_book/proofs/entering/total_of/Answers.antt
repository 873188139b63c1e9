use Rattle.rm_book.proofs.Common.{arith}
use Rattle.rm_book.proofs.Batch.{no_held, sum_more, sum_within}
use Rattle.rm_book.proofs.entering.total_of.Goals as goal

pub overflow_sub-memory_mb : goal.overflow_sub-memory_mb
overflow_sub-memory_mb c =
    let room = sum_within (λ size. size.memory_mb) c.args.list.now c.list.held-index no_held c.list-test.true in
    omega (arith, room, c.requires.0, c.list.invariant.memory_mb)

pub overflow_sub-vcores : goal.overflow_sub-vcores
overflow_sub-vcores c =
    let room = sum_within (λ size. size.vcores) c.args.list.now c.list.held-index no_held c.list-test.true in
    omega (arith, room, c.requires.1, c.list.invariant.vcores)

pub list-preserved : goal.list-preserved
list-preserved c = record {
  memory_mb =
      let room = sum_within (λ size. size.memory_mb) c.args.list.now c.list.held-index no_held c.list-test.true in
      omega (arith, room, c.requires.0, c.list.invariant.memory_mb, sum_more (λ size. size.memory_mb) c.args.list.now c.list.held-index no_held c.list-test.true);
  vcores =
      let room = sum_within (λ size. size.vcores) c.args.list.now c.list.held-index no_held c.list-test.true in
      omega (arith, room, c.requires.1, c.list.invariant.vcores, sum_more (λ size. size.vcores) c.args.list.now c.list.held-index no_held c.list-test.true);
}
