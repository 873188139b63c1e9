use Rattle.std.proofs.Common.{List, sym, ◌∙◌, subst}
use Rattle.rm_types.specs.declared.operations.Op.{Op}
use Rattle.rm_tool.specs.salvage.Writes.{HoldsAll}
use Rattle.rm_tool.specs.declared.outcomes.ToolOutcome.TheVariants.{Done}
use Rattle.rm_tool.specs.Runs.{Salvages}
use Rattle.rm_tool.proofs.Comings.{either_page}
use Rattle.rm_tool.proofs.Moments.{store_written}
use Rattle.rm_tool.proofs.tool.salvage_file.Goals as goal

pub returns-in_default-kept_operations-clause-comes : goal.returns-in_default-kept_operations-clause-comes
returns-in_default-kept_operations-clause-comes g c =
    subst (Salvages (g.F.Shelf.bytes_of c.args.shelf.now c.args.file.now) (g.D.Disk.view c.args.new.now)) (sym c.stopped-in_default-kept_operations.ensures) tt

pub returns-in-Ok-write_anew-clause-comes : goal.returns-in-Ok-write_anew-clause-comes
returns-in-Ok-write_anew-clause-comes g c =
    let told = g.F.Shelf.bytes_of c.args.shelf.now c.args.file.now in
    let v = g.D.Disk.view c.write_anew.new.disk in
    let read = c.in-Ok-salvage.field-0 in
    either_page (Salvages told v) Done c.with_page.result.outcome c.with_page.ensures
    (record {
      read_bytes = c.in-Ok.bytes.items;
      read = c.in-Ok.ensures.bytes;
      bytes = c.new-disk.result;
      are = c.new-disk.ensures ∙ c.from_vec.ensures ∙ c.in-Ok-bring_to_size.ensures;
      form = read.form;
      of_form = c.in-Ok-salvage.ensures.form;
      ops = read.ops;
      front = c.in-Ok-salvage.ensures.front;
      longest = c.in-Ok-salvage.ensures.longest;
      stop = read.stop;
      stops = c.in-Ok-salvage.ensures.stop;
      holds = subst (λ (l : List Op). HoldsAll v l) c.in-Ok-kept_operations.ensures.left c.in-Ok-write_anew.ensures.written;
    })
    tt

pub returns-clause-any_moment : goal.returns-clause-any_moment
returns-clause-any_moment g c = store_written _ (g.D.Disk.view c.args.new.now) (g.D.Disk.view c.write_anew.new.disk) c.write_anew.ensures.any_moment
