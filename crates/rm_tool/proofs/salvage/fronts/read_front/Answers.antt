use Rattle.std.proofs.Common.{◌≡◌, ◌<◌, ℕ, Option, None, Some, List, refl, sym, ◌∙◌, subst}
use Rattle.rm_types.specs.declared.operations.Op.{Op}
use Rattle.rm_journal.specs.Journal.{region_of}
use Rattle.rm_tool.specs.declared.salvage.fronts.Stop.{Stop}
use Rattle.rm_tool.specs.salvage.Fronts.{BeginsFront, FrontStops, StopsBehind}
use Rattle.rm_tool.specs.salvage.Steps.{WentOn}
use Rattle.rm_tool.proofs.salvage.FrontLemmas.{front_to, reads_on, stop_at}
use Rattle.rm_tool.proofs.salvage.fronts.read_front.Goals as goal

none_is : (o : Option Stop) → ((stop : Stop) → o ≡ Some stop → ⊥) → o ≡ None
none_is None never = refl
none_is (Some stop) never = absurd (never stop refl)

pub returns-in-Some-clause-front : goal.returns-in-Some-clause-front
returns-in-Some-clause-front c = λ start heads to.
    let bytes = c.args.disk.now in
    let s = rw c.in-Some.is at c.in_ok-stop.ensures.step in
    let here = subst (λ (b : List ℕ). StopsBehind (region_of c.records.reader.gate c.args.end b) c.records.reader.gate c.records.reader.ops c.in-Some.stop) c.records.invariant.same s.2 in
    subst (BeginsFront (region_of start c.args.end bytes) heads) (sym s.0)
    (front_to bytes start c.args.end heads c.records.reader.gate c.records.reader.ops c.in-Some.stop (c.records.invariant.reads start heads to) here)

pub returns-in-Some-clause-stop : goal.returns-in-Some-clause-stop
returns-in-Some-clause-stop c = λ start heads to.
    let bytes = c.args.disk.now in
    let s = rw c.in-Some.is at c.in_ok-stop.ensures.step in
    let here = subst (λ (b : List ℕ). StopsBehind (region_of c.records.reader.gate c.args.end b) c.records.reader.gate c.records.reader.ops c.in-Some.stop) c.records.invariant.same s.2 in
    subst (λ (l : List Op). FrontStops (region_of start c.args.end bytes) start heads l c.in-Some.stop) (sym s.0)
    (stop_at bytes start c.args.end heads c.records.reader.gate c.records.reader.ops c.in-Some.stop (c.records.invariant.reads start heads to) here)

pub records-preserved : goal.records-preserved
records-preserved c =
    let bytes = c.args.disk.now in
    let went = rw (none_is c.in_ok-stop.field-0 c.in_default.not-Some) at c.in_ok-stop.ensures.step in
    let on = subst (λ (b : List ℕ). WentOn b c.args.end c.records.reader.gate c.step.new.reader.gate c.records.reader.ops c.step.new.reader.ops c.step.new.reader.tree) c.records.invariant.same went in
    record {
      same = c.step.ensures.same ∙ c.records.invariant.same;
      before = went.room;
      amounts = went.took.amounts;
      reads = λ start heads to.
          reads_on bytes start c.args.end heads c.records.reader.gate c.step.new.reader.gate c.records.reader.ops c.step.new.reader.ops c.step.new.reader.tree (c.records.invariant.reads start heads to) on;
    }
