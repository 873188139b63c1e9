-- What is at fault in a store of the old form, by what ends its front.
use Rattle.std.proofs.Common.{◌≡◌, ℕ, List, [], ◌++◌, length, refl, ap, ◌∙◌}
use Rattle.std.specs.Prelude.{IfNone, IfSome}
use Rattle.rm_types.specs.declared.operations.Op.{Op}
use Rattle.rm_formats.specs.Device.{records, journal_records}
use Rattle.rm_tool.specs.declared.salvage.fronts.Stop.{Stop}
use Rattle.rm_tool.specs.declared.salvage.fronts.Stop.TheVariants.{End, NoRecord, NoFrame, Stray, NoArea}
use Rattle.rm_tool.specs.salvage.Checks.{HasOldContent, IsOldFault, front_fault}
use Rattle.rm_tool.specs.salvage.Fronts.{BeginsFront, FrontStops}

pub whole_by : (bytes : List ℕ) (ops : List Op) (stop : Stop) → BeginsFront bytes [] ops → FrontStops bytes 0 [] ops stop → IfNone (front_fault stop (length ops)) (HasOldContent bytes ops)
whole_by bytes ops (End offset) front at = record {
  payloads = at.payloads;
  holds = records at.here.1.gate at.here.1.rest at.here.1.closed at.sizes (at.is ∙ ap (λ (l : List ℕ). journal_records at.payloads ++ l) at.here.1.is);
  reads = at.reads;
  none_stray = front.none_stray;
}
whole_by bytes ops (NoRecord offset) front at = tt
whole_by bytes ops (NoFrame offset) front at = tt
whole_by bytes ops (Stray offset) front at = tt
whole_by bytes ops NoArea front at = absurd at.here

pub fault_by : (bytes : List ℕ) (ops : List Op) (stop : Stop) → BeginsFront bytes [] ops → FrontStops bytes 0 [] ops stop → IfSome (front_fault stop (length ops)) (IsOldFault bytes)
fault_by bytes ops (End offset) front at = tt
fault_by bytes ops (NoRecord offset) front at = record { ops = ops; stop = NoRecord offset; front = front; stops = at; is = refl }
fault_by bytes ops (NoFrame offset) front at = record { ops = ops; stop = NoFrame offset; front = front; stops = at; is = refl }
fault_by bytes ops (Stray offset) front at = record { ops = ops; stop = Stray offset; front = front; stops = at; is = refl }
fault_by bytes ops NoArea front at = tt
