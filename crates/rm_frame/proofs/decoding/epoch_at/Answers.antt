use Rattle.std.proofs.Common.{◌∷◌, []}
use Rattle.std.specs.Int.{w32}
use Rattle.rm_types.specs.declared.limits.TheConstants.{EPOCHS}
use Rattle.rm_frame.specs.Fields.{NumberFrom, stamp_field, epoch_fields}
use Rattle.rm_frame.proofs.Faults.{stops_first, stops_then, passes_on}
use Rattle.rm_frame.proofs.decoding.epoch_at.Goals as goal

pub returns-in_err-next-clause-bad : goal.returns-in_err-next-clause-bad
returns-in_err-next-clause-bad c =
    passes_on epoch_fields c.args.bytes.now c.in_err-next.field-0.0 c.from_residual.result c.from_residual.ensures.1
    (λ left is. stops_first (NumberFrom w32 1 EPOCHS ∷ []) (stamp_field ∷ []) c.args.bytes.now left (c.in_err-next.ensures.bad left is))

pub returns-in_err-stamp-clause-bad : goal.returns-in_err-stamp-clause-bad
returns-in_err-stamp-clause-bad c =
    passes_on epoch_fields c.args.bytes.now c.in_err-stamp.field-0.0 c.from_residual-in_err-stamp.result c.from_residual-in_err-stamp.ensures.1
    (λ left is. stops_then (NumberFrom w32 1 EPOCHS ∷ []) (stamp_field ∷ []) c.args.bytes.now _ c.in_ok-next.rest.now left c.in_ok-next.ensures.read
    (c.in_err-stamp.ensures.bad left is))
