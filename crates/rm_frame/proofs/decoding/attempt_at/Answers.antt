use Rattle.std.proofs.Common.{◌∷◌, [], ◌++◌, ◌-◌}
use Rattle.std.specs.Int.{w32, w64}
use Rattle.rm_types.specs.declared.texts.TextKind.TheVariants.{Node}
use Rattle.rm_types.specs.declared.limits.TheConstants.{EPOCHS, SEQUENCES}
use Rattle.rm_formats.specs.declared.codes.TheConstants.{ATTEMPT_CODE}
use Rattle.rm_frame.specs.Fields.{NumberFrom, TextOf, attempt_id_fields, fields_of}
use Rattle.rm_frame.proofs.Faults.{stops_first, stops_then, passes_on}
use Rattle.rm_frame.proofs.decoding.attempt_at.Goals as goal

pub returns-in_err-id-clause-bad : goal.returns-in_err-id-clause-bad
returns-in_err-id-clause-bad c =
    passes_on (fields_of ATTEMPT_CODE) c.args.bytes.now c.in_err-id.field-0.0 c.from_residual.result c.from_residual.ensures.1
    (λ left is. stops_first attempt_id_fields ((NumberFrom w32 0 (EPOCHS - 1) ∷ []) ++ ((NumberFrom w64 1 (SEQUENCES - 1) ∷ []) ++ (TextOf Node ∷ []))) c.args.bytes.now left (c.in_err-id.ensures.bad left is))

pub returns-in_err-epoch-clause-bad : goal.returns-in_err-epoch-clause-bad
returns-in_err-epoch-clause-bad c =
    passes_on (fields_of ATTEMPT_CODE) c.args.bytes.now c.in_err-epoch.field-0.0 c.from_residual-in_err-epoch.result c.from_residual-in_err-epoch.ensures.1
    (λ left is. stops_then attempt_id_fields ((NumberFrom w32 0 (EPOCHS - 1) ∷ []) ++ ((NumberFrom w64 1 (SEQUENCES - 1) ∷ []) ++ (TextOf Node ∷ []))) c.args.bytes.now _ c.in_ok-id.rest.now left c.in_ok-id.ensures.read
    (stops_first (NumberFrom w32 0 (EPOCHS - 1) ∷ []) ((NumberFrom w64 1 (SEQUENCES - 1) ∷ []) ++ (TextOf Node ∷ [])) c.in_ok-id.rest.now left (c.in_err-epoch.ensures.bad left is)))

pub returns-in_err-seq-clause-bad : goal.returns-in_err-seq-clause-bad
returns-in_err-seq-clause-bad c =
    passes_on (fields_of ATTEMPT_CODE) c.args.bytes.now c.in_err-seq.field-0.0 c.from_residual-in_err-seq.result c.from_residual-in_err-seq.ensures.1
    (λ left is. stops_then attempt_id_fields ((NumberFrom w32 0 (EPOCHS - 1) ∷ []) ++ ((NumberFrom w64 1 (SEQUENCES - 1) ∷ []) ++ (TextOf Node ∷ []))) c.args.bytes.now _ c.in_ok-id.rest.now left c.in_ok-id.ensures.read
    (stops_then (NumberFrom w32 0 (EPOCHS - 1) ∷ []) ((NumberFrom w64 1 (SEQUENCES - 1) ∷ []) ++ (TextOf Node ∷ [])) c.in_ok-id.rest.now _ c.in_ok-epoch.rest.now left c.in_ok-epoch.ensures.read
    (stops_first (NumberFrom w64 1 (SEQUENCES - 1) ∷ []) (TextOf Node ∷ []) c.in_ok-epoch.rest.now left (c.in_err-seq.ensures.bad left is))))

pub returns-in_err-node-clause-bad : goal.returns-in_err-node-clause-bad
returns-in_err-node-clause-bad c =
    passes_on (fields_of ATTEMPT_CODE) c.args.bytes.now c.in_err-node.field-0.0 c.from_residual-in_err-node.result c.from_residual-in_err-node.ensures.1
    (λ left is. stops_then attempt_id_fields ((NumberFrom w32 0 (EPOCHS - 1) ∷ []) ++ ((NumberFrom w64 1 (SEQUENCES - 1) ∷ []) ++ (TextOf Node ∷ []))) c.args.bytes.now _ c.in_ok-id.rest.now left c.in_ok-id.ensures.read
    (stops_then (NumberFrom w32 0 (EPOCHS - 1) ∷ []) ((NumberFrom w64 1 (SEQUENCES - 1) ∷ []) ++ (TextOf Node ∷ [])) c.in_ok-id.rest.now _ c.in_ok-epoch.rest.now left c.in_ok-epoch.ensures.read
    (stops_then (NumberFrom w64 1 (SEQUENCES - 1) ∷ []) (TextOf Node ∷ []) c.in_ok-epoch.rest.now _ c.in_ok-seq.rest.now left c.in_ok-seq.ensures.read
    (c.in_err-node.ensures.bad left is))))
