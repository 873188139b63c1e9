use Rattle.std.proofs.Common.{◌∷◌, []}
use Rattle.std.specs.Prelude.{slice_index}
use Rattle.std.proofs.lemmas.Result.{IfErr-weaker}
use Rattle.rm_formats.specs.Frames.{kind_code}
use Rattle.rm_frame.specs.Fields.{fields_of, kind_field, layout}
use Rattle.rm_frame.specs.Reads.{StopsBy}
use Rattle.rm_frame.proofs.Faults.{stops_first, layout_stops, passes_on}
use Rattle.rm_frame.proofs.decoding.op_at.Goals as goal

pub returns-in_err-kind-clause-bad : goal.returns-in_err-kind-clause-bad
returns-in_err-kind-clause-bad c =
    passes_on (layout c.args.bytes.now) c.args.bytes.now c.in_err-kind.field-0.0 c.from_residual.result c.from_residual.ensures.1
    (λ left is. stops_first (kind_field ∷ []) (fields_of (slice_index c.args.bytes.now 0)) c.args.bytes.now left (c.in_err-kind.ensures.bad left is))

pub returns-clause-bad : goal.returns-clause-bad
returns-clause-bad c =
    IfErr-weaker c.fields_at.result (StopsBy (fields_of (kind_code c.in_ok-kind.kind)) c.in_ok-kind.rest.now) (StopsBy (layout c.args.bytes.now) c.args.bytes.now)
    (λ error stops. λ left is. layout_stops (kind_code c.in_ok-kind.kind) c.args.bytes.now c.in_ok-kind.rest.now left c.in_ok-kind.ensures.read (stops left is))
    c.fields_at.ensures.bad
