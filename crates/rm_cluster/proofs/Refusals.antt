-- The exits of a `?` where a rule is broken.
use Rattle.std.proofs.Common.{◌≡◌, ℕ, Option, Result, Ok, Err, Some, None}
use Rattle.std.specs.Prelude.{IfErr, IsErrAnd}
use Rattle.std.specs.Option.{ok_or}
use Rattle.serde_json.specs.Data.{Data}
use Rattle.rm_types.specs.declared.settings.Settings.{Settings}
use Rattle.rm_cluster.specs.Rules.{first_broken}
use Rattle.rm_cluster.specs.Clusters.{IsBrokenBy}
use Rattle.rm_cluster.specs.declared.clusters.ClusterError.{ClusterError}
use Rattle.rm_cluster.specs.declared.clusters.ClusterError.TheVariants.{Refused}

-- what `?` returns where the rule of a place found nothing
pub refused_at : {A : Type 0} (file : Data) (result : Result Settings ClusterError) {place : ℕ} {cause error : ClusterError} {found : Option A}
    → IsErrAnd result (λ returned. returned ≡ cause) → Err cause ≡ ok_or found error → found ≡ None → error ≡ Refused place → first_broken file ≡ Some place
    → IfErr result (IsBrokenBy file)
refused_at file (Ok settings) same told none refused broken = tt
refused_at file (Err returned) {place = place} same told none refused broken =
    let plain = rw none at told in
    let e : returned ≡ Refused place = cc in
    rw e broken
