-- An error that is passed on.
use Rattle.std.proofs.Common.{◌≡◌, Result, Ok, Err, sym, subst}
use Rattle.std.specs.Prelude.{IfErr}
use Rattle.std.specs.Result.{IsErrAnd}

pub passed_on : {X E : Type 0} (P : E → Type 0) (error : E) (result : Result X E) → IsErrAnd result (λ other. other ≡ error) → P error → IfErr result P
passed_on P error (Ok x) same p = tt
passed_on P error (Err other) same p = subst P (sym same) p
