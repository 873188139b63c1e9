-- What a list of store operations amounts to, but for the numbers of the ends: the epoch of the next life, the stamp of the last one, the
-- applications, and those that have ended, in the order in which they ended. This project's own.
use Rattle.std.specs.Prelude.{ℕ, List, [], ◌∷◌, ◌++◌, not, fold, filter}
use Rattle.rm_types.specs.declared.ids.AppId.{AppId}
use Rattle.rm_types.specs.declared.operations.Op.{Op}
use Rattle.rm_types.specs.declared.operations.Op.TheVariants.{Epoch, App, Attempt, AttemptEnd, AppEnd, Remove}
use Rattle.rm_types.specs.declared.records.AppRecord.{AppRecord}
use Rattle.rm_types.specs.Ids.{is_app}
use Rattle.rm_types.specs.Records.{apps_recorded, epoch_recorded, stamp_recorded}

-- the next epoch, the last life's stamp, the applications without the numbers of their ends, and who of them has ended, in that order
pub record Amounts : Type 0 where
  pub next_epoch : ℕ
  pub stamp : ℕ
  pub apps : List AppRecord
  pub completed : List AppId

-- what no operation amounts to
abbrev pub no_amounts : Amounts
no_amounts = record { next_epoch = 0; stamp = 0; apps = []; completed = [] }

-- the applications that have ended, after one more operation
abbrev pub completed_after : List AppId → Op → List AppId
completed_after ids (Epoch next stamp) = ids
completed_after ids (App id submission) = ids
completed_after ids (Attempt id master node) = ids
completed_after ids (AttemptEnd id how text) = ids
completed_after ids (AppEnd id how text) = ids ++ id ∷ []
completed_after ids (Remove id) = filter (λ one. not (is_app one id)) ids

-- what it amounts to with one more operation
abbrev pub amounted : Amounts → Op → Amounts
amounted a op =
    record {
      next_epoch = epoch_recorded a.next_epoch op;
      stamp = stamp_recorded a.stamp op;
      apps = apps_recorded a.apps 0 op;
      completed = completed_after a.completed op;
    }

-- what the operations of a list amount to
abbrev pub amounts : List Op → Amounts
amounts ops = fold amounted no_amounts ops
