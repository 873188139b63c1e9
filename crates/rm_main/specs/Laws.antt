-- The laws together: what an operator may rely on of each log that a run made.
use Rattle.std.specs.Prelude.{List}
use Rattle.rm_types.specs.declared.entries.Entry.{Entry}
use Rattle.rm_types.specs.declared.operations.Op.{Op}
use Rattle.rm_types.specs.declared.settings.Settings.{Settings}
use Rattle.rm_laws.specs.Laws.{BookIsOfLog, CleansStrangers, EndsAreTold, EndsStay, GrantsDiffer, IdsDiffer, KeptStays, LivesDiffer, MissingFalls, NoneStray, RegisteredAreKept, ReleasedStay, RowsFit, ToldStays}

-- A log meets all laws, for these settings and over what the store held when it was first opened. (What each of them means stands where it is defined.)
pub record MeetsLaws (settings : Settings) (opening : List Op) (log : List Entry) : Type 0 where
  pub kept : KeptStays opening log
  pub told : ToldStays opening log
  pub ends : EndsStay opening log
  pub grants : GrantsDiffer opening log
  pub ids : IdsDiffer opening log
  pub fits : RowsFit opening log
  pub book : BookIsOfLog opening log
  pub store : NoneStray opening log
  pub lives : LivesDiffer opening log
  pub cleans : CleansStrangers opening log
  pub registered : RegisteredAreKept opening log
  pub released : ReleasedStay settings opening log
  pub done : EndsAreTold settings opening log
  pub missing : MissingFalls opening log
