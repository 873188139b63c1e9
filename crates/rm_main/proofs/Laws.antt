-- A lawful log over an opening list that can be read back meets all laws.
use Rattle.std.specs.Prelude.{◌≡◌, List, None}
use Rattle.rm_types.specs.declared.entries.Entry.{Entry}
use Rattle.rm_types.specs.declared.operations.Op.{Op}
use Rattle.rm_types.specs.declared.scripts.Script.{Script}
use Rattle.rm_types.specs.declared.settings.Settings.{Settings}
use Rattle.rm_types.specs.Records.{stray}
use Rattle.rm_model.specs.Lawful.{Lawful}
use Rattle.rm_laws.proofs.Cleans.{cleans_strangers}
use Rattle.rm_laws.proofs.Done.{ends_are_told}
use Rattle.rm_laws.proofs.EndsTold.{ends_stay}
use Rattle.rm_laws.proofs.Grants.{grants_differ}
use Rattle.rm_laws.proofs.Ids.{ids_differ}
use Rattle.rm_laws.proofs.Lives.{lives_differ}
use Rattle.rm_laws.proofs.Missing.{missing_falls}
use Rattle.rm_laws.proofs.NoneStray.{none_stray}
use Rattle.rm_laws.proofs.Recorded.{kept_stays}
use Rattle.rm_laws.proofs.Registered.{registered_are_kept}
use Rattle.rm_laws.proofs.Released.{released_stay}
use Rattle.rm_laws.proofs.Rows.{rows_are_of_log}
use Rattle.rm_laws.proofs.RowsFit.{rows_differ, rows_fit}
use Rattle.rm_laws.proofs.Told.{told_stays}
use Rattle.rm_main.specs.Laws.{MeetsLaws}

pub meets_laws : (settings : Settings) (script : Script) (opening : List Op) (log : List Entry) → Lawful settings script opening log → stray opening ≡ None → MeetsLaws settings opening log
meets_laws settings script opening log lawful whole =
    let allowed = lawful.allowed in
    record {
      kept = λ p. kept_stays opening log p;
      told = told_stays settings opening log allowed;
      ends = ends_stay settings opening log allowed;
      grants = grants_differ settings opening log allowed;
      ids = ids_differ settings opening log allowed;
      fits = rows_fit settings opening log allowed;
      book = record {
        rows = rows_are_of_log settings opening log allowed;
        once = rows_differ settings opening log allowed;
      };
      store = none_stray settings opening log whole allowed;
      lives = lives_differ settings opening log allowed;
      cleans = cleans_strangers settings opening log allowed;
      registered = registered_are_kept settings opening log allowed;
      released = released_stay settings opening log allowed;
      done = ends_are_told settings opening log whole allowed;
      missing = missing_falls settings opening log whole allowed;
    }
