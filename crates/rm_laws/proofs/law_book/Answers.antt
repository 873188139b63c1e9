use Rattle.rm_laws.proofs.Rows.{rows_are_of_log}
use Rattle.rm_laws.proofs.RowsFit.{rows_differ}
use Rattle.rm_laws.proofs.law_book.Goals as goal

pub returns : goal.returns
returns c =
    record {
      law = record {
        rows = rows_are_of_log c.args.settings.now c.args.opening.now c.args.log.now c.requires.lawful.allowed;
        once = rows_differ c.args.settings.now c.args.opening.now c.args.log.now c.requires.lawful.allowed;
      };
    }
