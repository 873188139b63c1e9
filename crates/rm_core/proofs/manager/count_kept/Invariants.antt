use Rattle.std.proofs.Common.{◌≡◌, ◌≤◌, take, count_by}
use Rattle.rm_core.specs.Seen.{is_kept_entry}
use Rattle.rm_core.proofs.manager.count_kept.Given as goal

abbrev pub invariant-entries : goal.invariant-entries
invariant-entries l = record { few : l.kept ≤ l.entry-index; counted : l.kept ≡ count_by is_kept_entry (take l.entry-index l.log) }
