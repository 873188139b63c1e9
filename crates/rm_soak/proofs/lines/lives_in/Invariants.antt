use Rattle.std.proofs.Common.{◌≡◌, ◌≤◌, take, count_by}
use Rattle.rm_soak.specs.Lines.{is_opened}
use Rattle.rm_soak.proofs.lines.lives_in.Given as goal

abbrev pub invariant-lives : goal.invariant-lives
invariant-lives l = record { few : l.lives ≤ l.entry-index; counted : l.lives ≡ count_by is_opened (take l.entry-index l.entries) }
