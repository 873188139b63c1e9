use Rattle.std.proofs.Common.{◌≡◌, map}
use Rattle.std.specs.List.{range_with_len}
use Rattle.rm_soak.specs.Scripts.{soak_life}
use Rattle.rm_soak.proofs.scripts.soak_script.Given as goal

abbrev pub invariant-lives : goal.invariant-lives
invariant-lives l = l.lives ≡ map (soak_life l.number) (range_with_len 0 l.life)
