use Rattle.rm_master.proofs.Common.{◌≡◌, take}
use Rattle.rm_master.specs.Answers.{acquired, ids_granted, own_grants}
use Rattle.rm_master.proofs.allocating.acquire_all.Given as goal

abbrev pub invariant-grants : goal.invariant-grants
invariant-grants l = l.book ≡ acquired (ids_granted (own_grants l.attempt (take l.grant-index l.grants))) l.initial.book
