use Rattle.rm_master.proofs.Common.{◌≡◌, take}
use Rattle.rm_master.specs.Answers.{handed_over, ids_granted}
use Rattle.rm_master.proofs.registering.hand_over_all.Given as goal

abbrev pub invariant-grants : goal.invariant-grants
invariant-grants l = l.book ≡ handed_over (ids_granted (take l.grant-index l.grants)) l.initial.book
