use Rattle.std.proofs.Common.{◌≡◌, ◌+◌, ◌++◌, [], length, take, sym, ◌∙◌, arith}
use Rattle.std.proofs.lemmas.List.{append-nil, length-take-le}
use Rattle.rm_core.specs.Ends.{paired_ends}
use Rattle.rm_core.proofs.EndOrder.{front, front_none, front_some, paired_push}
use Rattle.rm_core.proofs.Listed.{take_got}
use Rattle.rm_core.proofs.ends.ends_of.Goals as goal
use Rattle.rm_core.proofs.ends.ends_of.Goals.{then-is_some+in_ok-push, else-is_some}

pub records-preserved : goal.records-preserved
records-preserved c =
    let apps = c.args.tree.now.apps in
    let others = c.args.other.now.apps in
    let place = c.records.place in
    let one = take_got apps place c.at-app.result.now c.at-app.ensures in
    let other = take_got others place c.at-also.result.now c.at-also.ensures in
    let same = c.requires in
    let long : length (take place apps) ≡ length (take place others) = length-take-le place apps (omega arith) ∙ sym (length-take-le place others (omega arith)) in
    let pushed : paired_ends (take (place + 1) apps) (take (place + 1) others) ≡ paired_ends (take place apps) (take place others) ++ front c.at-app.result.now c.at-also.result.now [] =
    rw (one, other) (paired_push (take place apps) (take place others) c.at-app.result.now c.at-also.result.now long) in
    elim c.if-is_some.branch [
      | then-is_some+in_ok-push w ↦ let test = front_some c.at-app.result.now c.at-also.result.now [] (sym c.is_some.ensures ∙ w.if-is_some.true) in cc (w.in_ok-push.ensures.items)
      | else-is_some w ↦
          let test = front_none c.at-app.result.now c.at-also.result.now [] (sym c.is_some.ensures ∙ w.if-is_some.false) in let flat = append-nil (paired_ends (take place apps) (take place others)) in cc
    ]
