use Rattle.std.proofs.lemmas.List.Sorted.{IsPermutation-trans}
use Rattle.rm_book.proofs.AskEntries.{are_waiting}
use Rattle.rm_book.proofs.attempts.Attempts.waiting.Goals as goal

pub returns : goal.returns
returns c =
    let moved = rw (c.in_ok-ids.ensures.ids) at c.sort_unstable.ensures.permutation in
    let all = IsPermutation-trans _ _ _ (are_waiting c.self.inside.lines c.self.inside.waiting.keys c.self.invariant c.ids_of.ensures.unique) moved in
    rw (← c.self.view_is, c.from_vec.ensures) (record { same = all; order = c.sort_unstable.ensures.sorted })
