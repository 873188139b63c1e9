use Rattle.std.proofs.Common.{Some, None, cond, sym, ap, ◌∙◌}
use Rattle.std.specs.Option.{option_or}
use Rattle.std.specs.Str.{bytes_eq}
use Rattle.rm_types.proofs.TestLemmas.{none_from_is_some}
use Rattle.rm_queues.specs.Places.{place_in}
use Rattle.rm_queues.proofs.Adding.{get_by-insert}
use Rattle.rm_queues.proofs.places.Places.add.Goals as goal

pub returns-in_ok-insert : goal.returns-in_ok-insert
returns-in_ok-insert c = λ other.
    let key = c.in_ok-key.key.items in
    let same = c.in_ok-key.ensures.items in
    let absent = none_from_is_some _ (sym c.contains_key.ensures ∙ c.if-not-contains_key.true) in
    get_by-insert (λ one. one.items) c.args.self.now.by_text c.insert.new.self key c.args.place (ap (place_in c.args.self.now) same ∙ absent) c.in_ok-insert.ensures.updates other
    ∙ ap (λ text. option_or (place_in c.args.self.now other) (cond (bytes_eq text other) (Some c.args.place) None)) same
