use Rattle.std.proofs.Common.{◌≡◌, ◌≤◌, ℕ, false, sym, subst, ◌∙◌}
use Rattle.rm_types.specs.Records.{Records, no_records}
use Rattle.rm_types.specs.Alike.{IsAlike}
use Rattle.rm_core.specs.Seen.{Seen}
use Rattle.rm_core.proofs.Alike.{like_back}
use Rattle.rm_core.proofs.Left.{if_answered, if_told, left_own, own_left, own_of, unbegun_own}
use Rattle.rm_core.proofs.Lives.{landed_few, landed_fits}
use Rattle.rm_core.specs.Queues.{landed_in, tree_landed}
use Rattle.rm_core.proofs.manager.Core.is_left.Goals as goal

pub with_landed-requires-clause-one : goal.with_landed-requires-clause-one
with_landed-requires-clause-one c = subst (λ (n : ℕ). n ≤ 1) (sym c.landed_in.ensures) (landed_few c.self.inside.tables c.args.tree.now)

pub with_landed-requires-clause-fits : goal.with_landed-requires-clause-fits
with_landed-requires-clause-fits c =
    let dead : c.self.inside.tables.alive ≡ false = subst (λ (s : Seen). s.tables.alive ≡ false) (sym c.self.view_is) c.requires in
    λ one. landed_fits c.self.inside.tables c.args.tree.now c.self.invariant.sound dead (sym c.landed_in.ensures ∙ one)

own_is : (c : goal.After-drop-own-inside-4) → c.in_ok-own.own ≡ tree_landed (landed_in c.self.inside.tables c.args.tree.now) c.self.inside.tables
own_is c = subst (λ (n : ℕ). c.in_ok-own.own ≡ tree_landed n c.self.inside.tables) c.landed_in.ensures c.in_ok-own.ensures

pub returns-clause-left : goal.returns-clause-left
returns-clause-left c =
    let t = c.self.inside.tables in
    let tree = c.args.tree.now in
    let dead : t.alive ≡ false = subst (λ (s : Seen). s.tables.alive ≡ false) (sym c.self.view_is) c.requires in
    rw (← c.self.view_is)
    (λ opening k some.
    if_answered c.are_alike.result (λ is. left_own t c.self.inside.log tree opening k some dead (subst (λ (r : Records). IsAlike r tree) (own_is c) is))
    (λ left. subst (λ (r : Records). IsAlike r tree) (sym (own_is c)) (own_left t c.self.inside.log tree opening k some dead left)) c.are_alike.ensures)

pub returns-clause-unbegun : goal.returns-clause-unbegun
returns-clause-unbegun c =
    let t = c.self.inside.tables in
    let tree = c.args.tree.now in
    rw (← c.self.view_is)
    (λ opening k none.
    let nothing : c.in_ok-own.own ≡ no_records = own_is c ∙ unbegun_own t c.self.inside.log tree opening k none in
    if_answered c.are_alike.result (λ is. like_back no_records tree (subst (λ (r : Records). IsAlike r tree) nothing is))
    (λ is. subst (λ (r : Records). IsAlike r tree) (sym nothing) (like_back tree no_records is)) c.are_alike.ensures)

pub returns-clause-own : goal.returns-clause-own
returns-clause-own c =
    let t = c.self.inside.tables in
    let tree = c.args.tree.now in
    rw (← c.self.view_is)
    (λ some. if_told c.are_alike.result (λ is. subst (λ (r : Records). IsAlike r tree) (own_is c ∙ sym (own_of t c.self.inside.log tree some)) is) c.are_alike.ensures)
