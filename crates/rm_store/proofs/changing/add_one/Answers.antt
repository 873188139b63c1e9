use Rattle.rm_store.proofs.Common.{◌≡◌, ℕ, ◌+◌, List, [], ◌∷◌, ◌++◌, length, sym, ◌∙◌, ap, subst, arith, OnOk, frame, IsBuilt}
use Rattle.rm_store.proofs.Owned.{still_keeps, add_own}
use Rattle.rm_store.proofs.Changes.{all_same, only_folds, some_gate}
use Rattle.rm_store.proofs.changing.add_one.Goals as goal

pub returns-in_default-clause-all : goal.returns-in_default-clause-all
returns-in_default-clause-all g c = all_same (g.D.Disk.view c.args.disk.now) c.args.areas.now c.requires.stands c.requires.unbroken (λ image now. g.met.D.Disk.as_it_reads c.args.disk.now image now)

pub returns-clause-builds : goal.returns-clause-builds
returns-clause-builds g c =
    subst (λ (p : List ℕ). OnOk c.add.result ((added : List (List ℕ)) → IsBuilt (g.D.Disk.view c.args.disk.now) c.args.areas.now added → IsBuilt (g.D.Disk.view c.add.new.disk) c.add.new.self (added ++ p ∷ []))) c.in-Ok.ensures c.add.ensures.builds

pub returns-clause-errors : goal.returns-clause-errors
returns-clause-errors g c =
    let gate = some_gate c.args.areas.now.build c.requires.begun in
    let long : length c.in-Ok.bytes.now ≡ length (frame c.args.op.now) = ap (λ (p : List ℕ). length p) c.in-Ok.ensures in
    let room = c.requires.room gate.0 gate.1 in
    only_folds c.add.result (λ n r is. let no = c.add.ensures.only_full n r is gate.0 gate.1 in let a = no.0 in let b = no.1 in let less = no.2 in omega (arith, a, b, less, long, room))
    (λ reopen. let b = c.add.ensures.reopen.0 reopen in let x = sym b ∙ c.requires.unbroken in cc) c.add.ensures.errors

pub returns-in_default-clause-own : goal.returns-in_default-clause-own
returns-in_default-clause-own g c = λ live. still_keeps (g.D.Disk.view c.args.disk.now)

pub returns-clause-own : goal.returns-clause-own
returns-clause-own g c = λ live.
    let v = g.D.Disk.view c.args.disk.now in
    let gate = some_gate c.args.areas.now.build c.requires.begun in
    let long : length c.in-Ok.bytes.now ≡ length (frame c.args.op.now) = ap (λ (p : List ℕ). length p) c.in-Ok.ensures in
    let room = c.requires.room gate.0 gate.1 in
    add_own v (g.D.Disk.view c.add.new.disk) c.args.areas.now c.requires.stands c.requires.unbroken (λ image now. g.met.D.Disk.as_it_reads c.args.disk.now image now) (g.met.D.Disk.image_size c.args.disk.now)
    gate.0 (length c.in-Ok.bytes.now + 6) live gate.1 (omega (arith, long, room)) (c.add.ensures.place_alone gate.0 gate.1)
