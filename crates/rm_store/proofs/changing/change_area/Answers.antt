use Rattle.rm_store.proofs.Common.{◌⊎◌, ℕ, true, Bool, List, map, inl, sym, ◌∙◌, ap, subst, ◌<◌, arith, frame, broken_after, AtEachMoment, IfTold, moment_of, AreasHold, HasLayout}
use Rattle.rm_store.specs.Changing.{KeepsPayloads, TellsPayloads}
use Rattle.rm_disk.proofs.Views.{goes_on_trans}
use Rattle.rm_store.proofs.Owned.{other_own, own_after}
use Rattle.rm_store.proofs.Changes.{all_after, moment_after, on_after, unbroken_ok}
use Rattle.rm_store.proofs.changing.change_area.Goals as goal

pub returns-in_err-add_all-clause-any_moment : goal.returns-in_err-add_all-clause-any_moment
returns-in_err-add_all-clause-any_moment g c =
    let v0 = g.D.Disk.view c.args.disk.now in
    let v1 = g.D.Disk.view c.begin.new.disk in
    let a0 = c.args.areas.now in
    let a1 = c.begin.new.self in
    let b = c.begin.ensures in
    let one : KeepsPayloads v0 v1 a0 a1 = record { stands = b.stands; half = b.half; generation = b.generation; goes_on = b.goes_on; later = b.later; moment = b.any_moment } in
    let on : TellsPayloads v0 v1 a0 a1 = record { unbroken = unbroken_ok c.begin.result tt a1.is_broken (b.broken ∙ ap (λ (x : Bool). broken_after c.begin.result x) c.requires.unbroken) c.in_ok-begin.was; told = c.in_ok-begin.ensures.told } in
    let v2 = g.D.Disk.view c.add_all.new.disk in
    let a2 = c.add_all.new.areas in
    let two = all_after v0 v1 v2 a0 a1 a2 one on c.requires.unbroken c.add_all.ensures.all in
    let P : List (List ℕ) → List ℕ → Type 0 = λ payloads image. HasLayout a0.half payloads image ⊎ HasLayout a0.half (map frame c.args.ops.now) image in
    λ bytes told payloads has. moment_of (HasLayout a0.half payloads) (P payloads) v0 v2 (λ image l. inl l) (two.moment c.requires.unbroken bytes told payloads has)

pub returns-clause-any_moment : goal.returns-clause-any_moment
returns-clause-any_moment g c =
    let v0 = g.D.Disk.view c.args.disk.now in
    let v1 = g.D.Disk.view c.begin.new.disk in
    let a0 = c.args.areas.now in
    let a1 = c.begin.new.self in
    let b = c.begin.ensures in
    let one : KeepsPayloads v0 v1 a0 a1 = record { stands = b.stands; half = b.half; generation = b.generation; goes_on = b.goes_on; later = b.later; moment = b.any_moment } in
    let on : TellsPayloads v0 v1 a0 a1 = record { unbroken = unbroken_ok c.begin.result tt a1.is_broken (b.broken ∙ ap (λ (x : Bool). broken_after c.begin.result x) c.requires.unbroken) c.in_ok-begin.was; told = c.in_ok-begin.ensures.told } in
    let v2 = g.D.Disk.view c.add_all.new.disk in
    let a2 = c.add_all.new.areas in
    let two = all_after v0 v1 v2 a0 a1 a2 one on c.requires.unbroken c.add_all.ensures.all in
    let P : List (List ℕ) → List ℕ → Type 0 = λ payloads image. HasLayout a0.half payloads image ⊎ HasLayout a0.half (map frame c.args.ops.now) image in
    let on2 = on_after v0 v1 v2 a0 a1 a2 one on c.requires.unbroken c.in_ok-add_all.ensures.told in
    let v3 = g.D.Disk.view c.finish.new.disk in
    moment_after v0 v2 v3 a0 a2 c.finish.new.self two on2 c.requires.unbroken P (λ payloads image l. inl l)
    (subst (λ (n : ℕ). IfTold v2 (λ bytes. (payloads : List (List ℕ)) → AreasHold a2 payloads bytes → AtEachMoment v2 v3 (λ image. HasLayout n payloads image ⊎ HasLayout n (map frame c.args.ops.now) image))) two.half
    (λ bytes told payloads has. c.finish.ensures.any_moment on2.unbroken bytes told payloads (map frame c.args.ops.now) has c.in_ok-add_all.ensures.builds))

pub returns-clause-kept : goal.returns-clause-kept
returns-clause-kept g c = g.met.D.Disk.keeps_on true _ _ _ _ (g.met.D.Disk.keeps_on true true _ _ _ c.in_ok-begin.ensures.kept c.in_ok-add_all.ensures.kept) c.finish.ensures.kept

pub returns-in_err-begin-clause-own : goal.returns-in_err-begin-clause-own
returns-in_err-begin-clause-own g c = λ only.
    let v0 = g.D.Disk.view c.args.disk.now in
    let v1 = g.D.Disk.view c.begin.new.disk in
    let a0 = c.args.areas.now in
    other_own v0 v1 a0 c.requires.stands c.requires.unbroken (λ image now. g.met.D.Disk.as_it_reads c.args.disk.now image now) (g.met.D.Disk.image_size c.args.disk.now) 14 c.requires.half (omega arith) c.begin.ensures.place_alone

pub returns-in_err-add_all-clause-own : goal.returns-in_err-add_all-clause-own
returns-in_err-add_all-clause-own g c = λ only.
    let v0 = g.D.Disk.view c.args.disk.now in
    let v1 = g.D.Disk.view c.begin.new.disk in
    let a0 = c.args.areas.now in
    let first = other_own v0 v1 a0 c.requires.stands c.requires.unbroken (λ image now. g.met.D.Disk.as_it_reads c.args.disk.now image now) (g.met.D.Disk.image_size c.args.disk.now) 14 c.requires.half (omega arith) c.begin.ensures.place_alone in
    own_after v0 v1 (g.D.Disk.view c.add_all.new.disk) c.begin.ensures.goes_on first (c.add_all.ensures.own (λ none. only (sym c.begin.ensures.generation ∙ none)))

pub returns-clause-own : goal.returns-clause-own
returns-clause-own g c = λ only.
    let v0 = g.D.Disk.view c.args.disk.now in
    let v1 = g.D.Disk.view c.begin.new.disk in
    let v2 = g.D.Disk.view c.add_all.new.disk in
    let v3 = g.D.Disk.view c.finish.new.disk in
    let a0 = c.args.areas.now in
    let a2 = c.add_all.new.areas in
    let half : 13 < a2.half = (let a = c.requires.half in let b = c.begin.ensures.half in let d = c.add_all.ensures.all.half in omega (arith, a, b, d)) in
    let first = other_own v0 v1 a0 c.requires.stands c.requires.unbroken (λ image now. g.met.D.Disk.as_it_reads c.args.disk.now image now) (g.met.D.Disk.image_size c.args.disk.now) 14 c.requires.half (omega arith) c.begin.ensures.place_alone in
    let second = own_after v0 v1 v2 c.begin.ensures.goes_on first (c.add_all.ensures.own (λ none. only (sym c.begin.ensures.generation ∙ none))) in
    let goes = goes_on_trans v0 v1 v2 c.begin.ensures.later c.begin.ensures.goes_on c.add_all.ensures.all.goes_on in
    own_after v0 v2 v3 goes second
    (other_own v2 v3 a2 c.add_all.ensures.all.stands c.in_ok-add_all.ensures.told.unbroken (λ image now. g.met.D.Disk.as_it_reads c.add_all.new.disk image now) (g.met.D.Disk.image_size c.add_all.new.disk) 1 half (omega arith) c.finish.ensures.place_alone)
