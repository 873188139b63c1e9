use Rattle.rm_store.proofs.Common.{Bool, false, Ok, Err, Result, ◌≡◌, ◌⊎◌, ◌+◌, ℕ, length, List, [], ◌∷◌, ◌++◌, sym, ◌∙◌, ap, subst, arith, frame, AtEachMoment, IfTold, OnOk, JournalError, broken_after, AreasHold, HasLayout}
use Rattle.rm_journal.specs.two_areas.Areas.{HoldsPayloads}
use Rattle.rm_store.proofs.Puts.{put_same, now_has, same_half}
use Rattle.rm_store.proofs.Owned.{still_keeps, put_own}
use Rattle.rm_store.proofs.Changes.{only_folds}
use Rattle.rm_store.proofs.appending.put.Goals as goal

pub returns-in_default-clause-any_moment : goal.returns-in_default-clause-any_moment
returns-in_default-clause-any_moment g c = put_same (g.D.Disk.view c.args.disk.now) c.args.areas.now c.requires.stands c.requires.unbroken (λ image now. g.met.D.Disk.as_it_reads c.args.disk.now image now) (frame c.args.op.now)

pub returns-clause-errors : goal.returns-clause-errors
returns-clause-errors g c =
    let long : length c.in-Ok.bytes.now ≡ length (frame c.args.op.now) = ap (λ (p : List ℕ). length p) c.in-Ok.ensures in
    let room = c.requires.room in
    only_folds c.append.result (λ n r is. let no = c.append.ensures.only_full n r is in let a = no.0 in let b = no.1 in let less = no.2 in omega (arith, a, b, less, long, room))
    (λ reopen. let b = c.append.ensures.reopen.0 reopen in let x = sym b ∙ c.requires.unbroken in cc) c.append.ensures.errors

pub returns-clause-any_moment : goal.returns-clause-any_moment
returns-clause-any_moment g c =
    let v0 = g.D.Disk.view c.args.disk.now in
    let v1 = g.D.Disk.view c.append.new.disk in
    let a = c.args.areas.now in
    subst (λ (p : List ℕ). IfTold v0 (λ bytes. (payloads : List (List ℕ)) → AreasHold a payloads bytes → AtEachMoment v0 v1 (λ image. HasLayout a.half payloads image ⊎ HasLayout a.half (payloads ++ p ∷ []) image))) c.in-Ok.ensures
    (c.append.ensures.any_moment c.requires.unbroken)

pub returns-in_default-clause-own : goal.returns-in_default-clause-own
returns-in_default-clause-own g c = still_keeps (g.D.Disk.view c.args.disk.now)

pub returns-clause-own : goal.returns-clause-own
returns-clause-own g c =
    let room = c.requires.room in
    put_own (g.D.Disk.view c.args.disk.now) (g.D.Disk.view c.append.new.disk) c.args.areas.now c.requires.stands c.requires.unbroken (λ image now. g.met.D.Disk.as_it_reads c.args.disk.now image now) (g.met.D.Disk.image_size c.args.disk.now)
    (length c.in-Ok.bytes.now + 6) c.requires.live (omega (arith, room)) c.append.ensures.place_alone

pub returns-clause-now : goal.returns-clause-now
returns-clause-now g c =
    let v0 = g.D.Disk.view c.args.disk.now in
    let v1 = g.D.Disk.view c.append.new.disk in
    let a = c.args.areas.now in
    let b = c.append.new.self in
    unbroken_and c.append.result b.is_broken (c.append.ensures.broken ∙ ap (λ (x : Bool). broken_after c.append.result x) c.requires.unbroken)
    (λ sound added bytes told payloads has.
    now_has v1 b a.half (payloads ++ frame c.args.op.now ∷ []) c.append.ensures.stands sound (same_half v0 v1 a b c.requires.stands c.append.ensures.stands c.append.ensures.goes_on) (λ image now. g.met.D.Disk.as_it_reads c.append.new.disk image now)
    (subst (λ (p : List ℕ). HoldsPayloads v1 a.half (payloads ++ p ∷ [])) c.in-Ok.ensures (added bytes told payloads has)))
    c.append.ensures.added
  where
    unbroken_and : {P Q : Type 0} (r : Result (Unit {0}) JournalError) (b : Bool) → b ≡ broken_after r false → (b ≡ false → P → Q) → OnOk r P → OnOk r Q
    unbroken_and (Ok x) b is f p = f is p
    unbroken_and (Err e) b is f p = tt
