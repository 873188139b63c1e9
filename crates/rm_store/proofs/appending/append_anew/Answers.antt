use Rattle.rm_store.proofs.Common.{◌+◌, ◌≤◌, ℕ, true, false, List, [], ◌∷◌, ◌++◌, take, length, sym, ◌∙◌, ap, subst, All, err_from_is_err_and, Op, IsOperation, frame}
use Rattle.rm_store.specs.Store.{KeepsOwn}
use Rattle.rm_store.proofs.Contents.{framed_left}
use Rattle.rm_store.proofs.Owned.{still_keeps, own_after, changed_own}
use Rattle.rm_store.proofs.Puts.{IsAnew, left_in_front, ops_same, room_enough, room_after, refold_only, both_leave, both_add, both_kept}
use Rattle.rm_store.proofs.Written.{still_frames, changed_frames, both_frames, both_tell}
use Rattle.rm_store.proofs.appending.append_anew.Goals.{After-change_area, In_ok-change_area}
use Rattle.rm_store.proofs.appending.append_anew.Goals as goal

pub returns-in_default-clause-any_moment : goal.returns-in_default-clause-any_moment
returns-in_default-clause-any_moment g c = ops_same (g.D.Disk.view c.args.disk.now) c.args.areas.now c.args.content.now c.requires.kept (λ image now. g.met.D.Disk.as_it_reads c.args.disk.now image now) c.args.op.now c.requires.op

pub change_area-requires-clause-framed : goal.change_area-requires-clause-framed
change_area-requires-clause-framed g c =
    let is = left_in_front c.args.content.now c.args.op.now (c.as_slice.ensures ∙ c.in-Ok.ensures) c.len-many.ensures c.requires.left in
    subst (λ (l : List Op). All IsOperation l) (sym is) (framed_left c.args.content.now c.requires.kept.framed)

pub change_area-requires-clause-room : goal.change_area-requires-clause-room
change_area-requires-clause-room g c =
    let is = left_in_front c.args.content.now c.args.op.now (c.as_slice.ensures ∙ c.in-Ok.ensures) c.len-many.ensures c.requires.left in
    room_enough c.args.areas.now.half c.args.areas.now.generation (length (frame c.args.op.now)) c.args.content.now is c.requires.room

-- the other area was written anew
anew : (g : _) (c : In_ok-change_area g)
    → IsAnew (g.D.Disk.view c.args.disk.now) (g.D.Disk.view c.change_area.new.disk) c.args.areas.now c.change_area.new.areas c.args.content.now (take c.len-many.result c.as_slice.result.now) c.args.op.now
anew g c = record {
  can = c.requires.op;
  kept = c.requires.kept;
  is = left_in_front c.args.content.now c.args.op.now (c.as_slice.ensures ∙ c.in-Ok.ensures) c.len-many.ensures c.requires.left;
  goes_on = c.change_area.ensures.goes_on;
  half = c.change_area.ensures.half;
  now = c.in_ok-change_area.ensures.now.0;
}

pub put-requires-clause-room : goal.put-requires-clause-room
put-requires-clause-room g c =
    let is = (anew g (goal.at.put-requires-clause-room g c).In_ok-change_area).is in
    subst (λ (n : ℕ). length (frame c.args.op.now) + 6 ≤ n) (sym c.in_ok-change_area.ensures.room) (room_after c.args.areas.now.half c.args.areas.now.generation (length (frame c.args.op.now)) c.args.content.now is c.requires.room)

pub returns-in_err-change_area-clause-any_moment : goal.returns-in_err-change_area-clause-any_moment
returns-in_err-change_area-clause-any_moment g c =
    let is = left_in_front c.args.content.now c.args.op.now (c.as_slice.ensures ∙ c.in-Ok.ensures) c.len-many.ensures c.requires.left in
    λ ops has fits. refold_only (g.D.Disk.view c.change_area.new.disk) c.args.op.now c.requires.op c.requires.kept is ops has fits c.change_area.ensures.any_moment

pub returns-in_err-put-clause-any_moment : goal.returns-in_err-put-clause-any_moment
returns-in_err-put-clause-any_moment g c = λ ops has fits.
    both_leave (anew g (goal.at.returns-in_err-put-clause-any_moment g c).In_ok-change_area) ops has fits (g.D.Disk.view c.put.new.disk) c.change_area.ensures.any_moment c.put.ensures.any_moment

pub returns-in_err-put-clause-kept : goal.returns-in_err-put-clause-kept
returns-in_err-put-clause-kept g c =
    let p = err_from_is_err_and c.from_residual-in_err-put.result c.from_residual-in_err-put.ensures.1 in
    rw p.1 (g.met.D.Disk.keeps_on true false _ _ _ c.in_ok-change_area.ensures.kept c.in_err-put.ensures.kept)

pub returns-clause-stays : goal.returns-clause-stays
returns-clause-stays g c =
    let there = anew g (goal.at.returns-clause-stays g c).In_ok-change_area in
    let more = c.in-Ok.ensures ∙ ap (λ (l : List Op). l ++ c.args.op.now ∷ []) (c.requires.left ∙ sym there.is) in
    both_kept there c.put.ensures.stands c.in_ok-put.ensures.unbroken c.put.ensures.no_build more c.put.ensures.goes_on c.in_ok-put.ensures.now

pub returns-clause-any_moment : goal.returns-clause-any_moment
returns-clause-any_moment g c = λ ops has fits.
    both_leave (anew g (goal.at.returns-clause-any_moment g c).In_ok-change_area) ops has fits (g.D.Disk.view c.put.new.disk) c.change_area.ensures.any_moment c.put.ensures.any_moment

pub returns-clause-added : goal.returns-clause-added
returns-clause-added g c = λ ops has fits. both_add (anew g (goal.at.returns-clause-added g c).In_ok-change_area) ops has fits c.put.ensures.goes_on c.in_ok-put.ensures.added

pub returns-clause-kept : goal.returns-clause-kept
returns-clause-kept g c = g.met.D.Disk.keeps_on true true _ _ _ c.in_ok-change_area.ensures.kept c.in_ok-put.ensures.kept

pub returns-in_default-clause-own : goal.returns-in_default-clause-own
returns-in_default-clause-own g c = still_keeps (g.D.Disk.view c.args.disk.now)

-- the change of area leaves what looks like a store's own
changed : (g : _) (c : After-change_area g) → KeepsOwn (g.D.Disk.view c.args.disk.now) (g.D.Disk.view c.change_area.new.disk)
changed g c =
    let is = left_in_front c.args.content.now c.args.op.now (c.as_slice.ensures ∙ c.in-Ok.ensures) c.len-many.ensures c.requires.left in
    changed_own (g.D.Disk.view c.change_area.new.disk) c.requires.kept (λ image now. g.met.D.Disk.as_it_reads c.args.disk.now image now) is c.change_area.ensures.own

pub returns-in_err-change_area-clause-own : goal.returns-in_err-change_area-clause-own
returns-in_err-change_area-clause-own g c = changed g (goal.at.returns-in_err-change_area-clause-own g c).After-change_area

pub returns-in_err-put-clause-own : goal.returns-in_err-put-clause-own
returns-in_err-put-clause-own g c = own_after _ _ _ c.change_area.ensures.goes_on (changed g (goal.at.returns-in_err-put-clause-own g c).After-change_area) c.put.ensures.own

pub returns-clause-own : goal.returns-clause-own
returns-clause-own g c = own_after _ _ _ c.change_area.ensures.goes_on (changed g (goal.at.returns-clause-own g c).After-change_area) c.put.ensures.own

pub returns-in_default-clause-frames : goal.returns-in_default-clause-frames
returns-in_default-clause-frames g c = still_frames (g.D.Disk.view c.args.disk.now) c.args.areas.now c.args.content.now c.requires.kept (λ image now. g.met.D.Disk.as_it_reads c.args.disk.now image now)

pub returns-in_err-change_area-clause-frames : goal.returns-in_err-change_area-clause-frames
returns-in_err-change_area-clause-frames g c =
    let is = left_in_front c.args.content.now c.args.op.now (c.as_slice.ensures ∙ c.in-Ok.ensures) c.len-many.ensures c.requires.left in
    changed_frames (g.D.Disk.view c.args.disk.now) (g.D.Disk.view c.change_area.new.disk) (take c.len-many.result c.as_slice.result.now) c.requires.kept (subst (λ (l : List Op). All IsOperation l) (sym is) (framed_left c.args.content.now c.requires.kept.framed)) c.change_area.ensures.any_moment

pub returns-in_err-put-clause-frames : goal.returns-in_err-put-clause-frames
returns-in_err-put-clause-frames g c =
    both_frames (anew g (goal.at.returns-in_err-put-clause-frames g c).In_ok-change_area) (g.D.Disk.view c.put.new.disk) c.change_area.ensures.any_moment c.put.ensures.any_moment

pub returns-clause-frames : goal.returns-clause-frames
returns-clause-frames g c =
    both_frames (anew g (goal.at.returns-clause-frames g c).In_ok-change_area) (g.D.Disk.view c.put.new.disk) c.change_area.ensures.any_moment c.put.ensures.any_moment

pub returns-clause-anew : goal.returns-clause-anew
returns-clause-anew g c =
    let there = anew g (goal.at.returns-clause-anew g c).In_ok-change_area in
    let more = c.in-Ok.ensures ∙ ap (λ (l : List Op). l ++ c.args.op.now ∷ []) (c.requires.left ∙ sym there.is) in
    both_tell there more c.put.ensures.goes_on c.in_ok-put.ensures.added
