use Rattle.std.proofs.lemmas.Result.{err_from_is_err_and}
use Rattle.std.proofs.Common.{◌≡◌, ◌≤◌, ◌+◌, ◌-◌, ℕ, true, false, Option, None, Some, Err, [], ◌∷◌, ◌++◌, take, drop, refl, sym, ◌∙◌, ap, subst, arith}
use Rattle.rm_disk.specs.Disk.{IfTold}
use Rattle.rm_formats.specs.Device.{HasPayloads, IsDamagedAt}
use Rattle.rm_journal.specs.declared.fault.JournalError
use Rattle.rm_journal.specs.Journal.{FindsAt, region_of}
use Rattle.rm_journal.specs.Walk.{WalkAt, HasWalked, IsWalking, BeginsWith}
use Rattle.rm_journal.proofs.Walks.{walking_done, walking_quiet, walking_next, walking_damaged, holds_closed, holds_empty, has_more, begins_walked, stepped}
use Rattle.rm_journal.proofs.walk.Walk.next.Goals as goal

none_is : (o : Option ℕ) → ((n : ℕ) → o ≡ Some n → ⊥) → o ≡ None
none_is None never = refl
none_is (Some n) never = absurd (never n refl)

pub returns-then-self-clause-walking : goal.returns-then-self-clause-walking
returns-then-self-clause-walking g c =
    let v0 = g.D.Disk.view c.args.disk.now in
    let k : WalkAt = record { from = c.self.inside.from; end = c.self.inside.end; gate = c.self.inside.gate; is_done = c.self.inside.is_done } in
    let walking : IsWalking v0 k = subst (λ (q : WalkAt). IsWalking v0 q) (sym c.self.view_is) c.requires in
    walking_done v0 k walking (λ bytes told given has.
    let long = g.met.D.Disk.image_size c.args.disk.now bytes (g.met.D.Disk.as_it_reads c.args.disk.now bytes told) in
    holds_empty k bytes given (omega (arith, walking.inside, long)) walking.low c.if-self.true walking.room has)

pub returns-then-self-clause-next : goal.returns-then-self-clause-next
returns-then-self-clause-next g c = λ bytes told given has.
    let v0 = g.D.Disk.view c.args.disk.now in
    let k : WalkAt = record { from = c.self.inside.from; end = c.self.inside.end; gate = c.self.inside.gate; is_done = c.self.inside.is_done } in
    let walking : IsWalking v0 k = subst (λ (q : WalkAt). IsWalking v0 q) (sym c.self.view_is) c.requires in
    let long = g.met.D.Disk.image_size c.args.disk.now bytes (g.met.D.Disk.as_it_reads c.args.disk.now bytes told) in
    let has_inside = subst (λ (q : WalkAt). HasWalked q bytes given) (sym c.self.view_is) has in
    (ap (λ (q : WalkAt). record q { is_done = true }) c.self.view_is, subst (λ (q : WalkAt). HasPayloads (region_of q.from q.end bytes) given) c.self.view_is (holds_empty k bytes given (omega (arith, walking.inside, long)) walking.low c.if-self.true walking.room has_inside))

pub returns-in_err-length-clause-walking : goal.returns-in_err-length-clause-walking
returns-in_err-length-clause-walking g c = walking_quiet (g.D.Disk.view c.args.disk.now) (g.D.Disk.view c.record_at.new.disk) c.args.self.now c.requires c.record_at.ensures.quiet

pub returns-in_err-length-clause-damaged : goal.returns-in_err-length-clause-damaged
returns-in_err-length-clause-damaged g c = λ offset is.
    let v0 = g.D.Disk.view c.args.disk.now in
    let k : WalkAt = record { from = c.self.inside.from; end = c.self.inside.end; gate = c.self.inside.gate; is_done = c.self.inside.is_done } in
    let walking : IsWalking v0 k = subst (λ (q : WalkAt). IsWalking v0 q) (sym c.self.view_is) c.requires in
    let p = err_from_is_err_and c.from_residual.result c.from_residual.ensures.1 in
    let e : c.in_err-length.field-0.0 ≡ JournalError.TheVariants.Damaged offset = cc (p.1, p.2, is) in
    let found = c.in_err-length.ensures.damaged offset (ap (λ (x : JournalError.JournalError). Err x) e) in
    let low = walking.low in
    let le : k.from ≤ offset = omega (arith, found.0, low) in
    (subst (λ (q : WalkAt). q.from ≤ offset) c.self.view_is le, subst (λ (q : WalkAt). IfTold v0 (λ bytes. IsDamagedAt (region_of q.from q.end bytes) (offset - q.from))) c.self.view_is (walking_damaged v0 k offset walking found.0 found.1))

pub returns-in_default-clause-walking : goal.returns-in_default-clause-walking
returns-in_default-clause-walking g c =
    let v0 = g.D.Disk.view c.args.disk.now in
    let k : WalkAt = record { from = c.self.inside.from; end = c.self.inside.end; gate = c.self.inside.gate; is_done = c.self.inside.is_done } in
    let walking : IsWalking v0 k = subst (λ (q : WalkAt). IsWalking v0 q) (sym c.self.view_is) c.requires in
    let v1 = g.D.Disk.view c.record_at.new.disk in
    walking_done v1 k (walking_quiet v0 v1 k walking c.record_at.ensures.quiet) (λ bytes told given has.
    holds_closed k bytes given walking.high (subst (λ (o : Option ℕ). FindsAt k.gate k.end bytes o) (none_is c.in_ok-length.field-0 c.in_default.not-Some) (c.in_ok-length.ensures.found bytes (sym c.record_at.ensures.quiet.told ∙ told))) has)

pub returns-in_default-clause-next : goal.returns-in_default-clause-next
returns-in_default-clause-next g c = λ bytes told given has.
    let v0 = g.D.Disk.view c.args.disk.now in
    let k : WalkAt = record { from = c.self.inside.from; end = c.self.inside.end; gate = c.self.inside.gate; is_done = c.self.inside.is_done } in
    let walking : IsWalking v0 k = subst (λ (q : WalkAt). IsWalking v0 q) (sym c.self.view_is) c.requires in
    let has_inside = subst (λ (q : WalkAt). HasWalked q bytes given) (sym c.self.view_is) has in (
      ap (λ (q : WalkAt). record q { is_done = true }) c.self.view_is,
      subst (λ (q : WalkAt). HasPayloads (region_of q.from q.end bytes) given) c.self.view_is
          (holds_closed k bytes given walking.high (subst (λ (o : Option ℕ). FindsAt k.gate k.end bytes o) (none_is c.in_ok-length.field-0 c.in_default.not-Some) (c.in_ok-length.ensures.found bytes told)) has_inside),
    )

pub returns-then-is_err-clause-walking : goal.returns-then-is_err-clause-walking
returns-then-is_err-clause-walking g c = walking_quiet (g.D.Disk.view c.args.disk.now) (g.D.Disk.view c.record_at.new.disk) c.args.self.now c.requires c.record_at.ensures.quiet

pub returns-then-is_err-clause-kept : goal.returns-then-is_err-clause-kept
returns-then-is_err-clause-kept g c = g.met.D.Disk.keeps_on true false _ _ _ c.in_ok-length.ensures.kept (g.met.D.Disk.keeps_same false _)

pub returns-in_err-fetch-clause-walking : goal.returns-in_err-fetch-clause-walking
returns-in_err-fetch-clause-walking g c =
    let v0 = g.D.Disk.view c.args.disk.now in
    let k : WalkAt = record { from = c.self.inside.from; end = c.self.inside.end; gate = c.self.inside.gate; is_done = c.self.inside.is_done } in
    let walking : IsWalking v0 k = subst (λ (q : WalkAt). IsWalking v0 q) (sym c.self.view_is) c.requires in
    let v1 = g.D.Disk.view c.record_at.new.disk in
    let v2 = g.D.Disk.view c.fetch.new.disk in
    walking_quiet v1 v2 k (walking_quiet v0 v1 k walking c.record_at.ensures.quiet) c.fetch.ensures.quiet

pub returns-in_err-fetch-clause-kept : goal.returns-in_err-fetch-clause-kept
returns-in_err-fetch-clause-kept g c =
    let p = err_from_is_err_and c.from_residual-in_err-fetch.result c.from_residual-in_err-fetch.ensures.1 in
    rw p.1 (g.met.D.Disk.keeps_on true false _ _ _ c.in_ok-length.ensures.kept c.in_err-fetch.ensures.kept)

pub returns-clause-walking : goal.returns-clause-walking
returns-clause-walking g c =
    let v0 = g.D.Disk.view c.args.disk.now in
    let k : WalkAt = record { from = c.self.inside.from; end = c.self.inside.end; gate = c.self.inside.gate; is_done = c.self.inside.is_done } in
    let walking : IsWalking v0 k = subst (λ (q : WalkAt). IsWalking v0 q) (sym c.self.view_is) c.requires in
    let v1 = g.D.Disk.view c.record_at.new.disk in
    let v2 = g.D.Disk.view c.fetch.new.disk in
    let bounds = rw c.in-Some.is at c.in_ok-length.ensures.bounds in
    walking_next v2 k c.in-Some.length (walking_quiet v1 v2 k (walking_quiet v0 v1 k walking c.record_at.ensures.quiet) c.fetch.ensures.quiet)
    (λ bytes told. subst (λ o. FindsAt k.gate k.end bytes o) c.in-Some.is (c.in_ok-length.ensures.found bytes (sym c.record_at.ensures.quiet.told ∙ (sym c.fetch.ensures.quiet.told ∙ told)))) bounds.2

pub returns-clause-next : goal.returns-clause-next
returns-clause-next g c = λ bytes told given has.
    let v0 = g.D.Disk.view c.args.disk.now in
    let k : WalkAt = record { from = c.self.inside.from; end = c.self.inside.end; gate = c.self.inside.gate; is_done = c.self.inside.is_done } in
    let walking : IsWalking v0 k = subst (λ (q : WalkAt). IsWalking v0 q) (sym c.self.view_is) c.requires in
    let many = c.in-Some.length in
    let bounds = rw c.in-Some.is at c.in_ok-length.ensures.bounds in
    let found = subst (λ (o : Option ℕ). FindsAt k.gate k.end bytes o) c.in-Some.is (c.in_ok-length.ensures.found bytes told) in
    let reads : c.extend_from_slice.new.self.items ≡ take many (drop (k.gate + 5) bytes) =
    rw (c.extend_from_slice.ensures.items, c.unwrap.ensures, c.clear.ensures.items, c.deref.ensures.value) (c.in_ok-fetch.ensures.bytes bytes (c.record_at.ensures.quiet.told ∙ told)) in
    let has_inside = subst (λ (q : WalkAt). HasWalked q bytes given) (sym c.self.view_is) has in
    let long = g.met.D.Disk.image_size c.args.disk.now bytes (g.met.D.Disk.as_it_reads c.args.disk.now bytes told) in
    let now = c.extend_from_slice.new.self.items in
    let more = has_more k many bytes now given found bounds.2 reads has_inside in
    let room = bounds.2 in
    (ap (λ (q : WalkAt). q.gate) c.self.view_is, more, subst (λ (q : WalkAt). BeginsWith (region_of q.from q.end bytes) (given ++ now ∷ [])) c.self.view_is (begins_walked (stepped k many) bytes (given ++ now ∷ []) (omega (arith, walking.inside, long)) (omega (arith, room)) more))

pub returns-clause-kept : goal.returns-clause-kept
returns-clause-kept g c = g.met.D.Disk.keeps_on true true _ _ _ c.in_ok-length.ensures.kept c.in_ok-fetch.ensures.kept
