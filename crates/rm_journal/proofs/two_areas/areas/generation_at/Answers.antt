use Rattle.std.proofs.lemmas.Result.{err_from_is_err_and}
use Rattle.std.proofs.Common.{◌≡◌, ℕ, true, false, Option, Some, Err, sym, ◌∙◌, ap, subst, arith}
use Rattle.std.proofs.lemmas.Nat.{from_be_bytes-to_be_bytes_8}
use Rattle.rm_journal.specs.declared.fault.JournalError
use Rattle.rm_journal.specs.Journal.{FindsAt}
use Rattle.rm_journal.proofs.two_areas.Heads.{none_is, shut_found, damage_found, no_generation, generation_found}
use Rattle.rm_journal.proofs.two_areas.areas.generation_at.Goals as goal

pub returns-in_err-length-clause-damaged : goal.returns-in_err-length-clause-damaged
returns-in_err-length-clause-damaged g c = λ offset is.
    let p = err_from_is_err_and c.from_residual.result c.from_residual.ensures.1 in
    let e : c.in_err-length.field-0.0 ≡ JournalError.TheVariants.Damaged offset = cc (p.1, p.2, is) in
    let found = c.in_err-length.ensures.damaged offset (ap (λ (x : JournalError.JournalError). Err x) e) in
    (found.0, λ bytes told. damage_found c.args.from c.args.end bytes (found.1 bytes told))

pub returns-in_default-clause-found : goal.returns-in_default-clause-found
returns-in_default-clause-found g c = λ bytes told.
    shut_found c.args.from c.args.end bytes (subst (λ (o : Option ℕ). FindsAt c.args.from c.args.end bytes o) (none_is c.in_ok-length.field-0 c.in_default.not-Some) (c.in_ok-length.ensures.found bytes told))

pub returns-then-length-ne8-clause-kept : goal.returns-then-length-ne8-clause-kept
returns-then-length-ne8-clause-kept g c = g.met.D.Disk.keeps_on true false _ _ _ c.in_ok-length.ensures.kept (g.met.D.Disk.keeps_same false _)

pub returns-in_err-read-clause-kept : goal.returns-in_err-read-clause-kept
returns-in_err-read-clause-kept g c =
    let p = err_from_is_err_and c.from_residual-in_err-read.result c.from_residual-in_err-read.ensures.1 in
    rw p.1 (g.met.D.Disk.keeps_on true false _ _ _ c.in_ok-length.ensures.kept c.in_err-read.ensures.kept)

pub returns-then-generation-eq0-clause-kept : goal.returns-then-generation-eq0-clause-kept
returns-then-generation-eq0-clause-kept g c = g.met.D.Disk.keeps_on true false _ _ _ c.in_ok-length.ensures.kept (g.met.D.Disk.keeps_on true false _ _ _ c.in_ok-read.ensures.kept (g.met.D.Disk.keeps_same false _))

pub returns-clause-kept : goal.returns-clause-kept
returns-clause-kept g c = g.met.D.Disk.keeps_on true true _ _ _ c.in_ok-length.ensures.kept c.in_ok-read.ensures.kept

pub returns-clause-found : goal.returns-clause-found
returns-clause-found g c = λ bytes told.
    let found = subst (λ (o : Option ℕ). FindsAt c.args.from c.args.end bytes o) (c.in-Some.is ∙ ap (λ (n : ℕ). Some n) c.if-length-ne8.false) (c.in_ok-length.ensures.found bytes told) in
    let bounds = rw c.in-Some.is at c.in_ok-length.ensures.bounds in
    let eight = c.if-length-ne8.false in
    let high = c.generation_of-generation.type_inv in
    generation_found c.args.from c.args.end bytes c.read.new.into c.generation_of-generation.result found (let room = bounds.2 in omega (arith, room, eight)) (c.in_ok-read.ensures.bytes bytes (c.record_at.ensures.quiet.told ∙ told)) c.generation_of-generation.ensures.code (omega (arith, high)) c.if-generation-eq0.false

pub returns-then-generation-eq0-clause-damaged : goal.returns-then-generation-eq0-clause-damaged
returns-then-generation-eq0-clause-damaged g c = λ offset is. (
  cc,
  λ bytes told.
      let found = subst (λ (o : Option ℕ). FindsAt c.args.from c.args.end bytes o) (c.in-Some.is ∙ ap (λ (n : ℕ). Some n) c.if-length-ne8.false) (c.in_ok-length.ensures.found bytes told) in
      let bounds = rw c.in-Some.is at c.in_ok-length.ensures.bounds in
      let eight = c.if-length-ne8.false in
      no_generation c.args.from c.args.end bytes c.read.new.into found (let room = bounds.2 in omega (arith, room, eight)) (c.in_ok-read.ensures.bytes bytes (c.record_at.ensures.quiet.told ∙ told))
      (sym c.generation_of-generation.ensures.value ∙ c.if-generation-eq0.true) from_be_bytes-to_be_bytes_8,
)
