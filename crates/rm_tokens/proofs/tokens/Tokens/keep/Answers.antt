use Rattle.std.proofs.Common.{◌≡◌, ◌+◌, ℕ, None, Result, sym, subst, ◌∙◌, ap, refl}
use Rattle.rm_tokens.specs.declared.fault.TokenError.{TokenError}
use Rattle.rm_tokens.specs.Calls.{journal_refusal}
use Rattle.rm_tokens.specs.Errors.{failure}
use Rattle.rm_tokens.specs.Held.{TokensAt, IsWhole, needed_for}
use Rattle.rm_tokens.specs.Rows.{rows_after}
use Rattle.rm_tokens.proofs.Stands.{admitted_open, does_nothing, does_fail, does_keep, sound_after, keeps_done}
use Rattle.rm_tokens.proofs.tokens.Tokens.keep.Goals as goal

pub write_record-requires-clause-whole : goal.write_record-requires-clause-whole
write_record-requires-clause-whole g c =
    let t = c.args.self.now in
    let size = ap (λ (n : ℕ). journal_refusal t (n + 6)) c.record_length.ensures.value in
    let none : journal_refusal t (needed_for c.args.entry) ≡ None = sym (c.admit.ensures ∙ size) ∙ ap (λ (r : Result (Unit {0}) TokenError). failure r) c.in_ok-admit.was in
    let journal = ap (λ (s : TokensAt). s.journal) c.self.view_is in
    subst (IsWhole (g.D.Disk.view c.args.disk.now)) (cc journal) (c.requires.sound.1.journal (admitted_open t (needed_for c.args.entry) none).0)

pub returns-then-is_err-clause-does : goal.returns-then-is_err-clause-does
returns-then-is_err-clause-does g c =
    let t = c.args.self.now in
    let size = ap (λ (n : ℕ). journal_refusal t (n + 6)) c.record_length.ensures.value in
    let none : journal_refusal t (needed_for c.args.entry) ≡ None = sym (c.admit.ensures ∙ size) ∙ ap (λ (r : Result (Unit {0}) TokenError). failure r) c.in_ok-admit.was in
    let rows = ap (λ (s : TokensAt). s.rows) c.self.view_is in
    let limits = ap (λ (s : TokensAt). s.limits) c.self.view_is in
    does_nothing g.D.Disk.view c.args.disk.now t _ c.args.entry none (cc (rows, c.reserve.ensures.items)) (cc limits) refl

pub returns-in-Err-clause-does : goal.returns-in-Err-clause-does
returns-in-Err-clause-does g c =
    let t = c.args.self.now in
    let size = ap (λ (n : ℕ). journal_refusal t (n + 6)) c.record_length.ensures.value in
    let none : journal_refusal t (needed_for c.args.entry) ≡ None = sym (c.admit.ensures ∙ size) ∙ ap (λ (r : Result (Unit {0}) TokenError). failure r) c.in_ok-admit.was in
    let rows = ap (λ (s : TokensAt). s.rows) c.self.view_is in
    let limits = ap (λ (s : TokensAt). s.limits) c.self.view_is in
    does_fail g.D.Disk.view c.args.disk.now c.write_record.new.disk t _ c.args.entry c.in-Err.why none c.in-Err.ensures.early (cc (rows, c.reserve.ensures.items)) (cc limits) refl c.requires.fits c.in-Err.ensures.errors c.in-Err.ensures.moments

pub returns-clause-does : goal.returns-clause-does
returns-clause-does g c =
    let t = c.args.self.now in
    let size = ap (λ (n : ℕ). journal_refusal t (n + 6)) c.record_length.ensures.value in
    let none : journal_refusal t (needed_for c.args.entry) ≡ None = sym (c.admit.ensures ∙ size) ∙ ap (λ (r : Result (Unit {0}) TokenError). failure r) c.in_ok-admit.was in
    let w = c.in-Ok.ensures in
    let rows = ap (λ (s : TokensAt). s.rows) c.self.view_is in
    let limits = ap (λ (s : TokensAt). s.limits) c.self.view_is in
    let broken = ap (λ (s : TokensAt). s.is_broken) c.self.view_is in
    let sound = (admitted_open t (needed_for c.args.entry) none).0 in
    let grown = c.apply_record.ensures ∙ ap (λ r. rows_after r c.args.entry) (cc (rows, c.reserve.ensures.items)) in
    does_keep g.D.Disk.view c.args.disk.now c.write_record.new.disk t _ c.args.entry none
    (keeps_done g.D.Disk.view c.args.disk.now c.write_record.new.disk t _ c.args.entry sound w.whole w.unbroken grown (cc limits) (cc (broken, sound)) c.requires.fits c.requires.entry w.tells w.moments w.read w.images)

pub returns-clause-sound : goal.returns-clause-sound
returns-clause-sound g c =
    let t = c.args.self.now in
    let size = ap (λ (n : ℕ). journal_refusal t (n + 6)) c.record_length.ensures.value in
    let none : journal_refusal t (needed_for c.args.entry) ≡ None = sym (c.admit.ensures ∙ size) ∙ ap (λ (r : Result (Unit {0}) TokenError). failure r) c.in_ok-admit.was in
    sound_after g.D.Disk.view c.args.disk.now c.write_record.new.disk t _ c.args.entry none (returns-clause-does g c) c.requires.sound
