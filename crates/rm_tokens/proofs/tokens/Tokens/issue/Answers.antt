use Rattle.std.proofs.Common.{◌≡◌, ◌+◌, ℕ, None, Some, Result, length, sym, subst, ◌∙◌, ap, refl}
use Rattle.std.proofs.lemmas.Result.{err_from_is_err_and}
use Rattle.rm_tokens.specs.declared.fault.TokenError.{TokenError}
use Rattle.rm_tokens.specs.declared.token.TokenRecord.{TokenRecord}
use Rattle.rm_tokens.specs.declared.token.TokenRecord.TheVariants.{Issued}
use Rattle.rm_tokens.specs.Calls.{journal_refusal, kept_unless, Does, issued_token}
use Rattle.rm_tokens.specs.Errors.{failure}
use Rattle.rm_tokens.specs.Held.{TokensAt, needed_for}
use Rattle.rm_tokens.proofs.Stands.{does_nothing, does_refuse}
use Rattle.rm_tokens.proofs.tokens.Tokens.issue.Goals as goal

pub returns-in_err-admit-clause-does : goal.returns-in_err-admit-clause-does
returns-in_err-admit-clause-does g c =
    let t = c.args.self.now in
    let number = length t.rows + 1 in
    let token = issued_token t.limits c.args.owner.now c.args.renewer.now c.args.now in
    let entry : TokenRecord = Issued number token in
    let p = err_from_is_err_and c.from_residual.result c.from_residual.ensures.1 in
    let size = ap (λ (n : ℕ). journal_refusal t (n + 6)) (c.issue_length.ensures.value number token.until token.last) in
    let some : journal_refusal t (needed_for entry) ≡ Some p.0 = sym (c.admit.ensures ∙ size) ∙ ap (λ (r : Result (Unit {0}) TokenError). failure r) c.in_err-admit.was ∙ ap (λ (e : TokenError). Some e) (sym p.2) in
    subst (λ (r : Result ℕ TokenError). Does g.D.Disk.view (kept_unless (journal_refusal t (needed_for entry)) entry) c.args.disk.now c.args.disk.now t t (failure r)) (sym p.1)
    (does_refuse g.D.Disk.view c.args.disk.now t entry p.0 some)

pub returns-in_default-clause-does : goal.returns-in_default-clause-does
returns-in_default-clause-does g c =
    let t = c.args.self.now in
    let number = length t.rows + 1 in
    let token = issued_token t.limits c.args.owner.now c.args.renewer.now c.args.now in
    let entry : TokenRecord = Issued number token in
    let size = ap (λ (n : ℕ). journal_refusal t (n + 6)) (c.issue_length.ensures.value number token.until token.last) in
    let none : journal_refusal t (needed_for entry) ≡ None = sym (c.admit.ensures ∙ size) ∙ ap (λ (r : Result (Unit {0}) TokenError). failure r) c.in_ok-admit.was in
    let rows = ap (λ (s : TokensAt). s.rows) c.self.view_is in
    let limits = ap (λ (s : TokensAt). s.limits) c.self.view_is in
    does_nothing g.D.Disk.view c.args.disk.now t _ entry none (cc rows) (cc limits) refl
