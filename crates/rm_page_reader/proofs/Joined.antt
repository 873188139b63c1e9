-- Items of lists that are two texts with a byte between them.
use Rattle.std.proofs.Common.{◌≡◌, ℕ, List, true, Result, refl, sym, ap, ◌∙◌}
use Rattle.rm_types.specs.declared.containers.Closing.{Closing}
use Rattle.rm_types.specs.declared.containers.Grant.{Grant}
use Rattle.rm_formats.specs.IdTexts.{container_text}
use Rattle.rm_formats.specs.Wording.{cause_text, grant_text, closing_text}
use Rattle.rm_page.specs.Ranges.{IsGrant, IsClosing}
use Rattle.rm_page.proofs.Bytes.{lacks}
use Rattle.rm_page.proofs.ReadIds.{container_lacks}
use Rattle.rm_lines.specs.declared.errors.LineError.{LineError}
use Rattle.rm_lines.specs.Results.{Finds, IsOf}
use Rattle.rm_lines.specs.Cuts.{IsFirstCut}
use Rattle.rm_lines.proofs.Parts.{found_as}
use Rattle.rm_page_reader.proofs.Arrows.{lacks_not, same_first}

pub grant_found : (bytes id node : List ℕ) (answer : Result Grant LineError) → IsFirstCut 64 bytes id node → Finds answer (λ grant. (id ≡ container_text grant.id) × (node ≡ grant.node) × IsGrant grant)
    → Finds answer (IsOf grant_text IsGrant bytes)
grant_found bytes id node answer cut finds =
    found_as _ _ answer (λ grant is. record { same = cut.whole ∙ rw (is.0, is.1) refl; fits = is.2 }) (λ grant of.
    let both = same_first 64 bytes (container_text grant.id) grant.node id node of.same (container_lacks 64 grant.id refl of.fits.id) cut in
    (both.0, both.1, of.fits)) finds

pub no_grant : (bytes : List ℕ) → lacks 64 bytes ≡ true → (grant : Grant) → IsOf grant_text IsGrant bytes grant → ⊥
no_grant bytes none grant of = lacks_not 64 (container_text grant.id) grant.node (ap (lacks 64) (sym of.same) ∙ none)

pub closing_found : (bytes id why : List ℕ) (answer : Result Closing LineError) → IsFirstCut 58 bytes id why → Finds answer (λ closing. (id ≡ container_text closing.id) × (why ≡ cause_text closing.cause) × IsClosing closing)
    → Finds answer (IsOf closing_text IsClosing bytes)
closing_found bytes id why answer cut finds =
    found_as _ _ answer (λ closing is. record { same = cut.whole ∙ rw (is.0, is.1) refl; fits = is.2 }) (λ closing of.
    let both = same_first 58 bytes (container_text closing.id) (cause_text closing.cause) id why of.same (container_lacks 58 closing.id refl of.fits) cut in
    (both.0, both.1, of.fits)) finds

pub no_closing : (bytes : List ℕ) → lacks 58 bytes ≡ true → (closing : Closing) → IsOf closing_text IsClosing bytes closing → ⊥
no_closing bytes none closing of = lacks_not 58 (container_text closing.id) (cause_text closing.cause) (ap (lacks 58) (sym of.same) ∙ none)
