-- The line of a soak, read back from its page.
use Rattle.std.proofs.Common.{◌≡◌, ℕ, List, [], ◌∷◌, ◌++◌, refl, sym, ap, subst, ◌∙◌, arith, codes, append_assoc}
use Rattle.std.specs.Fmt.{decimal}
use Rattle.rm_formats.specs.Wording.{spaced}
use Rattle.rm_page.proofs.Bytes.{cut, AreWords, words_lack, joined_lacks, number_word}
use Rattle.rm_page.proofs.ReadOperations.{cut_words}
use Rattle.rm_page_reader.specs.declared.soaks.SoakLine.{SoakLine}
use Rattle.rm_lines.specs.declared.errors.LineError.{LineError}
use Rattle.rm_lines.specs.declared.errors.LineError.TheVariants.{Refused, Memory}
use Rattle.rm_lines.specs.Cuts.{IsFirstLine}
use Rattle.rm_page_reader.specs.Answers.{IsWant}
use Rattle.rm_lines.specs.Results.{FindsNone, IsOf}
use Rattle.rm_page_reader.specs.Results.{at_page_line}
use Rattle.rm_page_reader.specs.Soaks.{IsSoak, soak_pieces, soak_text}
use Rattle.rm_page_reader.proofs.Paging.{first_line_is}

soak_words : (soak : SoakLine) → IsSoak soak → AreWords (soak_pieces soak)
soak_words soak is = (
  refl,
  (
    number_word soak.apps (omega (arith, is.apps)),
    (number_word soak.lives is.lives, (number_word soak.served is.served, (number_word soak.grants is.grants, (number_word soak.finished is.finished, (number_word soak.kept is.kept, tt))))),
  ),
)

after_byte : (byte : ℕ) (text more : List ℕ) → (byte ∷ text) ++ more ≡ byte ∷ (text ++ more)
after_byte byte text more = refl

joined : (a b c d e f l s g h k : List ℕ)
    → codes "soak " ++ (a ++ (32 ∷ (l ++ (b ++ (32 ∷ (s ++ (c ++ (32 ∷ (g ++ (d ++ (32 ∷ (h ++ (e ++ (32 ∷ (k ++ (f ++ codes "\n")))))))))))))))) ≡ spaced (codes "soak" ∷ a ∷ (l ++ b) ∷ (s ++ c) ∷ (g ++ d) ∷ (h ++ e) ∷ (k ++ f) ∷ []) ++ codes "\n"
joined a b c d e f l s g h k = simp (append_assoc, after_byte)

regrouped : (w a l b s c g d h e k f n : List ℕ) → w ++ a ++ l ++ b ++ s ++ c ++ g ++ d ++ h ++ e ++ k ++ f ++ n ≡ w ++ (a ++ (l ++ (b ++ (s ++ (c ++ (g ++ (d ++ (h ++ (e ++ (k ++ (f ++ n)))))))))))
regrouped w a l b s c g d h e k f n = simp append_assoc

soak_spaced : (soak : SoakLine) → soak_text soak ≡ spaced (soak_pieces soak) ++ codes "\n"
soak_spaced soak =
    regrouped (codes "soak ") (decimal soak.apps) (codes " lives=") (decimal soak.lives) (codes " served=") (decimal soak.served) (codes " grants=") (decimal soak.grants) (codes " finished=") (decimal soak.finished) (codes " kept=") (decimal soak.kept) (codes "\n")
    ∙ joined (decimal soak.apps) (decimal soak.lives) (decimal soak.served) (decimal soak.grants) (decimal soak.finished) (decimal soak.kept) (codes "lives=") (codes "served=") (codes "grants=") (codes "finished=") (codes "kept=")

pub soak_cut : (soak : SoakLine) (bytes one after : List ℕ) → IsSoak soak → bytes ≡ soak_text soak → IsFirstLine bytes one after → cut 32 one ≡ soak_pieces soak
soak_cut soak bytes one after is e first =
    let are = soak_words soak is in
    let pieces : List (List ℕ) = soak_pieces soak in
    let body = first_line_is (spaced pieces) [] one after (joined_lacks 10 32 pieces refl (words_lack 10 pieces refl are)) (subst (λ (text : List ℕ). IsFirstLine text one after) (e ∙ soak_spaced soak) first) in
    ap (cut 32) body.0 ∙ cut_words (codes "soak") _ are

pub soak_same : (one other : SoakLine) → soak_pieces one ≡ soak_pieces other → soak_text one ≡ soak_text other
soak_same one other e = soak_spaced one ∙ ap (λ (words : List (List ℕ)). spaced words ++ codes "\n") e ∙ sym (soak_spaced other)

-- a line that tells no soak is that of none
pub soak_wants : (bytes line after : List ℕ) (error : LineError) → IsFirstLine bytes line after → FindsNone error (IsOf soak_pieces IsSoak (cut 32 line)) → (soak : SoakLine) → IsSoak soak → bytes ≡ soak_text soak → IsWant (at_page_line error 1)
soak_wants bytes line after (Refused fault) first none soak is e = absurd (none soak (record { same = soak_cut soak bytes line after is e first; fits = is }))
soak_wants bytes line after Memory first none soak is e = tt

-- what is told is written as the bytes
pub soak_written : (bytes line after : List ℕ) (found : SoakLine) → IsFirstLine bytes line after → IsOf soak_pieces IsSoak (cut 32 line) found → (soak : SoakLine) → IsSoak soak → bytes ≡ soak_text soak → soak_text found ≡ bytes
soak_written bytes line after found first of soak is e = soak_same found soak (sym of.same ∙ soak_cut soak bytes line after is e first) ∙ sym e
