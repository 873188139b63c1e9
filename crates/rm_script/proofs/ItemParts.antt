-- The parts of the texts of items, and the texts that they make.
use Rattle.std.proofs.Common.{◌≡◌, ℕ, ◌^◌, ◌<◌, true, List, [], ◌∷◌, Result, Ok, Err, refl, sym, ap, ◌∙◌, arith}
use Rattle.std.specs.Fmt.{decimal}
use Rattle.std.specs.List.{join_with_byte}
use Rattle.rm_types.specs.declared.containers.Ask.{Ask}
use Rattle.rm_types.specs.declared.containers.Held.{Held}
use Rattle.rm_formats.specs.IdTexts.{container_text}
use Rattle.rm_formats.specs.Wording.{held_text, ask_text}
use Rattle.rm_page.proofs.Bytes.{lacks, lacks_failing, is_part_byte, decimal_made, join_cut, cut_joined}
use Rattle.rm_page.proofs.ReadIds.{container_lacks}
use Rattle.rm_lines.specs.declared.errors.LineError.{LineError}
use Rattle.rm_lines.specs.declared.errors.LineError.TheVariants.{Refused, Memory}
use Rattle.rm_types.specs.Messages.{IsHeld, IsAsk}
use Rattle.rm_lines.specs.Results.{IsOf, Finds}
use Rattle.rm_page.proofs.Bytes.{cut}
use Rattle.rm_script.specs.Pieces.{held_parts, ask_parts}

-- what is found by the parts is found of the whole
rejoined : {X : Type 0} (written : X → List ℕ) (parts : X → List (List ℕ)) (Fits : X → Type 0) → ((x : X) → written x ≡ join_with_byte 58 (parts x)) → ((x : X) → Fits x → cut 58 (written x) ≡ parts x)
    → (word : List ℕ) (answer : Result X LineError) → Finds answer (IsOf parts Fits (cut 58 word)) → Finds answer (IsOf written Fits word)
rejoined written parts Fits joins cuts word (Ok x) is = record { same = sym (join_cut 58 word) ∙ ap (join_with_byte 58) is.same ∙ sym (joins x); fits = is.fits }
rejoined written parts Fits joins cuts word (Err (Refused fault)) none = λ x is. none x (record { same = ap (cut 58) is.same ∙ cuts x is.fits; fits = is.fits })
rejoined written parts Fits joins cuts word (Err Memory) none = tt

number_lacks : (number : ℕ) → number < 2 ^ 64 → lacks 58 (decimal number) ≡ true
number_lacks number fits = lacks_failing is_part_byte 58 (decimal number) refl (decimal_made number fits)

cut-held : (held : Held) → IsHeld held → cut 58 (held_text held) ≡ held_parts held
cut-held held is =
    cut_joined 58 (container_text held.id) (decimal held.size.memory_mb ∷ decimal held.size.vcores ∷ [])
    (container_lacks 58 held.id refl is.id, (number_lacks held.size.memory_mb (omega (arith, is.size.memory.1)), (number_lacks held.size.vcores (omega (arith, is.size.vcores.1)), tt)))

cut-ask : (ask : Ask) → IsAsk ask → cut 58 (ask_text ask) ≡ ask_parts ask
cut-ask ask is =
    cut_joined 58 (decimal ask.priority) (decimal ask.count ∷ decimal ask.size.memory_mb ∷ decimal ask.size.vcores ∷ []) (
      number_lacks ask.priority (omega (arith, is.priority.1)),
      (
        number_lacks ask.count (omega (arith, is.count.1)),
        (number_lacks ask.size.memory_mb (omega (arith, is.size.memory.1)), (number_lacks ask.size.vcores (omega (arith, is.size.vcores.1)), tt)),
      ),
    )

pub held_found : (word : List ℕ) (answer : Result Held LineError) → Finds answer (IsOf held_parts IsHeld (cut 58 word)) → Finds answer (IsOf held_text IsHeld word)
held_found word answer found = rejoined held_text held_parts IsHeld (λ held. refl) cut-held word answer found

pub ask_found : (word : List ℕ) (answer : Result Ask LineError) → Finds answer (IsOf ask_parts IsAsk (cut 58 word)) → Finds answer (IsOf ask_text IsAsk word)
ask_found word answer found = rejoined ask_text ask_parts IsAsk (λ ask. refl) cut-ask word answer found
