-- The parts of entries, by the words behind the first.
use Rattle.std.proofs.Common.{◌≡◌, ℕ, ◌+◌, ◌<◌, false, List, [], ◌∷◌, ◌++◌, length, take, map, get_or, All, refl, sym, ap, ◌∙◌, arith, codes, suc}
use Rattle.std.specs.List.{AllByRecursion}
use Rattle.std.specs.Str.{bytes_eq}
use Rattle.std.proofs.Math.Seq.{take-suc}
use Rattle.std.proofs.lemmas.List.{map-append}
use Rattle.std.proofs.lemmas.List.Elements.{All-from_recursion, recursion_from_All}
use Rattle.rm_types.specs.declared.containers.Grant.{Grant}
use Rattle.rm_types.specs.declared.containers.Held.{Held}
use Rattle.rm_types.specs.declared.entries.Entry.{Entry}
use Rattle.rm_types.specs.declared.entries.Entry.TheVariants as entries
use Rattle.rm_types.specs.declared.ids.ContainerId.{ContainerId}
use Rattle.rm_types.specs.declared.texts.TextKind.TheVariants.{Node}
use Rattle.rm_types.specs.Ranges.{IsText, IsAppId, IsAttemptId, IsContainerId}
use Rattle.rm_formats.specs.IdTexts.{app_text, attempt_text, container_text}
use Rattle.rm_formats.specs.Wording.{bracketed}
use Rattle.rm_page.specs.Ranges.{IsPageHeld, IsGrant}
use Rattle.rm_lines.proofs.Parts.{differ, heads, Starts}
use Rattle.rm_page_reader.specs.Answers.{IsPlain}
use Rattle.rm_page_reader.specs.Pieces.{entry_pieces}
use Rattle.rm_lines.specs.Results.{IsOf}

first_word : List (List ℕ) → List ℕ
first_word [] = []
first_word (word ∷ words) = word

-- an accepted application
pub accepted_parts : (words : List (List ℕ)) (entry : Entry) → IsOf entry_pieces IsPlain (codes "accepted" ∷ words) entry → Starts app_text IsAppId words
unfolding first_word
accepted_parts words (entries.Accepted app) of = (app, [], (heads of.same).1, of.fits)
accepted_parts words entry of = absurd (differ (codes "accepted") (first_word (entry_pieces entry)) refl (ap first_word of.same))

-- a queued attempt
pub queued_parts : (words : List (List ℕ)) (entry : Entry) → IsOf entry_pieces IsPlain (codes "queued" ∷ words) entry → Starts attempt_text IsAttemptId words
unfolding first_word
queued_parts words (entries.Queued attempt) of = (attempt, [], (heads of.same).1, of.fits)
queued_parts words entry of = absurd (differ (codes "queued") (first_word (entry_pieces entry)) refl (ap first_word of.same))

-- a container that is ordered
pub record IsOrdered (words : List (List ℕ)) : Type 0 where
  pub container : ContainerId
  pub node : List ℕ
  pub same : words ≡ container_text container ∷ node ∷ []
  pub container_is : IsContainerId container
  pub node_is : IsText Node node

pub ordered_parts : (words : List (List ℕ)) (entry : Entry) → IsOf entry_pieces IsPlain (codes "ordered" ∷ words) entry → IsOrdered words
unfolding first_word
ordered_parts words (entries.Ordered container node) of = record { container = container; node = node; same = (heads of.same).1; container_is = of.fits.0; node_is = of.fits.1 }
ordered_parts words entry of = absurd (differ (codes "ordered") (first_word (entry_pieces entry)) refl (ap first_word of.same))

-- an absorption
pub record IsAbsorbed (words : List (List ℕ)) : Type 0 where
  pub node : List ℕ
  pub taken : List Held
  pub ended : List ContainerId
  pub same : words ≡ node ∷ (codes "taken=" ++ bracketed (map (λ held. container_text held.id) taken)) ∷ (codes "ended=" ++ bracketed (map container_text ended)) ∷ []
  pub node_is : IsText Node node
  pub taken_are : All IsPageHeld taken
  pub ended_are : All IsContainerId ended

pub absorbed_parts : (words : List (List ℕ)) (entry : Entry) → IsOf entry_pieces IsPlain (codes "absorbed" ∷ words) entry → IsAbsorbed words
unfolding first_word
absorbed_parts words (entries.Absorbed node taken ended) of = record { node = node; taken = taken; ended = ended; same = (heads of.same).1; node_is = of.fits.0; taken_are = of.fits.1; ended_are = of.fits.2 }
absorbed_parts words entry of = absurd (differ (codes "absorbed") (first_word (entry_pieces entry)) refl (ap first_word of.same))

-- ---- passes

-- a pass tells the containers that it grants
pub record IsPass (words : List (List ℕ)) : Type 0 where
  pub node : List ℕ
  pub ids : List ContainerId
  pub same : words ≡ node ∷ (codes "grants=" ++ bracketed (map container_text ids)) ∷ []
  pub node_is : IsText Node node
  pub ids_are : All IsContainerId ids

same_ids : (grants : List Grant) → map container_text (map (λ grant. grant.id) grants) ≡ map (λ grant. container_text grant.id) grants
same_ids [] = refl
same_ids (grant ∷ grants) = ap (λ (texts : List (List ℕ)). container_text grant.id ∷ texts) (same_ids grants)

granted_ids : (grants : List Grant) → AllByRecursion IsGrant grants → AllByRecursion IsContainerId (map (λ grant. grant.id) grants)
granted_ids [] all = tt
granted_ids (grant ∷ grants) all = (all.0.id, granted_ids grants all.1)

pub pass_parts : (words : List (List ℕ)) (entry : Entry) → IsOf entry_pieces IsPlain (codes "pass" ∷ words) entry → IsPass words
unfolding first_word
pass_parts words (entries.Pass node grants) of = record {
  node = node;
  ids = map (λ grant. grant.id) grants;
  same = (heads of.same).1 ∙ ap (λ (texts : List (List ℕ)). node ∷ (codes "grants=" ++ bracketed texts) ∷ []) (sym (same_ids grants));
  node_is = of.fits.0;
  ids_are = All-from_recursion IsContainerId (map (λ grant. grant.id) grants) (granted_ids grants (recursion_from_All IsGrant grants of.fits.1));
}
pass_parts words entry of = absurd (differ (codes "pass") (first_word (entry_pieces entry)) refl (ap first_word of.same))

pub pass_is : (words second third : List (List ℕ)) (node : List ℕ) (ids : List ContainerId) (grants : List Grant) (entry : Entry) → words ≡ node ∷ second → second ≡ (codes "grants=" ++ bracketed (map container_text ids)) ∷ third
    → third ≡ [] → IsText Node node → All IsGrant grants → map (λ grant. grant.id) grants ≡ ids → entry ≡ entries.Pass node grants → IsOf entry_pieces IsPlain (codes "pass" ∷ words) entry
pass_is words second third node ids grants entry first behind last node_is are same e = rw e (record {
  same = ap (λ (more : List (List ℕ)). codes "pass" ∷ more) (first ∙ ap (λ (more : List (List ℕ)). node ∷ more) (behind ∙ ap (λ (more : List (List ℕ)). (codes "grants=" ++ bracketed (map container_text ids)) ∷ more) last))
      ∙ ap (λ (texts : List (List ℕ)). codes "pass" ∷ node ∷ (codes "grants=" ++ bracketed texts) ∷ []) (ap (map container_text) (sym same) ∙ same_ids grants);
  fits = (node_is, are);
})

-- what is read where no id stands
abbrev pub no_id : ContainerId
no_id = record { attempt = record { app = record { stamp = 0; number = 0 }; number = 0 }; epoch = 0; seq = 0 }

-- the first grants are of the first containers
pub more_ids : (grants pushed : List Grant) (grant : Grant) (items ids : List ContainerId) (index : ℕ) → items ≡ ids → pushed ≡ grants ++ grant ∷ [] → map (λ one. one.id) grants ≡ take index ids
    → grant.id ≡ get_or items index no_id → index < length items → map (λ one. one.id) pushed ≡ take (index + 1) ids
more_ids grants pushed grant items ids index all e same id h =
    ap (map (λ one. one.id)) e ∙ map-append (λ one. one.id) grants (grant ∷ []) ∙ ap (λ (front : List ContainerId). front ++ grant.id ∷ []) (same ∙ ap (take index) (sym all))
    ∙ ap (λ (last : ContainerId). take index items ++ last ∷ []) id ∙ sym (take-suc items index no_id h) ∙ (let on : suc index ≡ index + 1 = omega arith in ap (λ n. take n items) on) ∙ ap (take (index + 1)) all

-- ---- other words

-- the line of an entry that says of no message that it was answered begins with one of these words
pub no_entry : (word : List ℕ) (words : List (List ℕ)) → bytes_eq word (codes "opened") ≡ false → bytes_eq word (codes "issued") ≡ false → bytes_eq word (codes "kept") ≡ false → bytes_eq word (codes "blown") ≡ false
    → bytes_eq word (codes "accepted") ≡ false → bytes_eq word (codes "queued") ≡ false → bytes_eq word (codes "absorbed") ≡ false → bytes_eq word (codes "pass") ≡ false → bytes_eq word (codes "ordered") ≡ false
    → bytes_eq word (codes "ended") ≡ false → bytes_eq word (codes "settled") ≡ false → bytes_eq word (codes "down") ≡ false → (entry : Entry) → IsOf entry_pieces IsPlain (word ∷ words) entry → ⊥
unfolding first_word
no_entry word words opened issued kept blown accepted queued absorbed pass ordered ended settled down entries.Handed of = absurd of.fits
no_entry word words opened issued kept blown accepted queued absorbed pass ordered ended settled down (entries.Quiet lane) of = absurd of.fits
no_entry word words opened issued kept blown accepted queued absorbed pass ordered ended settled down (entries.Served sender message reply) of = absurd of.fits
no_entry word words opened issued kept blown accepted queued absorbed pass ordered ended settled down (entries.Opened landed epoch stamp) of = differ word (codes "opened") opened (ap first_word of.same)
no_entry word words opened issued kept blown accepted queued absorbed pass ordered ended settled down (entries.Issued op) of = differ word (codes "issued") issued (ap first_word of.same)
no_entry word words opened issued kept blown accepted queued absorbed pass ordered ended settled down (entries.Kept op) of = differ word (codes "kept") kept (ap first_word of.same)
no_entry word words opened issued kept blown accepted queued absorbed pass ordered ended settled down (entries.Blown passed) of = differ word (codes "blown") blown (ap first_word of.same)
no_entry word words opened issued kept blown accepted queued absorbed pass ordered ended settled down (entries.Accepted app) of = differ word (codes "accepted") accepted (ap first_word of.same)
no_entry word words opened issued kept blown accepted queued absorbed pass ordered ended settled down (entries.Queued attempt) of = differ word (codes "queued") queued (ap first_word of.same)
no_entry word words opened issued kept blown accepted queued absorbed pass ordered ended settled down (entries.Absorbed node taken end) of = differ word (codes "absorbed") absorbed (ap first_word of.same)
no_entry word words opened issued kept blown accepted queued absorbed pass ordered ended settled down (entries.Pass node grants) of = differ word (codes "pass") pass (ap first_word of.same)
no_entry word words opened issued kept blown accepted queued absorbed pass ordered ended settled down (entries.Ordered container node) of = differ word (codes "ordered") ordered (ap first_word of.same)
no_entry word words opened issued kept blown accepted queued absorbed pass ordered ended settled down (entries.Ended cause list) of = differ word (codes "ended") ended (ap first_word of.same)
no_entry word words opened issued kept blown accepted queued absorbed pass ordered ended settled down entries.Settled of = differ word (codes "settled") settled (ap first_word of.same)
no_entry word words opened issued kept blown accepted queued absorbed pass ordered ended settled down entries.Down of = differ word (codes "down") down (ap first_word of.same)
