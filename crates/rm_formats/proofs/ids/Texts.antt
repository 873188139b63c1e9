-- The texts of ids are words and numbers, and what bytes go along the one go along the other.
use Rattle.std.proofs.Common.{◌≡◌, ℕ, ◌-◌, ◌^◌, ◌<◌, ◌≤◌, Bool, true, false, cond, eqb, List, [], ◌∷◌, ◌++◌, length, replicate, refl, sym, ap, subst, ◌∙◌, append_assoc, append-nil, arith, inl, inr}
use Rattle.std.specs.Prelude.{codes}
use Rattle.std.specs.Fmt.{decimal}
use Rattle.std.proofs.lemmas.Bool.{ne_eqb, cases_lt}
use Rattle.std.proofs.lemmas.Fmt.{decimal_nonempty}
use Rattle.std.proofs.lemmas.List.{append_cancel_left}
use Rattle.rm_types.specs.declared.ids.AppId.{AppId}
use Rattle.rm_types.specs.declared.ids.AttemptId.{AttemptId}
use Rattle.rm_types.specs.declared.ids.ContainerId.{ContainerId}
use Rattle.rm_formats.specs.IdTexts.{padded, app_text, attempt_text, container_text, container_end}
use Rattle.rm_types.specs.Ranges.{IsWithin, IsAppId, IsAttemptId, IsContainerId}
use Rattle.rm_formats.specs.declared.ids.parts.Part.{Part}
use Rattle.rm_formats.specs.declared.ids.parts.Part.TheVariants.{Stamp, AppNumber, AttemptNumber, AttemptInContainer, Epoch, Sequence}
use Rattle.rm_formats.specs.ids.Digits.{AreDigits}
use Rattle.rm_formats.specs.ids.Fronts.{IsAppText, IsAttemptText, IsContainerText, IsFrontOf}
use Rattle.rm_formats.specs.ids.Steps.{After, NumberThen, AreFields, Refuses, LeavesWord, LacksByte}
use Rattle.rm_formats.specs.ids.Spelling.{app_parts, grant_parts, app_then, container_numbers_text, epoch_then, IsGrantText}
use Rattle.rm_formats.proofs.ids.Digits.{heads_alike, HasDigit, padded_is_digits, length-padded}
use Rattle.rm_formats.proofs.ids.Refusals.{Inhabits, fields_have_text, number_has_text, behind_word, alike, Either, either}

-- ---- an application's numbers

padded_one : (number : ℕ) → number < 2 ^ 64 → padded 1 number ≡ decimal number
padded_one number fits =
    let none : 1 - length (decimal number) ≡ 0 = omega (arith, decimal_nonempty number fits) in
    ap (λ n. replicate n 48 ++ decimal number) none

-- a stamp and what follows it
stamp_then : (stamp : ℕ) (a b : List ℕ) → stamp < 2 ^ 64 → a ≡ b → decimal stamp ++ (codes "_" ++ a) ≡ padded 1 stamp ++ (codes "_" ++ b)
stamp_then stamp a b fits same = ap (λ (t : List ℕ). t ++ (codes "_" ++ a)) (sym (padded_one stamp fits)) ∙ ap (λ (t : List ℕ). padded 1 stamp ++ (codes "_" ++ t)) same

stamp_fits : (id : AppId) → IsAppId id → id.stamp < 2 ^ 64
stamp_fits id is = omega (arith, is.stamp.1)

-- an application's numbers stand in front of more of them
record LeadsWithApp (more : List Part) (text : List ℕ) : Type 0 where
  pub id : AppId
  pub is : IsAppId id
  pub rest : List ℕ
  pub same : text ≡ app_then id rest
  pub tail : AreFields more rest

app_fields : (more : List Part) (id : AppId) (rest : List ℕ) → IsAppId id → AreFields more rest → AreFields (Stamp ∷ AppNumber ∷ more) (app_then id rest)
app_fields more id rest is tail = record {
  rest = padded 1 id.stamp ++ (codes "_" ++ (padded 4 id.number ++ rest));
  same = refl;
  is = record {
    number = id.stamp;
    rest = codes "_" ++ (padded 4 id.number ++ rest);
    within = is.stamp;
    same = refl;
    is = record { rest = padded 4 id.number ++ rest; same = refl; is = record { number = id.number; rest = rest; within = is.number; same = refl; is = tail } };
  };
}

leads_with_app : (more : List Part) (text : List ℕ) → AreFields (Stamp ∷ AppNumber ∷ more) text → LeadsWithApp more text
leads_with_app more text fields =
    let stamp = fields.is in
    let bar = fields.is.is in
    let number = fields.is.is.is in
    record {
      id = record { stamp = stamp.number; number = number.number };
      is = record { stamp = stamp.within; number = number.within };
      rest = number.rest;
      same = fields.same ∙ ap (λ (t : List ℕ). codes "_" ++ t) (stamp.same ∙ ap (λ (t : List ℕ). padded 1 stamp.number ++ t) (bar.same ∙ ap (λ (t : List ℕ). codes "_" ++ t) number.same));
      tail = number.is;
    }

-- ---- applications

pub app_spelled : (id : AppId) → IsAppId id → app_text id ≡ codes "application" ++ app_then id []
app_spelled id is =
    ap (λ (t : List ℕ). codes "application_" ++ t) (stamp_then id.stamp (padded 4 id.number) (padded 4 id.number ++ []) (stamp_fits id is) (sym (append-nil (padded 4 id.number))))

app_text_from : (text : List ℕ) → After (codes "application") (AreFields app_parts) text → IsAppText text
app_text_from text after =
    let app = leads_with_app [] after.rest after.is in
    record {
      id = app.id;
      is = app.is;
      same = after.same ∙ ap (λ (t : List ℕ). codes "application" ++ t) (app.same ∙ ap (app_then app.id) app.tail) ∙ sym (app_spelled app.id app.is);
    }

app_text_to : (text : List ℕ) → IsAppText text → After (codes "application") (AreFields app_parts) text
app_text_to text is = record { rest = app_then is.id []; same = is.same ∙ app_spelled is.id is.is; is = app_fields [] is.id [] is.is refl }

pub app_refuses : (bytes : List ℕ) (left : ℕ) → Refuses (After (codes "application") (AreFields app_parts)) bytes left → Refuses IsAppText bytes left
app_refuses bytes left refuses = alike (After (codes "application") (AreFields app_parts)) IsAppText bytes left app_text_from app_text_to refuses

-- ---- attempts

abbrev pub attempt_parts : List Part
attempt_parts = Stamp ∷ AppNumber ∷ AttemptNumber ∷ []

abbrev attempt_end : AttemptId → List ℕ
attempt_end id = app_then id.app (codes "_" ++ (padded 6 id.number ++ []))

pub attempt_spelled : (id : AttemptId) → IsAttemptId id → attempt_text id ≡ codes "appattempt" ++ app_then id.app (codes "_" ++ (padded 6 id.number ++ []))
attempt_spelled id is =
    ap (λ (t : List ℕ). codes "appattempt_" ++ t) (stamp_then id.app.stamp (padded 4 id.app.number ++ (codes "_" ++ padded 6 id.number)) (padded 4 id.app.number ++ (codes "_" ++ (padded 6 id.number ++ [])))
    (stamp_fits id.app is.app) (ap (λ (t : List ℕ). padded 4 id.app.number ++ (codes "_" ++ t)) (sym (append-nil (padded 6 id.number)))))

attempt_text_from : (text : List ℕ) → After (codes "appattempt") (AreFields attempt_parts) text → IsAttemptText text
attempt_text_from text after =
    let app = leads_with_app (AttemptNumber ∷ []) after.rest after.is in
    let number = app.tail.is in
    let id : AttemptId = record { app = app.id; number = number.number } in
    let is : IsAttemptId id = record { app = app.is; number = number.within } in
    record {
      id = id;
      is = is;
      same = after.same
          ∙ ap (λ (t : List ℕ). codes "appattempt" ++ t) (app.same ∙ ap (app_then app.id) (app.tail.same ∙ ap (λ (t : List ℕ). codes "_" ++ t) (number.same ∙ ap (λ (t : List ℕ). padded 6 number.number ++ t) number.is)))
          ∙ sym (attempt_spelled id is);
    }

attempt_text_to : (text : List ℕ) → IsAttemptText text → After (codes "appattempt") (AreFields attempt_parts) text
attempt_text_to text is = record {
  rest = attempt_end is.id;
  same = is.same ∙ attempt_spelled is.id is.is;
  is = app_fields (AttemptNumber ∷ []) is.id.app (codes "_" ++ (padded 6 is.id.number ++ [])) is.is.app
      (record { rest = padded 6 is.id.number ++ []; same = refl; is = record { number = is.id.number; rest = []; within = is.is.number; same = refl; is = refl } });
}

pub attempt_refuses : (bytes : List ℕ) (left : ℕ) → Refuses (After (codes "appattempt") (AreFields attempt_parts)) bytes left → Refuses IsAttemptText bytes left
attempt_refuses bytes left refuses = alike (After (codes "appattempt") (AreFields attempt_parts)) IsAttemptText bytes left attempt_text_from attempt_text_to refuses

-- ---- a container's numbers without the epoch

-- the numbers of a container in their ranges
record IsGrant (text : List ℕ) : Type 0 where
  pub attempt : AttemptId
  pub seq : ℕ
  pub is : IsAttemptId attempt
  pub within : IsWithin 1 (2 ^ 40 - 1) seq
  pub same : text ≡ container_numbers_text attempt seq

pub grant_fields : (attempt : AttemptId) (seq : ℕ) → IsAttemptId attempt → IsWithin 1 (2 ^ 40 - 1) seq → AreFields grant_parts (container_numbers_text attempt seq)
grant_fields attempt seq is within =
    app_fields (AttemptInContainer ∷ Sequence ∷ []) attempt.app (codes "_" ++ (padded 2 attempt.number ++ (codes "_" ++ (padded 6 seq ++ [])))) is.app
    (record {
      rest = padded 2 attempt.number ++ (codes "_" ++ (padded 6 seq ++ []));
      same = refl;
      is = record {
        number = attempt.number;
        rest = codes "_" ++ (padded 6 seq ++ []);
        within = is.number;
        same = refl;
        is = record { rest = padded 6 seq ++ []; same = refl; is = record { number = seq; rest = []; within = within; same = refl; is = refl } };
      };
    })

fields_are_grant : (text : List ℕ) → AreFields grant_parts text → IsGrant text
fields_are_grant text fields =
    let app = leads_with_app (AttemptInContainer ∷ Sequence ∷ []) text fields in
    let number = app.tail.is in
    let seq = app.tail.is.is.is in
    record {
      attempt = record { app = app.id; number = number.number };
      seq = seq.number;
      is = record { app = app.is; number = number.within };
      within = seq.within;
      same = app.same
          ∙ ap (app_then app.id) (app.tail.same ∙ ap (λ (t : List ℕ). codes "_" ++ t) (number.same
          ∙ ap (λ (t : List ℕ). padded 2 number.number ++ t) (number.is.same ∙ ap (λ (t : List ℕ). codes "_" ++ t) (seq.same ∙ ap (λ (t : List ℕ). padded 6 seq.number ++ t) seq.is))));
    }

-- ---- containers

with_epoch : (shown : Bool) (epoch : ℕ) (a b : List ℕ) → 95 ∷ a ≡ b → cond shown (codes "container_" ++ a) (codes "container_e" ++ (padded 2 epoch ++ (codes "_" ++ a))) ≡ codes "container" ++ cond shown b (codes "_e" ++ (padded 2 epoch ++ b))
with_epoch true epoch a b same = ap (λ (t : List ℕ). codes "container" ++ t) same
with_epoch false epoch a b same = ap (λ (t : List ℕ). codes "container_e" ++ (padded 2 epoch ++ t)) same

pub container_spelled : (id : ContainerId) → IsContainerId id → container_text id ≡ codes "container" ++ epoch_then id.epoch (container_numbers_text id.attempt id.seq)
container_spelled id is =
    let app = id.attempt.app in
    let short : List ℕ = padded 4 app.number ++ (codes "_" ++ (padded 2 id.attempt.number ++ (codes "_" ++ padded 6 id.seq))) in
    let long : List ℕ = padded 4 app.number ++ (codes "_" ++ (padded 2 id.attempt.number ++ (codes "_" ++ (padded 6 id.seq ++ [])))) in
    let same : short ≡ long = ap (λ (t : List ℕ). padded 4 app.number ++ (codes "_" ++ (padded 2 id.attempt.number ++ (codes "_" ++ t)))) (sym (append-nil (padded 6 id.seq))) in
    with_epoch (eqb id.epoch 0) id.epoch (container_end id) (container_numbers_text id.attempt id.seq)
    (ap (λ (t : List ℕ). codes "_" ++ t) (stamp_then app.stamp short long (stamp_fits app is.attempt.app) same))

pub epoch_shown : (epoch : ℕ) (rest : List ℕ) → 1 ≤ epoch → epoch_then epoch rest ≡ codes "_e" ++ (padded 2 epoch ++ rest)
epoch_shown epoch rest some = rw (ne_eqb epoch 0 (λ e. absurd (omega arith))) refl

container_text_from : (text : List ℕ) → After (codes "container") IsGrantText text → IsContainerText text
container_text_from text after = container_text_by text after.rest after.same after.is
  where
    container_text_by : (text rest : List ℕ) → text ≡ codes "container" ++ rest → IsGrantText rest → IsContainerText text
    container_text_by text rest e (inl fields) =
        let grant = fields_are_grant rest fields in
        let id : ContainerId = record { attempt = grant.attempt; epoch = 0; seq = grant.seq } in
        let is : IsContainerId id = record { attempt = grant.is; epoch = (omega arith, omega arith); seq = grant.within } in
        record { id = id; is = is; same = e ∙ ap (λ (t : List ℕ). codes "container" ++ t) grant.same ∙ sym (container_spelled id is) }
    container_text_by text rest e (inr shown) =
        let epoch = shown.is in
        let grant = fields_are_grant epoch.rest epoch.is in
        let id : ContainerId = record { attempt = grant.attempt; epoch = epoch.number; seq = grant.seq } in
        let is : IsContainerId id = record { attempt = grant.is; epoch = (omega arith, epoch.within.1); seq = grant.within } in
        let spelled : rest ≡ epoch_then epoch.number (container_numbers_text grant.attempt grant.seq) =
        shown.same ∙ ap (λ (t : List ℕ). codes "_e" ++ t) (epoch.same ∙ ap (λ (t : List ℕ). padded 2 epoch.number ++ t) grant.same)
        ∙ sym (epoch_shown epoch.number (container_numbers_text grant.attempt grant.seq) epoch.within.0) in
        record { id = id; is = is; same = e ∙ ap (λ (t : List ℕ). codes "container" ++ t) spelled ∙ sym (container_spelled id is) }

epoch_fields : (epoch : ℕ) (rest : List ℕ) → IsWithin 0 (2 ^ 24 - 1) epoch → AreFields grant_parts rest → IsGrantText (epoch_then epoch rest)
epoch_fields epoch rest within fields = elim (cases_lt 0 epoch) [
  | inl some ↦ subst IsGrantText (sym (epoch_shown epoch rest some))
      (inr (record { rest = padded 2 epoch ++ rest; same = refl; is = record { number = epoch; rest = rest; within = (some, within.1); same = refl; is = fields } }))
  | inr none ↦ let zero_epoch : epoch ≡ 0 = omega arith in subst (λ n. IsGrantText (epoch_then n rest)) (sym zero_epoch) (inl fields)
]

container_text_to : (text : List ℕ) → IsContainerText text → After (codes "container") IsGrantText text
container_text_to text is = record {
  rest = epoch_then is.id.epoch (container_numbers_text is.id.attempt is.id.seq);
  same = is.same ∙ container_spelled is.id is.is;
  is = epoch_fields is.id.epoch (container_numbers_text is.id.attempt is.id.seq) is.is.epoch (grant_fields is.id.attempt is.id.seq is.is.attempt is.is.seq);
}

pub container_refuses : (bytes : List ℕ) (left : ℕ) → Refuses (After (codes "container") IsGrantText) bytes left → Refuses IsContainerText bytes left
container_refuses bytes left refuses = alike (After (codes "container") IsGrantText) IsContainerText bytes left container_text_from container_text_to refuses

-- ---- whether the epoch is shown

pub grants_have_text : Inhabits IsGrantText
grants_have_text = let some = fields_have_text grant_parts in record { text = some.text; is = inl some.is }

abbrev IsShown : List ℕ → Type 0
IsShown text = After (codes "_e") (NumberThen Epoch (AreFields grant_parts)) text

has_digit : (digits rest : List ℕ) → AreDigits digits → 0 < length digits → HasDigit (digits ++ rest)
has_digit [] rest all some = absurd (omega arith)
has_digit (digit ∷ digits) rest all some = all.0

padded_has_digit : (least number : ℕ) (rest : List ℕ) → number < 2 ^ 64 → HasDigit (padded least number ++ rest)
padded_has_digit least number rest fits =
    has_digit (padded least number) rest (padded_is_digits least number fits) (omega (arith, length-padded least number, decimal_nonempty number fits))

-- an `e` is no digit
pub no_stamp : (text tail : List ℕ) → text ≡ 95 ∷ 101 ∷ tail → AreFields grant_parts text → ⊥
no_stamp text tail e fields =
    let digit : HasDigit fields.rest = subst HasDigit (sym fields.is.same) (padded_has_digit 1 fields.is.number fields.is.rest (omega (arith, fields.is.within.1))) in
    let heads = heads_alike 95 95 fields.rest (101 ∷ tail) (sym fields.same ∙ e) in
    let wrong : HasDigit (101 ∷ tail) = subst HasDigit heads.1 digit in
    absurd (omega (arith, wrong.1))

-- what begins a text without an epoch begins one with an epoch, where the bytes begin with `_e`
shown_fronts : (front rest digits : List ℕ) → 95 ∷ 101 ∷ digits ≡ front ++ rest → IsFrontOf (AreFields grant_parts) front → IsFrontOf IsShown front
shown_fronts [] rest digits e begins = let some = number_has_text Epoch grant_parts in record { more = codes "_e" ++ some.text; is = record { rest = some.text; same = refl; is = some.is } }
shown_fronts (byte ∷ []) rest digits e begins =
    let some = number_has_text Epoch grant_parts in
    let bar : 95 ≡ byte = (heads_alike 95 byte (101 ∷ digits) rest e).0 in
    record { more = 101 ∷ some.text; is = record { rest = some.text; same = ap (λ b. b ∷ (101 ∷ some.text)) (sym bar); is = some.is } }
shown_fronts (byte ∷ next ∷ front) rest digits e begins =
    let first = heads_alike 95 byte (101 ∷ digits) (next ∷ (front ++ rest)) e in
    let second = heads_alike 101 next digits (front ++ rest) first.1 in
    let same : byte ∷ next ∷ (front ++ begins.more) ≡ 95 ∷ 101 ∷ (front ++ begins.more) =
    ap (λ b. b ∷ (next ∷ (front ++ begins.more))) (sym first.0) ∙ ap (λ b. 95 ∷ (b ∷ (front ++ begins.more))) (sym second.0) in
    absurd (no_stamp (byte ∷ next ∷ (front ++ begins.more)) (front ++ begins.more) same begins.is)

swap : (text : List ℕ) → Either IsShown (AreFields grant_parts) text → IsGrantText text
swap text (inl shown) = inr shown
swap text (inr fields) = inl fields

swap_back : (text : List ℕ) → IsGrantText text → Either IsShown (AreFields grant_parts) text
swap_back text (inl fields) = inr fields
swap_back text (inr shown) = inl shown

-- bytes that begin with `_e` are refused as their epoch is
pub shown_refuses : (bytes digits : List ℕ) (left : ℕ) → bytes ≡ codes "_e" ++ digits → Refuses (NumberThen Epoch (AreFields grant_parts)) digits left → Refuses IsGrantText bytes left
shown_refuses bytes digits left e refuses =
    alike (Either IsShown (AreFields grant_parts)) IsGrantText bytes left swap swap_back
    (either IsShown (AreFields grant_parts) bytes left (behind_word (NumberThen Epoch (AreFields grant_parts)) (codes "_e") bytes digits left e refuses)
    (λ front rest split begins. shown_fronts front rest digits (sym e ∙ split) begins) (λ fields. no_stamp bytes digits e fields))

-- what begins a text with an epoch begins one without, where the bytes don't begin with `_e`
hidden_fronts : (front rest bytes : List ℕ) → bytes ≡ front ++ rest → ((tail : List ℕ) → bytes ≡ 95 ∷ 101 ∷ tail → ⊥) → IsFrontOf IsShown front → IsFrontOf (AreFields grant_parts) front
hidden_fronts [] rest bytes e hidden begins = let some = fields_have_text grant_parts in record { more = some.text; is = some.is }
hidden_fronts (byte ∷ []) rest bytes e hidden begins =
    let some = number_has_text Stamp (AppNumber ∷ AttemptInContainer ∷ Sequence ∷ []) in
    let bar : byte ≡ 95 = (heads_alike byte 95 begins.more (101 ∷ begins.is.rest) begins.is.same).0 in
    record { more = some.text; is = record { rest = some.text; same = ap (λ b. b ∷ some.text) bar; is = some.is } }
hidden_fronts (byte ∷ next ∷ front) rest bytes e hidden begins =
    let first = heads_alike byte 95 (next ∷ (front ++ begins.more)) (101 ∷ begins.is.rest) begins.is.same in
    let second = heads_alike next 101 (front ++ begins.more) begins.is.rest first.1 in
    absurd (hidden (front ++ rest) (e ∙ ap (λ b. b ∷ (next ∷ (front ++ rest))) first.0 ∙ ap (λ b. 95 ∷ (b ∷ (front ++ rest))) second.0))

leaves_apart : (word bytes tail : List ℕ) (left : ℕ) → LeavesWord word bytes left → bytes ≡ word ++ tail → ⊥
leaves_apart word bytes tail left leaves e =
    let next : leaves.rest ≡ leaves.next ∷ (leaves.others ++ tail) = append_cancel_left leaves.front leaves.rest (leaves.next ∷ (leaves.others ++ tail))
    (sym leaves.of_bytes ∙ e ∙ ap (λ (t : List ℕ). t ++ tail) leaves.of_word ∙ append_assoc leaves.front (leaves.next ∷ leaves.others) tail) in
    subst (LacksByte leaves.next) next leaves.lacks refl

-- bytes that don't are refused as the stamp is
pub hidden_refuses : (bytes : List ℕ) (off left : ℕ) → LeavesWord (codes "_e") bytes off → Refuses (AreFields grant_parts) bytes left → Refuses IsGrantText bytes left
hidden_refuses bytes off left leaves refuses =
    let hidden : (tail : List ℕ) → bytes ≡ 95 ∷ 101 ∷ tail → ⊥ = λ tail e. leaves_apart (codes "_e") bytes tail off leaves e in
    either (AreFields grant_parts) IsShown bytes left refuses (λ front rest split begins. hidden_fronts front rest bytes split hidden begins) (λ shown. hidden shown.rest shown.same)
