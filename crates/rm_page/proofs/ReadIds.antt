-- Ids, read back from their texts.
use Rattle.std.proofs.Common.{◌≡◌, ℕ, ◌^◌, ◌<◌, Bool, true, false, cond, eqb, List, [], ◌∷◌, ◌++◌, refl, sym, ap, ◌∙◌, arith, codes}
use Rattle.std.specs.Fmt.{decimal}
use Rattle.std.specs.List.{join_with_byte}
use Rattle.std.proofs.lemmas.Bool.{eqb-true}
use Rattle.rm_types.specs.declared.ids.AppId.{AppId}
use Rattle.rm_types.specs.declared.ids.AttemptId.{AttemptId}
use Rattle.rm_types.specs.declared.ids.ContainerId.{ContainerId}
use Rattle.rm_formats.specs.IdTexts.{padded, app_text, attempt_text, container_text, container_end}
use Rattle.rm_types.specs.Lists.{is_nil}
use Rattle.rm_types.specs.Ranges.{IsAppId, IsAttemptId, IsContainerId}
use Rattle.rm_formats.specs.ids.Digits.{value_of}
use Rattle.rm_formats.proofs.ids.Digits.{value_of-padded}
use Rattle.rm_page.proofs.Bytes.{made_of, lacks, lacks_failing, is_part_byte, is_id_byte, decimal_made, padded_made, number_back, cut, EachMade, EachMade-weaker, each_lacks, joined_made, cut_joined, behind, is_word_byte, id_word}

-- ---- of which bytes they are

stamp_fits : (id : AppId) → IsAppId id → id.stamp < 2 ^ 64
stamp_fits id is = omega (arith, is.stamp.1)

number_fits : (id : AppId) → IsAppId id → id.number < 2 ^ 64
number_fits id is = omega (arith, is.number.1)

attempt_fits : (id : AttemptId) → IsAttemptId id → id.number < 2 ^ 64
attempt_fits id is = omega (arith, is.number.1)

-- an id's text is pieces of small letters and digits with a `_` between each two: it is of these bytes
parts_made : (pieces : List (List ℕ)) → EachMade is_part_byte pieces → made_of is_id_byte (join_with_byte 95 pieces) ≡ true
parts_made pieces are = joined_made is_id_byte 95 pieces refl (EachMade-weaker is_part_byte is_id_byte (λ byte passes. rw passes refl) pieces are)

-- and the pieces come back
parts_cut : (first : List ℕ) (more : List (List ℕ)) → EachMade is_part_byte (first ∷ more) → cut 95 (join_with_byte 95 (first ∷ more)) ≡ first ∷ more
parts_cut first more are = cut_joined 95 first more (each_lacks is_part_byte 95 (first ∷ more) refl are)

app_are : (id : AppId) → IsAppId id → EachMade is_part_byte (codes "application" ∷ decimal id.stamp ∷ padded 4 id.number ∷ [])
app_are id is = (refl, (decimal_made id.stamp (stamp_fits id is), (padded_made 4 id.number (number_fits id is), tt)))

attempt_are : (id : AttemptId) → IsAttemptId id → EachMade is_part_byte (codes "appattempt" ∷ decimal id.app.stamp ∷ padded 4 id.app.number ∷ padded 6 id.number ∷ [])
attempt_are id is = (refl, (decimal_made id.app.stamp (stamp_fits id.app is.app), (padded_made 4 id.app.number (number_fits id.app is.app), (padded_made 6 id.number (attempt_fits id is), tt))))

-- the pieces of a container's text behind the word, with the epoch or without
abbrev end_pieces : ContainerId → List (List ℕ)
end_pieces id = decimal id.attempt.app.stamp ∷ padded 4 id.attempt.app.number ∷ padded 2 id.attempt.number ∷ padded 6 id.seq ∷ []

abbrev container_pieces : Bool → ContainerId → List (List ℕ)
container_pieces b id = cond b (end_pieces id) ((codes "e" ++ padded 2 id.epoch) ∷ end_pieces id)

end_are : (id : ContainerId) → IsContainerId id → EachMade is_part_byte (end_pieces id)
end_are id is = (
  decimal_made id.attempt.app.stamp (stamp_fits id.attempt.app is.attempt.app),
  (
    padded_made 4 id.attempt.app.number (number_fits id.attempt.app is.attempt.app),
    (padded_made 2 id.attempt.number (attempt_fits id.attempt is.attempt), (padded_made 6 id.seq (omega (arith, is.seq.1)), tt)),
  ),
)

container_are : (b : Bool) (id : ContainerId) → IsContainerId id → EachMade is_part_byte (codes "container" ∷ container_pieces b id)
container_are true id is = (refl, end_are id is)
container_are false id is = (refl, (padded_made 2 id.epoch (omega (arith, is.epoch.1)), end_are id is))

container_joined : (b : Bool) (id : ContainerId)
    → cond b (codes "container_" ++ container_end id) (codes "container_e" ++ (padded 2 id.epoch ++ (codes "_" ++ container_end id))) ≡ join_with_byte 95 (codes "container" ∷ container_pieces b id)
container_joined true id = refl
container_joined false id = refl

pub container_made : (id : ContainerId) → IsContainerId id → made_of is_id_byte (container_text id) ≡ true
container_made id is =
    ap (made_of is_id_byte) (container_joined (eqb id.epoch 0) id) ∙ parts_made (codes "container" ∷ container_pieces (eqb id.epoch 0) id) (container_are (eqb id.epoch 0) id is)

pub container_lacks : (byte : ℕ) (id : ContainerId) → is_id_byte byte ≡ false → IsContainerId id → lacks byte (container_text id) ≡ true
container_lacks byte id fails is = lacks_failing is_id_byte byte (container_text id) fails (container_made id is)

pub app_word : (id : AppId) → IsAppId id → made_of is_word_byte (app_text id) ≡ true
app_word id is = id_word (app_text id) (parts_made (codes "application" ∷ decimal id.stamp ∷ padded 4 id.number ∷ []) (app_are id is))

pub attempt_word : (id : AttemptId) → IsAttemptId id → made_of is_word_byte (attempt_text id) ≡ true
attempt_word id is =
    id_word (attempt_text id) (parts_made (codes "appattempt" ∷ decimal id.app.stamp ∷ padded 4 id.app.number ∷ padded 6 id.number ∷ []) (attempt_are id is))

pub container_word : (id : ContainerId) → IsContainerId id → made_of is_word_byte (container_text id) ≡ true
container_word id is = id_word (container_text id) (container_made id is)

-- ---- how they are read

pub app_of : List (List ℕ) → AppId
app_of (word ∷ stamp ∷ number ∷ []) = record { stamp = value_of stamp; number = value_of number }
app_of pieces = record { stamp = 0; number = 0 }

abbrev pub read_app : List ℕ → AppId
read_app text = app_of (cut 95 text)

pub attempt_of : List (List ℕ) → AttemptId
attempt_of (word ∷ stamp ∷ app ∷ number ∷ []) = record { app = record { stamp = value_of stamp; number = value_of app }; number = value_of number }
attempt_of pieces = record { app = record { stamp = 0; number = 0 }; number = 0 }

abbrev pub read_attempt : List ℕ → AttemptId
read_attempt text = attempt_of (cut 95 text)

pub container_of : List (List ℕ) → ContainerId
container_of (word ∷ stamp ∷ app ∷ number ∷ seq ∷ []) = record { attempt = attempt_of (word ∷ stamp ∷ app ∷ number ∷ []); epoch = 0; seq = value_of seq }
container_of (word ∷ epoch ∷ stamp ∷ app ∷ number ∷ seq ∷ []) =
    record { attempt = attempt_of (word ∷ stamp ∷ app ∷ number ∷ []); epoch = value_of (behind (codes "e") epoch); seq = value_of seq }
container_of pieces = record { attempt = attempt_of []; epoch = 0; seq = 0 }

abbrev pub read_container : List ℕ → ContainerId
read_container text = container_of (cut 95 text)

-- ---- and come back

same_app : (stamp number : ℕ) (id : AppId) → stamp ≡ id.stamp → number ≡ id.number → ◌≡◌ {A = AppId} (record { stamp = stamp; number = number }) id
same_app stamp number id h k = rw (h, k) refl

pub app_back : (id : AppId) → IsAppId id → read_app (app_text id) ≡ id
unfolding app_of
app_back id is =
    ap app_of (parts_cut (codes "application") (decimal id.stamp ∷ padded 4 id.number ∷ []) (app_are id is))
    ∙ same_app _ _ id (number_back id.stamp (stamp_fits id is)) (value_of-padded 4 id.number (number_fits id is))

pub attempt_back : (id : AttemptId) → IsAttemptId id → read_attempt (attempt_text id) ≡ id
unfolding attempt_of
attempt_back id is =
    ap attempt_of (parts_cut (codes "appattempt") (decimal id.app.stamp ∷ padded 4 id.app.number ∷ padded 6 id.number ∷ []) (attempt_are id is))
    ∙ rw (number_back id.app.stamp (stamp_fits id.app is.app), value_of-padded 4 id.app.number (number_fits id.app is.app), value_of-padded 6 id.number (attempt_fits id is)) refl

container_of-pieces : (b : Bool) (id : ContainerId) → IsContainerId id → eqb id.epoch 0 ≡ b
    → container_of (codes "container" ∷ container_pieces b id) ≡ id
unfolding container_of attempt_of
container_of-pieces true id is e =
    let app = id.attempt.app in
    let none : 0 ≡ id.epoch = sym (eqb-true id.epoch 0 e) in
    rw (number_back app.stamp (stamp_fits app is.attempt.app), value_of-padded 4 app.number (number_fits app is.attempt.app), value_of-padded 2 id.attempt.number (attempt_fits id.attempt is.attempt), value_of-padded 6 id.seq (omega (arith, is.seq.1)))
    (ap (λ (epoch : ℕ). record { attempt = id.attempt; epoch = epoch; seq = id.seq }) none)
container_of-pieces false id is e =
    let app = id.attempt.app in
    rw (number_back app.stamp (stamp_fits app is.attempt.app), value_of-padded 4 app.number (number_fits app is.attempt.app), value_of-padded 2 id.attempt.number (attempt_fits id.attempt is.attempt), value_of-padded 6 id.seq (omega (arith, is.seq.1)), value_of-padded 2 id.epoch (omega (arith, is.epoch.1))) refl

pub container_back : (id : ContainerId) → IsContainerId id → read_container (container_text id) ≡ id
container_back id is =
    ap (λ (text : List ℕ). container_of (cut 95 text)) (container_joined (eqb id.epoch 0) id)
    ∙ ap container_of (parts_cut (codes "container") (container_pieces (eqb id.epoch 0) id) (container_are (eqb id.epoch 0) id is))
    ∙ container_of-pieces (eqb id.epoch 0) id is refl

-- ---- no id is an empty text

pub container_not_nil : (id : ContainerId) → is_nil (container_text id) ≡ false
container_not_nil id = some (eqb id.epoch 0)
  where
    some : (b : Bool) → is_nil (cond b (codes "container_" ++ container_end id) (codes "container_e" ++ (padded 2 id.epoch ++ (codes "_" ++ container_end id)))) ≡ false
    some true = refl
    some false = refl
