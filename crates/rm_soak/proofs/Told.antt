-- The script of a soak is as one that is read.
use Rattle.std.proofs.Common.{◌≡◌, ◌⊎◌, inl, inr, ℕ, zero, suc, ◌+◌, ◌*◌, ◌%◌, ◌<◌, ◌≤◌, Bool, true, false, eqb, List, [], ◌∷◌, ◌++◌, map, length, codes, refl, sym, ap, subst, ◌∙◌, arith}
use Rattle.std.specs.Prelude.{All, if◌then◌else◌}
use Rattle.std.specs.Fmt.{decimal, digits}
use Rattle.std.specs.List.{flat_map, range_with_len, AllByRecursion}
use Rattle.std.proofs.lemmas.List.{length-append, length-map}
use Rattle.std.proofs.lemmas.List.Elements.{All-from_recursion, All-nil, All-cons, All-append, All-map, All-weaker}
use Rattle.std.proofs.lemmas.List.Sums.{sum_by-le}
use Rattle.std.proofs.lemmas.Bool.Decides.{nat_tests}
use Rattle.rm_types.specs.declared.messages.Message.{Message}
use Rattle.rm_types.specs.declared.scripts.Life.{Life}
use Rattle.rm_types.specs.declared.scripts.Segment.{Segment}
use Rattle.rm_types.specs.declared.texts.TextKind.TheVariants.{Name}
use Rattle.rm_types.specs.Ranges.{IsAppId, IsAttemptId, IsContainerId, IsText, IsWithin}
use Rattle.rm_script.specs.Messages.{IsScriptSubmission}
use Rattle.rm_types.specs.Messages.{IsList, IsHeld, IsAsk}
use Rattle.rm_script.specs.Scripts.{EachButLast, IsReadMessage}
use Rattle.rm_script.specs.Values.{EndInCrash, IsToldLife, IsToldScript, ClosesSettled}
use Rattle.rm_types.specs.Segments.{messages_in}
use Rattle.rm_soak.specs.Limits.{first_stamp, most_soaked}
use Rattle.rm_soak.specs.Scripts.{app_messages, app_of, apps_in, attempt_of, crash_segment, ending_of, is_last_life, soak_life, lives_of, messages_of, registration, own_segment, soak_of, start_messages, soak_submission, two_containers, user_of, work_messages}
use Rattle.rm_soak.proofs.Ranges.{each-range}

-- a user is a name
digit_named : (digit : ℕ) → digit < 7 → IsText Name (codes "u" ++ decimal digit)
unfolding digits
digit_named zero low = refl
digit_named (suc zero) low = refl
digit_named (suc (suc zero)) low = refl
digit_named (suc (suc (suc zero))) low = refl
digit_named (suc (suc (suc (suc zero)))) low = refl
digit_named (suc (suc (suc (suc (suc zero))))) low = refl
digit_named (suc (suc (suc (suc (suc (suc zero)))))) low = refl
digit_named (suc (suc (suc (suc (suc (suc (suc more))))))) low = absurd (omega arith)

user_named : (k : ℕ) → IsText Name (user_of k)
user_named k = digit_named (k % 7) (omega arith)

-- the ids of an application and its first attempt are in their ranges
pub record AreIds (stamp k : ℕ) : Type 0 where
  pub stamp_fits : IsWithin 1 1001000 stamp
  pub number_fits : IsWithin 1 50 k

app_fits : (stamp k : ℕ) → AreIds stamp k → IsAppId (app_of stamp k)
app_fits stamp k ids = record { stamp = (omega arith, omega arith); number = (omega arith, omega arith) }

attempt_fits : (stamp k : ℕ) → AreIds stamp k → IsAttemptId (attempt_of stamp k)
attempt_fits stamp k ids = record { app = app_fits stamp k ids; number = (omega arith, omega arith) }

submission_fits : (k : ℕ) → IsScriptSubmission (user_of k) (soak_submission k)
submission_fits k =
    record {
      by_user = refl;
      queue = refl;
      name = refl;
      memory = (omega arith, omega arith);
      vcores = (omega arith, omega arith);
      attempts = (omega arith, omega arith);
      modify = refl;
    }

none_listed : {X : Type 0} (P : X → Type 0) → IsList P []
none_listed P = record { few = omega arith; each = All-nil P }

ask_fits : IsAsk two_containers
ask_fits = record { priority = (omega arith, omega arith); count = (omega arith, omega arith); size = record { memory = (omega arith, omega arith); vcores = (omega arith, omega arith) } }

asks_listed : IsList IsAsk (two_containers ∷ [])
asks_listed = record { few = omega arith; each = All-cons IsAsk two_containers [] ask_fits (All-nil IsAsk) }

-- the messages of an application may stand in a script
start_read : (stamp k : ℕ) → AreIds stamp k → All IsReadMessage (start_messages stamp k)
start_read stamp k ids =
    All-from_recursion IsReadMessage (start_messages stamp k) (
      (user_named k, tt),
      (
        (user_named k, (app_fits stamp k ids, submission_fits k)),
        (
          (refl, ((omega arith, omega arith), none_listed IsHeld, none_listed IsContainerId)),
          (
            (refl, ((omega arith, omega arith), none_listed IsHeld, none_listed IsContainerId)),
            (
              (attempt_fits stamp k ids, tt),
              tt,
            ),
          ),
        ),
      ),
    )

work_read : (stamp k : ℕ) → AreIds stamp k → All IsReadMessage (work_messages stamp k)
work_read stamp k ids =
    All-from_recursion IsReadMessage (work_messages stamp k) (
      (attempt_fits stamp k ids, ((omega arith, omega arith), asks_listed, none_listed IsContainerId)),
      (
        (refl, ((omega arith, omega arith), none_listed IsHeld, none_listed IsContainerId)),
        (
          (attempt_fits stamp k ids, ((omega arith, omega arith), none_listed IsAsk, none_listed IsContainerId)),
          (
            (attempt_fits stamp k ids, record { note = refl; some = omega arith }),
            (
              (user_named k, app_fits stamp k ids),
              tt,
            ),
          ),
        ),
      ),
    )

app_read : (stamp k : ℕ) → AreIds stamp k → All IsReadMessage (app_messages stamp k)
app_read stamp k ids = All-append IsReadMessage (start_messages stamp k) (work_messages stamp k) (start_read stamp k ids) (work_read stamp k ids)

registration_read : IsReadMessage registration
registration_read = (refl, ((omega arith, omega arith), record { memory = (omega arith, omega arith); vcores = (omega arith, omega arith) }, none_listed IsHeld))

apps_read : (stamp first count : ℕ) → IsWithin 1 1001000 stamp → 1 ≤ first → first + count ≤ 51 → All IsReadMessage (flat_map (app_messages stamp) (range_with_len first count))
apps_read stamp first zero fits low high = All-nil IsReadMessage
apps_read stamp first (suc count) fits low high =
    let ids : AreIds stamp first = record { stamp_fits = fits; number_fits = (low, omega arith) } in
    All-append IsReadMessage (app_messages stamp first) (flat_map (app_messages stamp) (range_with_len (first + 1) count))
    (app_read stamp first ids) (apps_read stamp (first + 1) count fits (omega arith) (omega arith))

-- the messages of a life may stand in a script
messages_read : (stamp apps : ℕ) → IsWithin 1 1001000 stamp → apps ≤ 50 → All IsReadMessage (messages_of stamp apps)
messages_read stamp apps fits few =
    All-cons IsReadMessage registration (flat_map (app_messages stamp) (range_with_len 1 apps)) registration_read (apps_read stamp 1 apps fits (omega arith) (omega arith))

apps_counted : (stamp first count : ℕ) → length (flat_map (app_messages stamp) (range_with_len first count)) ≡ 10 * count
apps_counted stamp first zero = omega arith
apps_counted stamp first (suc count) =
    let more : length (flat_map (app_messages stamp) (range_with_len (first + 1) count)) ≡ 10 * count = apps_counted stamp (first + 1) count in
    omega arith

-- what holds of each message of a segment holds of the segments that settle, and of the ending
abbrev AreRead : Segment → Type 0
AreRead segment = All IsReadMessage segment.messages

abbrev IsShort : Segment → Type 0
IsShort segment = length segment.messages ≤ 1

settled_read : (messages : List Message) → All IsReadMessage messages → All AreRead (map own_segment messages)
settled_read messages read =
    All-map AreRead own_segment messages (All-weaker IsReadMessage (λ message. AreRead (own_segment message)) (λ message one. All-cons IsReadMessage message [] one (All-nil IsReadMessage)) messages read)

settled_short : (messages : List Message) → AllByRecursion IsShort (map own_segment messages)
settled_short [] = tt
settled_short (message ∷ more) = (omega arith, settled_short more)

settled_settle : (messages : List Message) → AllByRecursion ClosesSettled (map own_segment messages)
settled_settle [] = tt
settled_settle (message ∷ more) = (refl, settled_settle more)

-- the segments of a life, whether another one follows or not
abbrev closed : List Message → Bool → List Segment
closed messages last = map own_segment messages ++ (if last then [] else crash_segment ∷ [])

ending_read : (last : Bool) → All AreRead (if last then [] else crash_segment ∷ [])
ending_read true = All-nil AreRead
ending_read false = All-cons AreRead crash_segment [] (All-nil IsReadMessage) (All-nil AreRead)

ending_short : (last : Bool) → All IsShort (if last then [] else crash_segment ∷ [])
ending_short true = All-nil IsShort
ending_short false = All-cons IsShort crash_segment [] (omega arith) (All-nil IsShort)

ending_few : (last : Bool) → length (if last then [] else crash_segment ∷ []) ≤ 1
ending_few true = omega arith
ending_few false = omega arith

crashes : (messages : List Message) → EndInCrash (closed messages false)
crashes messages =
    record {
      before = map own_segment messages;
      messages = [];
      calls = 0;
      image = 0;
      apart = refl;
      settle = All-from_recursion ClosesSettled (map own_segment messages) (settled_settle messages);
      calls_fit = (omega arith, omega arith);
      image_fits = (omega arith, omega arith);
    }

closes : (messages : List Message) (last : Bool) → All ClosesSettled (closed messages last) ⊎ EndInCrash (closed messages last)
closes messages true =
    inl (All-append ClosesSettled (map own_segment messages) [] (All-from_recursion ClosesSettled (map own_segment messages) (settled_settle messages)) (All-nil ClosesSettled))
closes messages false = inr (crashes messages)

counted : (messages : List Message) (last : Bool) → length messages ≤ 501 → messages_in (closed messages last) ≤ 100000
counted messages last few =
    let short = All-append IsShort (map own_segment messages) (if last then [] else crash_segment ∷ []) (All-from_recursion IsShort (map own_segment messages) (settled_short messages)) (ending_short last) in
    let sum = sum_by-le (λ segment. length segment.messages) 1 (closed messages last) short in
    let parts : length (closed messages last) ≡ length messages + length (if last then [] else crash_segment ∷ []) =
    length-append (map own_segment messages) (if last then [] else crash_segment ∷ []) ∙ ap (λ n. n + length (if last then [] else crash_segment ∷ [])) (simp length-map)
    in
    let few_end = ending_few last in
    omega arith

life_told : (number life : ℕ) → life ≤ 20 → IsToldLife (soak_life number life)
life_told number life early =
    let stamp = first_stamp + life in
    let apps = apps_in number life in
    let fits : IsWithin 1 1001000 stamp = (omega arith, omega arith) in
    let few : apps ≤ 50 = omega arith in
    record {
      stamp = (omega arith, omega arith);
      messages =
          All-append AreRead (map own_segment (messages_of stamp apps)) (ending_of number life)
          (settled_read (messages_of stamp apps) (messages_read stamp apps fits few))
          (ending_read (is_last_life number life));
      closes = closes (messages_of stamp apps) (is_last_life number life);
      few = counted (messages_of stamp apps) (is_last_life number life) (omega (arith, apps_counted stamp 1 apps));
    }

abbrev Crashes : Life → Type 0
Crashes life = EndInCrash life.segments

-- a life that isn't the last crashes
life_crashes : (number life : ℕ) → is_last_life number life ≡ false → Crashes (soak_life number life)
life_crashes number life later =
    let P : Bool → Type 0 = λ last. EndInCrash (closed (messages_of (first_stamp + life) (apps_in number life)) last) in
    subst P (sym later) (crashes (messages_of (first_stamp + life) (apps_in number life)))

not_same : (a b : ℕ) → a < b → eqb a b ≡ false
not_same a b less = grind (arith, nat_tests)

lives_crash : (number first count : ℕ) → first + count ≡ lives_of number → EachButLast Crashes (map (soak_life number) (range_with_len first count))
lives_crash number first zero all = tt
lives_crash number first (suc zero) all = tt
lives_crash number first (suc (suc count)) all =
    (life_crashes number first (not_same (first + 1) (lives_of number) (omega arith)), lives_crash number (first + 1) (suc count) (omega arith))

-- the script of a soak is as one that is read
pub soak_told : (number : ℕ) → number ≤ most_soaked → IsToldScript (soak_of number)
soak_told number few =
    record {
      each = All-from_recursion IsToldLife (map (soak_life number) (range_with_len 0 (lives_of number))) (each-range IsToldLife (soak_life number) 0 (lives_of number) (λ life low high. life_told number life (omega arith)));
      crash = lives_crash number 0 (lives_of number) (omega arith);
    }
