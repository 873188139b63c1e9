-- A grant answers an ask of its attempt: each attempt asks for the same again, in the tables and by the judge.
use Rattle.rm_invariant.proofs.Common.{◌≡◌, ℕ, ◌-◌, List, [], ◌∷◌, Bool, true, false, Option, None, Some, filter, find, fold, map, refl, sym, ◌∙◌, ap, subst, arith, if◌then◌else◌, list_any, false≢true, nat_tests, Ask, AskOf, Grant, AttemptId, Resource, is_attempt, by_priority, same_attempt, attempt_itself, AsksOf, asks_granted, attempt_asks, table_granted, is_for, one_less, with_asks_of, is_size, asks_after_answer, table_without_granted, SameAsks}
use Rattle.std.proofs.Common.{nat_lt}
use Rattle.rm_types.proofs.TestLemmas.{found_passes}
use Rattle.rm_model.specs.Containers.{is_same_ask}
use Rattle.rm_model.specs.Passing.{ask_lessened, asks_lessened, asks_of as asks_told, without_granted as without_told}

-- THE TABLES

module _ (attempt : AttemptId) where
  -- what the attempt asks for in a table with other asks in the place of its own, what others do, and what it does where it has none
  pub own_asks : (asks : List Ask) (table : List AsksOf) → attempt_asks (with_asks_of attempt asks table) attempt ≡ asks
  own_asks asks [] = let own = attempt_itself attempt in rw own refl
  own_asks asks (one ∷ table) = by (is_attempt one.attempt attempt) refl (own_asks asks table)
    where
      by : (b : Bool) → is_attempt one.attempt attempt ≡ b → attempt_asks (with_asks_of attempt asks table) attempt ≡ asks → attempt_asks (with_asks_of attempt asks (one ∷ table)) attempt ≡ asks
      by true e rest = rw (e, e) refl
      by false e rest = rw (e, e) rest

  pub other_asks : (q : AttemptId) → is_attempt attempt q ≡ false → (asks : List Ask) (table : List AsksOf) → attempt_asks (with_asks_of attempt asks table) q ≡ attempt_asks table q
  other_asks q apart asks [] = rw apart refl
  other_asks q apart asks (one ∷ table) = by (is_attempt one.attempt attempt) refl (is_attempt one.attempt q) refl (other_asks q apart asks table)
    where
      by : (b : Bool) → is_attempt one.attempt attempt ≡ b → (c : Bool) → is_attempt one.attempt q ≡ c → attempt_asks (with_asks_of attempt asks table) q ≡ attempt_asks table q
          → attempt_asks (with_asks_of attempt asks (one ∷ table)) q ≡ attempt_asks (one ∷ table) q
      by true e true f rest =
          let also : is_attempt attempt q ≡ true = subst (λ (a : AttemptId). is_attempt a q ≡ true) (same_attempt one.attempt attempt e) f in
          absurd (false≢true (sym apart ∙ also))
      by true e false f rest = rw (e, f) refl
      by false e true f rest = rw (e, f) refl
      by false e false f rest = rw (e, f) rest

  no_asks : (table : List AsksOf) → list_any (λ one. is_attempt one.attempt attempt) table ≡ false → attempt_asks table attempt ≡ []
  no_asks [] none = refl
  no_asks (one ∷ table) none = by (is_attempt one.attempt attempt) refl (no_asks table)
    where
      by : (b : Bool) → is_attempt one.attempt attempt ≡ b → (list_any (λ other. is_attempt other.attempt attempt) table ≡ false → attempt_asks table attempt ≡ []) → attempt_asks (one ∷ table) attempt ≡ []
      by true e rest = absurd (let some : true ≡ false = rw e at none in false≢true (sym some))
      by false e rest = rw e (rest (rw e at none))

  -- the asks of the grant's own attempt, and of any other
  pub own_granted : (priority : ℕ) (size : Resource) (table : List AsksOf) → attempt_asks (table_granted attempt priority size table) attempt ≡ asks_granted priority size (attempt_asks table attempt)
  own_granted priority size table = by (list_any (λ one. is_attempt one.attempt attempt) table) refl
    where
      by : (b : Bool) → list_any (λ one. is_attempt one.attempt attempt) table ≡ b
          → attempt_asks (if b then with_asks_of attempt (asks_granted priority size (attempt_asks table attempt)) table else table) attempt ≡ asks_granted priority size (attempt_asks table attempt)
      by true e = own_asks (asks_granted priority size (attempt_asks table attempt)) table
      by false e = let none = no_asks table e in none ∙ sym (ap (asks_granted priority size) none)

  pub other_granted : (q : AttemptId) → is_attempt attempt q ≡ false → (priority : ℕ) (size : Resource) (table : List AsksOf) → attempt_asks (table_granted attempt priority size table) q ≡ attempt_asks table q
  other_granted q apart priority size table = by (list_any (λ one. is_attempt one.attempt attempt) table)
    where
      by : (b : Bool) → attempt_asks (if b then with_asks_of attempt (asks_granted priority size (attempt_asks table attempt)) table else table) q ≡ attempt_asks table q
      by true = other_asks q apart (asks_granted priority size (attempt_asks table attempt)) table
      by false = refl

  -- THE JUDGE

  -- the asks of the grant's own attempt, and of any other
  pub own_lessened : (ask : Ask) (asks : List AskOf) → asks_told (asks_lessened attempt asks (Some ask)) attempt ≡ filter (λ one. nat_lt 0 one.count) (map (ask_lessened ask) (asks_told asks attempt))
  own_lessened ask [] = refl
  own_lessened ask (one ∷ asks) = by (is_attempt one.attempt attempt) refl (nat_lt 0 (ask_lessened ask one.ask).count) refl (own_lessened ask asks)
    where
      by : (b : Bool) → is_attempt one.attempt attempt ≡ b → (c : Bool) → nat_lt 0 (ask_lessened ask one.ask).count ≡ c
          → asks_told (asks_lessened attempt asks (Some ask)) attempt ≡ filter (λ other. nat_lt 0 other.count) (map (ask_lessened ask) (asks_told asks attempt))
          → asks_told (asks_lessened attempt (one ∷ asks) (Some ask)) attempt ≡ filter (λ other. nat_lt 0 other.count) (map (ask_lessened ask) (asks_told (one ∷ asks) attempt))
      by true e true f rest = simp (e, f) (ap (λ l. ask_lessened ask one.ask ∷ l) rest)
      by true e false f rest = simp (e, f) rest
      by false e c f rest = simp e rest

  pub other_lessened : (q : AttemptId) → is_attempt attempt q ≡ false → (ask : Ask) (asks : List AskOf) → asks_told (asks_lessened attempt asks (Some ask)) q ≡ asks_told asks q
  other_lessened q apart ask [] = refl
  other_lessened q apart ask (one ∷ asks) = by (is_attempt one.attempt attempt) refl (nat_lt 0 (ask_lessened ask one.ask).count) refl (is_attempt one.attempt q) refl (other_lessened q apart ask asks)
    where
      by : (b : Bool) → is_attempt one.attempt attempt ≡ b → (c : Bool) → nat_lt 0 (ask_lessened ask one.ask).count ≡ c → (d : Bool) → is_attempt one.attempt q ≡ d
          → asks_told (asks_lessened attempt asks (Some ask)) q ≡ asks_told asks q → asks_told (asks_lessened attempt (one ∷ asks) (Some ask)) q ≡ asks_told (one ∷ asks) q
      by true e c f true g rest =
          let also : is_attempt attempt q ≡ true = subst (λ (a : AttemptId). is_attempt a q ≡ true) (same_attempt one.attempt attempt e) g in
          absurd (false≢true (sym apart ∙ also))
      by true e true f false g rest = simp (e, f, g) rest
      by true e false f false g rest = simp (e, f, g) rest
      by false e c f true g rest = simp (e, g) (ap (λ l. one.ask ∷ l) rest)
      by false e c f false g rest = simp (e, g) rest

-- BOTH SIDES

-- an ask falls alike
less_same : (ask : Ask) (size : Resource) → is_size ask.size size ≡ true → (one : Ask) → one_less ask.priority size one ≡ ask_lessened ask one
less_same ask size is one = ap (λ (b : Bool). if b then record one { count = one.count - 1 } else one) tests
  where
    tests : is_for ask.priority size one ≡ is_same_ask ask one
    tests = grind (arith, nat_tests)

-- each attempt asks for the same after a grant
one_answered : (table : List AsksOf) (asks : List AskOf) (grant : Grant) → SameAsks table asks → SameAsks (table_without_granted table grant) (without_told asks grant)
one_answered table asks grant same =
    subst (λ (o : Option Ask). SameAsks (table_without_granted table grant) (asks_lessened attempt asks o)) (ap (λ (l : List Ask). find (λ one. is_size one.size grant.size) (by_priority l)) (same attempt))
    (by (find (λ one. is_size one.size grant.size) (by_priority (attempt_asks table attempt))) refl)
  where
    attempt : AttemptId
    attempt = grant.id.attempt

    some : (ask : Ask) → is_size ask.size grant.size ≡ true → (q : AttemptId) (b : Bool) → is_attempt attempt q ≡ b
        → attempt_asks (table_granted attempt ask.priority grant.size table) q ≡ asks_told (asks_lessened attempt asks (Some ask)) q
    some ask is q true e =
        subst (λ (a : AttemptId). attempt_asks (table_granted attempt ask.priority grant.size table) a ≡ asks_told (asks_lessened attempt asks (Some ask)) a) (same_attempt attempt q e)
        (own_granted attempt ask.priority grant.size table
        ∙ ap (asks_granted ask.priority grant.size) (same attempt)
        ∙ ap (λ (less : Ask → Ask). filter (λ one. nat_lt 0 one.count) (map less (asks_told asks attempt))) (λ i one. less_same ask grant.size is one i)
        ∙ sym (own_lessened attempt ask asks))
    some ask is q false e = other_granted attempt q e ask.priority grant.size table ∙ same q ∙ sym (other_lessened attempt q e ask asks)

    by : (o : Option Ask) → find (λ one. is_size one.size grant.size) (by_priority (attempt_asks table attempt)) ≡ o → SameAsks (asks_after_answer table grant o) (asks_lessened attempt asks o)
    by None e = same
    by (Some ask) e = λ q. some ask (found_passes (λ one. is_size one.size grant.size) (by_priority (attempt_asks table attempt)) ask e) q (is_attempt attempt q) refl

-- and after all
pub asks_answered : (grants : List Grant) (table : List AsksOf) (asks : List AskOf) → SameAsks table asks → SameAsks (fold table_without_granted table grants) (fold without_told asks grants)
asks_answered [] table asks same = same
asks_answered (grant ∷ grants) table asks same = asks_answered grants (table_without_granted table grant) (without_told asks grant) (one_answered table asks grant same)
