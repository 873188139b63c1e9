-- A token lives on over later records.
use Rattle.std.proofs.Common.{◌≡◌, ◌≢◌, ℕ, ◌+◌, ◌<◌, ◌≤◌, Bool, true, false, List, [], ◌∷◌, ◌++◌, Option, None, Some, refl, sym, ap, subst, ◌∙◌, append_assoc, append-nil, arith, if◌then◌else◌}
use Rattle.std.specs.Prelude.{nat_le, option_map, ◌==◌, Contains}
use Rattle.std.proofs.lemmas.Bool.{and_parts, and_from, leb-true}
use Rattle.std.proofs.lemmas.List.Elements.{Contains-append_right}
use Rattle.rm_tokens.specs.declared.token.Token.{Token}
use Rattle.rm_tokens.specs.declared.token.TokenRecord.{TokenRecord}
use Rattle.rm_tokens.specs.declared.token.TokenRecord.TheVariants.{Issued, Renewed, Cancelled}
use Rattle.rm_tokens.specs.Records.{token, issue_count, may_renew, fits, fit_behind, fit_in_order, IsValidAt}
use Rattle.rm_tokens.specs.Runs.{LivesOn}
use Rattle.rm_tokens.proofs.Entries.{token_more, issued_more, same_number, fit_more as follow_push}
use Rattle.rm_tokens.proofs.Stands.{IsDated, dated}

the_token : {a b : Token} → Some a ≡ Some b → a ≡ b
the_token e = cc

-- no token has a number above the count of issues
numbered : (before later : List TokenRecord) → fit_behind before later ≡ true → ((number : ℕ) → issue_count before < number → token before number ≡ None) → (number : ℕ) → issue_count (before ++ later) < number → token (before ++ later) number ≡ None
numbered before [] all none number lt =
    let same = append-nil before in subst (λ (l : List TokenRecord). token l number ≡ None) (sym same) (none number (subst (λ (l : List TokenRecord). issue_count l < number) same lt))
numbered before (entry ∷ later) all none number lt =
    let parts = and_parts (fits before entry) (fit_behind (before ++ entry ∷ []) later) all in
    let assoc = append_assoc before (entry ∷ []) later in
    subst (λ (l : List TokenRecord). token l number ≡ None) assoc
    (numbered (before ++ entry ∷ []) later parts.1 (next entry parts.0) number (subst (λ (l : List TokenRecord). issue_count l < number) (sym assoc) lt))
  where
    gone : (b : Bool) (known : Option Token) (f : Token → Token) → known ≡ None → (if b then option_map f known else known) ≡ None
    gone true known f e = ap (option_map f) e
    gone false known f e = e

    never : (b : Bool) (known : Option Token) → known ≡ None → (if b then None else known) ≡ None
    never true known e = refl
    never false known e = e

    next : (entry : TokenRecord) → fits before entry ≡ true → (number : ℕ) → issue_count (before ++ entry ∷ []) < number → token (before ++ entry ∷ []) number ≡ None
    next (Issued n t) fit number lt =
        let more = issued_more before (Issued n t) in
        let is = same_number n (issue_count before + 1) (and_parts (n == issue_count before + 1) (nat_le t.until t.last) fit).0 in
        let other : n ≢ number = omega (arith, more, is, lt) in
        let differ : (n == number) ≡ false = grind arith in
        token_more before (Issued n t) number ∙ rw differ (none number (omega (arith, more, lt)))
    next (Renewed n until) fit number lt =
        let more = issued_more before (Renewed n until) in
        token_more before (Renewed n until) number ∙ gone (n == number) (token before number) (λ (t : Token). record t { until = until }) (none number (omega (arith, more, lt)))
    next (Cancelled n) fit number lt =
        let more = issued_more before (Cancelled n) in
        token_more before (Cancelled n) number ∙ never (n == number) (token before number) (none number (omega (arith, more, lt)))

pub lives_same : (t : Token) → t.until ≤ t.last → LivesOn t t
lives_same t le = record { until = omega arith; bound = le; last = refl; owner = refl; renewer = refl }

lives_trans : (a b c : Token) → LivesOn a b → LivesOn b c → LivesOn a c
lives_trans a b c ab bc = record {
  until = omega (arith, ab.until, bc.until);
  bound = bc.bound;
  last = bc.last ∙ ab.last;
  owner = bc.owner ∙ ab.owner;
  renewer = bc.renewer ∙ ab.renewer;
}

-- of records that follow each other the later ones follow the earlier ones
follow_split : (before one later : List TokenRecord) → fit_behind before (one ++ later) ≡ true → (fit_behind before one ≡ true) × (fit_behind (before ++ one) later ≡ true)
follow_split before [] later all = (refl, subst (λ (l : List TokenRecord). fit_behind l later ≡ true) (sym (append-nil before)) all)
follow_split before (entry ∷ one) later all =
    let parts = and_parts (fits before entry) (fit_behind (before ++ entry ∷ []) (one ++ later)) all in
    let rest = follow_split (before ++ entry ∷ []) one later parts.1 in (
      and_from (fits before entry) (fit_behind (before ++ entry ∷ []) one) parts.0 rest.0,
      subst (λ (l : List TokenRecord). fit_behind l later ≡ true) (append_assoc before (entry ∷ []) one) rest.1,
    )

-- one record more
record Next (before : List TokenRecord) (entry : TokenRecord) (number : ℕ) (one : Token) : Type 0 where
  pub now : Token
  pub is : token (before ++ entry ∷ []) number ≡ Some now
  pub lives : LivesOn one now

lives_next : (before : List TokenRecord) (entry : TokenRecord) (number : ℕ) (one : Token) → fits before entry ≡ true → (issue_count before < number → token before number ≡ None) → token before number ≡ Some one → one.until ≤ one.last → entry ≢ Cancelled number → Next before entry number one
lives_next before (Issued n t) number one fit none is le keeps = by (n == number) refl
  where
    by : (b : Bool) → (n == number) ≡ b → Next before (Issued n t) number one
    by true e =
        let first = same_number n (issue_count before + 1) (and_parts (n == issue_count before + 1) (nat_le t.until t.last) fit).0 in
        let here = same_number n number e in
        absurd (let never = sym is ∙ none (omega (arith, first, here)) in cc)
    by false e = record { now = one; is = token_more before (Issued n t) number ∙ rw e is; lives = lives_same one le }
lives_next before (Renewed n until) number one fit none is le keeps = by (n == number) refl
  where
    by : (b : Bool) → (n == number) ≡ b → Next before (Renewed n until) number one
    by true e =
        let may : may_renew until (Some one) ≡ true = subst (λ (o : Option Token). may_renew until o ≡ true) (ap (token before) (same_number n number e) ∙ is) fit in
        let parts = and_parts (nat_le one.until until) (nat_le until one.last) may in
        record {
          now = record one { until = until };
          is = token_more before (Renewed n until) number ∙ rw e (ap (option_map (λ (t : Token). record t { until = until })) is);
          lives = record { until = leb-true one.until until parts.0; bound = leb-true until one.last parts.1; last = refl; owner = refl; renewer = refl };
        }
    by false e = record { now = one; is = token_more before (Renewed n until) number ∙ rw e is; lives = lives_same one le }
lives_next before (Cancelled n) number one fit none is le keeps = by (n == number) refl
  where
    by : (b : Bool) → (n == number) ≡ b → Next before (Cancelled n) number one
    by true e = absurd (keeps (ap Cancelled (same_number n number e)))
    by false e = record { now = one; is = token_more before (Cancelled n) number ∙ rw e is; lives = lives_same one le }

lives_over : (before later : List TokenRecord) (number : ℕ) (one : Token) → fit_behind [] before ≡ true → fit_behind before later ≡ true → token before number ≡ Some one → one.until ≤ one.last → (Contains later (Cancelled number) → ⊥)
    → (now : Token) × (token (before ++ later) number ≡ Some now) × LivesOn one now
lives_over before [] number one earlier all is le keeps = (one, subst (λ (l : List TokenRecord). token l number ≡ Some one) (sym (append-nil before)) is, lives_same one le)
lives_over before (entry ∷ later) number one earlier all is le keeps =
    let parts = and_parts (fits before entry) (fit_behind (before ++ entry ∷ []) later) all in
    let next = lives_next before entry number one parts.0 (λ lt. numbered [] before earlier (λ _ _. refl) number lt) is le (λ same. keeps (0, omega arith, same)) in
    let more = lives_over (before ++ entry ∷ []) later number next.now (follow_push before entry earlier parts.0) parts.1 next.is next.lives.bound
    (λ there. keeps (Contains-append_right (entry ∷ []) later (Cancelled number) there)) in
    (more.0, subst (λ (l : List TokenRecord). token l number ≡ Some more.0) (append_assoc before (entry ∷ []) later) more.1, lives_trans one next.now more.0 next.lives more.2)

pub lives_on : (entries later : List TokenRecord) (number : ℕ) (one : Token) → fit_in_order (entries ++ later) ≡ true → token entries number ≡ Some one → (Contains later (Cancelled number) → ⊥)
    → (now : Token) × (token (entries ++ later) number ≡ Some now) × LivesOn one now
lives_on entries later number one all is keeps =
    let parts = follow_split [] entries later all in
    let le : IsDated (Some one) = subst IsDated is (dated entries number parts.0) in
    lives_over entries later number one parts.0 parts.1 is le keeps

pub valid_on : (entries later : List TokenRecord) (number moment : ℕ) (one : Token) → fit_in_order (entries ++ later) ≡ true → token entries number ≡ Some one → (Contains later (Cancelled number) → ⊥)
    → moment < one.until → IsValidAt (entries ++ later) number moment
valid_on entries later number moment one all is keeps lt =
    let on = lives_on entries later number one all is keeps in
    (on.0.until, ap (option_map (λ (t : Token). t.until)) on.1, omega (arith, lt, on.2.until))
