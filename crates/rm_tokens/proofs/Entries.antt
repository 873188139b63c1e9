-- Lists of token records: what one more of them changes, and the rows of them.
use Rattle.std.proofs.Common.{◌≡◌, ◌≢◌, ℕ, ◌+◌, ◌-◌, ◌<◌, ◌≤◌, Bool, true, false, ◌&&◌, List, [], ◌∷◌, ◌++◌, length, get_or, set, Option, None, Some, refl, sym, ap, subst, ◌∙◌, append_assoc, append-nil, length-append, inl, inr, arith, if◌then◌else◌}
use Rattle.std.specs.Prelude.{◌==◌, nat_le, is_some, option_map, cond}
use Rattle.std.proofs.lemmas.Bool.{and_parts, and_from, cases_lt}
use Rattle.std.proofs.lemmas.List.{length-set, get_or-set_same, get_or-set_other, get_or_past, get_or_append_left}
use Rattle.std.proofs.Math.Seq.{get_or-append_seam}
use Rattle.std.proofs.lemmas.List.Elements.{All-nil, All-cons, All-append}
use Rattle.std.proofs.lemmas.List.Sums.{fold-append, sum_by-append}
use Rattle.rm_tokens.specs.declared.token.Token.{Token}
use Rattle.rm_tokens.specs.declared.token.TokenRecord.{TokenRecord}
use Rattle.rm_tokens.specs.declared.token.TokenRecord.TheVariants.{Issued, Renewed, Cancelled}
use Rattle.rm_tokens.specs.Frames.{IsTokenRecord}
use Rattle.rm_tokens.specs.Held.{AreTokenRecords}
use Rattle.rm_tokens.specs.Records.{token_after, token, is_issue, issue_count, may_renew, fits, fit_behind, fit_in_order}
use Rattle.rm_tokens.specs.Rows.{row_at, AreRows, fits_rows, rows_after}

-- the token of a number, and how many were issued, after one record more
pub token_more : (entries : List TokenRecord) (entry : TokenRecord) (number : ℕ) → token (entries ++ entry ∷ []) number ≡ token_after number (token entries number) entry
token_more entries entry number = fold-append (token_after number) None entries (entry ∷ [])

pub issued_more : (entries : List TokenRecord) (entry : TokenRecord) → issue_count (entries ++ entry ∷ []) ≡ issue_count entries + cond (is_issue entry) 1 0
issued_more entries entry =
    let e : issue_count (entries ++ entry ∷ []) ≡ issue_count entries + issue_count (entry ∷ []) = sum_by-append (λ (r : TokenRecord). cond (is_issue r) 1 0) entries (entry ∷ []) in
    omega (arith, e)

-- a record that fits leaves all fitting
follow_more : (before later : List TokenRecord) (entry : TokenRecord) → fit_behind before later ≡ true → fits (before ++ later) entry ≡ true → fit_behind before (later ++ entry ∷ []) ≡ true
follow_more before [] entry all fit = and_from (fits before entry) true (subst (λ (l : List TokenRecord). fits l entry ≡ true) (append-nil before) fit) refl
follow_more before (one ∷ later) entry all fit =
    let parts = and_parts (fits before one) (fit_behind (before ++ one ∷ []) later) all in
    and_from (fits before one) (fit_behind (before ++ one ∷ []) (later ++ entry ∷ [])) parts.0
    (follow_more (before ++ one ∷ []) later entry parts.1 (subst (λ (l : List TokenRecord). fits l entry ≡ true) (sym (append_assoc before (one ∷ []) later)) fit))

pub fit_more : (entries : List TokenRecord) (entry : TokenRecord) → fit_in_order entries ≡ true → fits entries entry ≡ true → fit_in_order (entries ++ entry ∷ []) ≡ true
fit_more entries entry all fit = follow_more [] entries entry all fit

-- each record fits those before it
follow_there : (before later : List TokenRecord) (entry : TokenRecord) (more : List TokenRecord) → fit_behind before (later ++ entry ∷ more) ≡ true → fits (before ++ later) entry ≡ true
follow_there before [] entry more all = subst (λ (l : List TokenRecord). fits l entry ≡ true) (sym (append-nil before)) (and_parts (fits before entry) (fit_behind (before ++ entry ∷ []) more) all).0
follow_there before (one ∷ later) entry more all =
    subst (λ (l : List TokenRecord). fits l entry ≡ true) (append_assoc before (one ∷ []) later)
    (follow_there (before ++ one ∷ []) later entry more (and_parts (fits before one) (fit_behind (before ++ one ∷ []) (later ++ entry ∷ more)) all).1)

pub fits_there : (entries : List TokenRecord) (entry : TokenRecord) (more : List TokenRecord) → fit_in_order (entries ++ entry ∷ more) ≡ true → fits entries entry ≡ true
fits_there entries entry more all = follow_there [] entries entry more all

pub are_more : (entries : List TokenRecord) (entry : TokenRecord) → AreTokenRecords entries → IsTokenRecord entry → fits entries entry ≡ true → AreTokenRecords (entries ++ entry ∷ [])
are_more entries entry are can fit = record {
  ranges = All-append IsTokenRecord entries (entry ∷ []) are.ranges (All-cons IsTokenRecord entry [] can (All-nil IsTokenRecord));
  fit = fit_more entries entry are.fit fit;
}

pub no_records : AreTokenRecords []
no_records = record { ranges = All-nil IsTokenRecord; fit = refl }

-- ---- rows

same_if : (m n : ℕ) → m ≡ n → (m == n) ≡ true
same_if m n e = grind arith

differ_if : (m n : ℕ) → m ≢ n → (m == n) ≡ false
differ_if m n e = grind arith

pub same_number : (m n : ℕ) → (m == n) ≡ true → m ≡ n
same_number m n e = grind arith

pub other_number : (m n : ℕ) → (m == n) ≡ false → m ≢ n
other_number m n e = grind arith

no_row : (b : Bool) → (if b then (let none : Option Token = None in none) else None) ≡ None
no_row true = refl
no_row false = refl

pub no_rows : AreRows [] []
no_rows = record { count = refl; each = λ number. no_row (number == 0) }

-- whether a record fits is told by the rows
pub fits_same : (rows : List (Option Token)) (entries : List TokenRecord) (entry : TokenRecord) → AreRows rows entries → fits_rows rows entry ≡ fits entries entry
fits_same rows entries (Issued number t) are = ap (λ (n : ℕ). (number == n + 1) && nat_le t.until t.last) are.count
fits_same rows entries (Renewed number until) are = ap (may_renew until) (are.each number)
fits_same rows entries (Cancelled number) are = ap (λ (o : Option Token). is_some o) (are.each number)

-- a row that is there stands in the list
pub row_there : (rows : List (Option Token)) (number : ℕ) → is_some (row_at rows number) ≡ true → (1 ≤ number) × (number ≤ length rows)
row_there rows number some = by (number == 0) refl
  where
    by : (b : Bool) → (number == 0) ≡ b → (1 ≤ number) × (number ≤ length rows)
    by true e = absurd (let none = rw e at some in cc)
    by false e =
        let apart = other_number number 0 e in
        let here = rw e at some in (
          omega (arith, apart),
          elim (cases_lt (number - 1) (length rows)) [
            | inl lt ↦ omega (arith, lt)
            | inr le ↦ absurd (let nothing : Option Token = None in let past = get_or_past rows (number - 1) nothing le in let none = rw past at here in cc)
          ],
        )

renewable : (until : ℕ) (known : Option Token) → may_renew until known ≡ true → is_some known ≡ true
renewable until None e = e
renewable until (Some t) e = refl

-- rows of which one at most is other
row_first : (rows : List (Option Token)) (number : ℕ) → number ≡ 0 → row_at rows number ≡ None
row_first rows number e = rw (same_if number 0 e) refl

row_behind : (rows : List (Option Token)) (number : ℕ) → number ≢ 0 → row_at rows number ≡ get_or rows (number - 1) None
row_behind rows number ne = rw (differ_if number 0 ne) refl

row_set : (rows : List (Option Token)) (n number : ℕ) (new : Option Token) → 1 ≤ n → n ≤ length rows → row_at (set rows (n - 1) new) number ≡ (if n == number then new else row_at rows number)
row_set rows n number new low high = by (number == 0) (n == number) refl refl
  where
    by : (first here : Bool) → (number == 0) ≡ first → (n == number) ≡ here → row_at (set rows (n - 1) new) number ≡ (if n == number then new else row_at rows number)
    by true true z e = absurd (omega (arith, same_number number 0 z, same_number n number e))
    by true false z e = rw (z, e) refl
    by false true z e =
        let same = same_number n number e in
        let place : number - 1 ≡ n - 1 = omega (arith, same) in
        let here : n - 1 < length rows = omega (arith, low, high) in
        rw (e, z) (ap (λ (k : ℕ). get_or (set rows (n - 1) new) k None) place ∙ get_or-set_same rows (n - 1) new None here)
    by false false z e =
        let apart = other_number n number e in
        let some = other_number number 0 z in
        let other : number - 1 ≢ n - 1 = omega (arith, apart, some, low) in
        rw (e, z) (get_or-set_other rows (n - 1) (number - 1) new None other)

row_added : (rows : List (Option Token)) (n number : ℕ) (new : Option Token) → n ≡ length rows + 1 → row_at (rows ++ new ∷ []) number ≡ (if n == number then new else row_at rows number)
row_added rows n number new next = by (number == 0) (n == number) refl refl
  where
    nothing : Option Token
    nothing = None

    by : (first here : Bool) → (number == 0) ≡ first → (n == number) ≡ here → row_at (rows ++ new ∷ []) number ≡ (if n == number then new else row_at rows number)
    by true true z e = absurd (omega (arith, same_number number 0 z, same_number n number e, next))
    by true false z e = rw (z, e) refl
    by false true z e =
        let same = same_number n number e in
        let place : number - 1 ≡ length rows = omega (arith, same, next) in
        rw (e, z) (ap (λ (k : ℕ). get_or (rows ++ new ∷ []) k None) place ∙ get_or-append_seam rows new [] None)
    by false false z e =
        let apart = other_number n number e in
        let some = other_number number 0 z in
        rw (e, z) (elim (cases_lt (number - 1) (length rows)) [
          | inl lt ↦ get_or_append_left rows (new ∷ []) nothing (number - 1) lt
          | inr le ↦ get_or_past (rows ++ new ∷ []) (number - 1) nothing (let long = length-append rows (new ∷ []) in omega (arith, le, long, apart, some, next)) ∙ sym (get_or_past rows (number - 1) nothing le)
        ])

-- one record more
pub rows_more : (rows : List (Option Token)) (entries : List TokenRecord) (entry : TokenRecord) → AreRows rows entries → fits_rows rows entry ≡ true → AreRows (rows_after rows entry) (entries ++ entry ∷ [])
rows_more rows entries (Issued n t) are fit = record {
  count = (let more = issued_more entries (Issued n t) in let long = length-append rows (Some t ∷ []) in let same = are.count in omega (arith, more, long, same));
  each = λ number.
      let next = same_number n (length rows + 1) (and_parts (n == length rows + 1) (nat_le t.until t.last) fit).0 in
      row_added rows n number (Some t) next ∙ ap (λ (o : Option Token). if n == number then Some t else o) (are.each number) ∙ sym (token_more entries (Issued n t) number);
}
rows_more rows entries (Renewed n until) are fit =
    let change : Option Token → Option Token = λ known. option_map (λ (token : Token). record token { until = until }) known in
    let there = row_there rows n (renewable until (row_at rows n) fit) in record {
      count = (let more = issued_more entries (Renewed n until) in let long = length-set rows (n - 1) (change (row_at rows n)) in let same = are.count in omega (arith, more, long, same));
      each = λ number. row_set rows n number (change (row_at rows n)) there.0 there.1 ∙ renewed number (n == number) refl ∙ sym (token_more entries (Renewed n until) number);
    }
  where
    renewed : (number : ℕ) (here : Bool) → (n == number) ≡ here
        → (if n == number then option_map (λ (token : Token). record token { until = until }) (row_at rows n) else row_at rows number) ≡ token_after number (token entries number) (Renewed n until)
    renewed number true e = rw e (ap (λ (known : Option Token). option_map (λ (token : Token). record token { until = until }) known) (ap (row_at rows) (same_number n number e) ∙ are.each number))
    renewed number false e = rw e (are.each number)
rows_more rows entries (Cancelled n) are fit =
    let there = row_there rows n fit in record {
      count = (let more = issued_more entries (Cancelled n) in let nothing : Option Token = None in let long = length-set rows (n - 1) nothing in let same = are.count in omega (arith, more, long, same));
      each = λ number. row_set rows n number None there.0 there.1 ∙ ap (λ (o : Option Token). if n == number then None else o) (are.each number) ∙ sym (token_more entries (Cancelled n) number);
    }
