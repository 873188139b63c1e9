-- Parts of what is read: what is found of a part is found of the whole, and where no part is found neither is the whole.
use Rattle.std.proofs.Common.{◌≡◌, ℕ, Bool, true, false, cond, List, ◌∷◌, Option, Some, None, Result, Ok, Err, refl, sym, ap, ◌∙◌}
use Rattle.std.specs.Prelude.{IsErrAnd, IfErr}
use Rattle.std.specs.Str.{bytes_eq}
use Rattle.std.proofs.lemmas.Bool.{false≢true}
use Rattle.rm_types.proofs.TestLemmas.{same_text, text_itself}
use Rattle.rm_lines.specs.declared.errors.LineError.{LineError}
use Rattle.rm_lines.specs.declared.errors.LineError.TheVariants.{Refused, Memory}
use Rattle.rm_lines.specs.Results.{◌>>=◌, Finds, FindsNone, IsOf}

-- ---- steps that may fail

pub bound : {A B : Type 0} (o : Option A) (f : A → Option B) (y : B) → (o >>= f) ≡ Some y → (x : A) × (o ≡ Some x) × (f x ≡ Some y)
bound None f y e = absurd cc
bound (Some x) f y e = (x, refl, e)

pub not_chosen : {A : Type 0} (b : Bool) (o : Option A) (x : A) → cond b None o ≡ Some x → (b ≡ false) × (o ≡ Some x)
not_chosen true o x e = absurd cc
not_chosen false o x e = (refl, e)

pub not_some : {Y : Type 0} (o : Option Y) (y : Y) → o ≡ None → o ≡ Some y → ⊥
not_some o y e f = absurd (let none : None ≡ Some y = sym e ∙ f in cc)

-- ---- words

pub differ : (a b : List ℕ) → bytes_eq a b ≡ false → a ≡ b → ⊥
differ a b e same = false≢true (sym e ∙ ap (λ (word : List ℕ). bytes_eq word b) same ∙ text_itself b)

pub heads : {a b : List ℕ} {xs ys : List (List ℕ)} → a ∷ xs ≡ b ∷ ys → (a ≡ b) × (xs ≡ ys)
heads e = (cc, cc)

-- ---- what is found

-- the same values in other words
pub found_as : {X : Type 0} (Is Other : X → Type 0) (answer : Result X LineError) → ((x : X) → Is x → Other x) → ((x : X) → Other x → Is x) → Finds answer Is → Finds answer Other
found_as Is Other (Ok x) to from is = to x is
found_as Is Other (Err (Refused fault)) to from none = λ x other. none x (from x other)
found_as Is Other (Err Memory) to from none = tt

-- what `?` hands on where a part isn't found
pub stops : {X Y : Type 0} (answer : Result X LineError) (error : LineError) (Is : X → Type 0) (IsPart : Y → Type 0) → IsErrAnd answer (λ returned. returned ≡ error) → FindsNone error IsPart
    → ((x : X) → Is x → (y : Y) × IsPart y) → Finds answer Is
stops (Ok value) error Is IsPart same none part = absurd same
stops (Err returned) (Refused fault) Is IsPart same none part = rw same (λ x is. let y = part x is in none y.0 y.1)
stops (Err returned) Memory Is IsPart same none part = rw same tt

-- where it is known that there is none
pub none_there : {X : Type 0} (answer : Result X LineError) (error : LineError) (Is : X → Type 0) → IsErrAnd answer (λ returned. returned ≡ error) → ((x : X) → Is x → ⊥) → Finds answer Is
none_there (Ok value) error Is same none = absurd same
none_there (Err (Refused fault)) error Is same none = none
none_there (Err Memory) error Is same none = tt

-- words that are the same begin with the same, and the same is left behind that
pub first_same : {a b : List ℕ} {words left rest : List (List ℕ)} → words ≡ a ∷ left → words ≡ b ∷ rest → a ≡ b
first_same one other = (heads (sym one ∙ other)).0

pub left_same : {a b : List ℕ} {words left rest : List (List ℕ)} → words ≡ a ∷ left → words ≡ b ∷ rest → left ≡ rest
left_same one other = (heads (sym one ∙ other)).1

-- what an error says in other words
pub err_any : {X E P : Type 0} (answer : Result X E) → P → IfErr answer (λ error. P)
err_any (Ok value) p = tt
err_any (Err error) p = p

pub err_as : {X E P Q : Type 0} (answer : Result X E) → (P → Q) → IfErr answer (λ error. P) → IfErr answer (λ error. Q)
err_as (Ok value) f p = tt
err_as (Err error) f p = f p

-- what is found by a word is found where that word stands
pub at_word : {X : Type 0} (written : X → List (List ℕ)) (Fits : X → Type 0) (answer : Result X LineError) (word name : List ℕ) (left : List (List ℕ)) → Finds answer (IsOf written Fits (name ∷ left))
    → bytes_eq word name ≡ true → Finds answer (IsOf written Fits (word ∷ left))
at_word written Fits answer word name left found e =
    let is : word ≡ name = same_text word name e in
    rw is found

-- the words begin with that of a value that fits
abbrev pub Starts : {Y : Type 0} → (Y → List ℕ) → (Y → Type 0) → List (List ℕ) → Type 0
Starts {Y} written Fits words = (y : Y) × (left : List (List ℕ)) × (words ≡ written y ∷ left) × Fits y

-- what `?` hands on where the first word is none that these values have
pub stops_word : {X Y : Type 0} (answer : Result X LineError) (error : LineError) (Is : X → Type 0) (written : Y → List ℕ) (Fits : Y → Type 0) (words : List (List ℕ)) (word : List ℕ) (left : List (List ℕ))
    → IsErrAnd answer (λ returned. returned ≡ error) → words ≡ word ∷ left → FindsNone error (IsOf written Fits word) → ((x : X) → Is x → Starts written Fits words) → Finds answer Is
stops_word answer error Is written Fits words word left same first none part =
    stops answer error Is (IsOf written Fits word) same none (λ x is. let at = part x is in (at.0, record { same = first_same first at.2; fits = at.3 }))
