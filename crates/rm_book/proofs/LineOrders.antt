-- Lines that are kept in the order of a pass, seen in the order of first asking.
use Rattle.rm_book.proofs.Common.{◌≡◌, ◌<◌, List, [], ◌∷◌, ◌++◌, Bool, true, false, not, ◌&&◌, ◌||◌, nat_lt, cond, map, filter, refl, ◌∙◌, ap, arith, list_all, and_from, and_parts, nat_tests, Ask, AskLine, inl, inr, cases_Bool}
use Rattle.rm_types.specs.Passes.{put_by_priority, by_priority}
use Rattle.rm_book.specs.AskLines.{AreInOrder, ask_of, asks_in, by_order, in_line, is_asked_before, asking_order, placed, put_by}
use Rattle.rm_book.proofs.Lists.{all_filter, all_map, all_more}
use Rattle.rm_book.proofs.NumberedLists.{all_put, all_sorted, put_behind}

-- a new line, which has the greatest number, is the last, wherever it is placed

put_last : (x line : AskLine) (ys : List AskLine) → x.order < line.order → put_by asking_order x (ys ++ line ∷ []) ≡ put_by asking_order x ys ++ line ∷ []
put_last x line [] lt = let e : nat_lt line.order x.order ≡ false = grind (arith, nat_tests) in rw e refl
put_last x line (y ∷ ys) lt = elim (cases_Bool (nat_lt y.order x.order)) [
  | inl e ↦ rw e (ap (λ (l : List AskLine). y ∷ l) (put_last x line ys lt))
  | inr e ↦ rw e refl
]

pub placed_last : (line : AskLine) (ys : List AskLine) → list_all (λ one. nat_lt one.order line.order) ys ≡ true → by_order (placed line ys) ≡ by_order ys ++ line ∷ []
placed_last line [] all = refl
placed_last line (y ∷ ys) all =
    let first : y.order < line.order = grind (arith, nat_tests) in
    let rest : list_all (λ one. nat_lt one.order line.order) ys ≡ true = grind arith in
    by (is_asked_before y line) refl first (placed_last line ys rest)
  where
    by : (b : Bool) → is_asked_before y line ≡ b → y.order < line.order → by_order (placed line ys) ≡ by_order ys ++ line ∷ []
        → by_order (placed line (y ∷ ys)) ≡ by_order (y ∷ ys) ++ line ∷ []
    by true e first more = rw (e, more) (put_last y line (by_order ys) first)
    by false e first more = rw e (put_behind asking_order line (by_order (y ∷ ys)) (all_sorted asking_order (λ one. nat_lt one.order line.order) (y ∷ ys) all))

-- a change of what lines ask for

put_changed : (change : Ask → Ask) (x : AskLine) (ys : List AskLine) → put_by asking_order (in_line change x) (map (in_line change) ys) ≡ map (in_line change) (put_by asking_order x ys)
put_changed change x [] = refl
put_changed change x (y ∷ ys) = elim (cases_Bool (nat_lt y.order x.order)) [
  | inl e ↦ rw e (ap (λ (l : List AskLine). in_line change y ∷ l) (put_changed change x ys))
  | inr e ↦ rw e refl
]

pub by_order_changed : (change : Ask → Ask) (ys : List AskLine) → by_order (map (in_line change) ys) ≡ map (in_line change) (by_order ys)
by_order_changed change [] = refl
by_order_changed change (y ∷ ys) = rw (by_order_changed change ys) (put_changed change y (by_order ys))

-- lines go

-- the line's number is at most another's
abbrev is_first : AskLine → AskLine → Bool
is_first line other = not (nat_lt other.order line.order)

-- each line's number is at most those after it
abbrev AreByOrder : List AskLine → Type 0
AreByOrder [] = Unit {0}
AreByOrder (y ∷ ys) = (list_all (is_first y) ys ≡ true) × AreByOrder ys

first_through : (x y z : AskLine) → is_first x y ≡ true → is_first y z ≡ true → is_first x z ≡ true
first_through x y z e f = grind (arith, nat_tests)

put_by_order_is : (x : AskLine) (ys : List AskLine) → AreByOrder ys → AreByOrder (put_by asking_order x ys)
put_by_order_is x [] h = (refl, tt)
put_by_order_is x (y ∷ ys) h = by (nat_lt y.order x.order) refl (put_by_order_is x ys h.1)
  where
    by : (b : Bool) → nat_lt y.order x.order ≡ b → AreByOrder (put_by asking_order x ys) → AreByOrder (put_by asking_order x (y ∷ ys))
    by true e rest =
        let first : is_first y x ≡ true = grind (arith, nat_tests) in
        rw e (all_put asking_order (is_first y) x ys first h.0, rest)
    by false e rest =
        let first : is_first x y ≡ true = rw e refl in
        rw e (and_from (is_first x y) _ first (all_more (is_first y) (is_first x) (λ z f. first_through x y z first f) ys h.0), h)

are_by_order : (ys : List AskLine) → AreByOrder (by_order ys)
are_by_order [] = tt
are_by_order (y ∷ ys) = put_by_order_is y (by_order ys) (are_by_order ys)

put_first : (x : AskLine) (ys : List AskLine) → list_all (is_first x) ys ≡ true → put_by asking_order x ys ≡ x ∷ ys
put_first x [] all = refl
put_first x (y ∷ ys) all = let e : nat_lt y.order x.order ≡ false = grind arith in rw e refl

put_stays : (p : AskLine → Bool) (x : AskLine) (ys : List AskLine) → AreByOrder ys → p x ≡ true → put_by asking_order x (filter p ys) ≡ filter p (put_by asking_order x ys)
put_stays p x [] h t = rw t refl
put_stays p x (y ∷ ys) h t = by (nat_lt y.order x.order) (p y) refl refl (put_stays p x ys h.1 t)
  where
    by : (b c : Bool) → nat_lt y.order x.order ≡ b → p y ≡ c → put_by asking_order x (filter p ys) ≡ filter p (put_by asking_order x ys)
        → put_by asking_order x (filter p (y ∷ ys)) ≡ filter p (put_by asking_order x (y ∷ ys))
    by true true e f rest = rw (e, f) (rw e (ap (λ (l : List AskLine). y ∷ l) rest))
    by true false e f rest = rw (e, f) rest
    by false true e f rest = rw (e, f, t) (rw e refl)
    by false false e f rest =
        let first : is_first x y ≡ true = rw e refl in
        let later : list_all (is_first x) ys ≡ true = all_more (is_first y) (is_first x) (λ z g. first_through x y z first g) ys h.0 in
        rw (e, f, t) (put_first x (filter p ys) (all_filter (is_first x) p ys later))

put_goes : (p : AskLine → Bool) (x : AskLine) (ys : List AskLine) → p x ≡ false → filter p ys ≡ filter p (put_by asking_order x ys)
put_goes p x [] f = rw f refl
put_goes p x (y ∷ ys) f = elim (cases_Bool (nat_lt y.order x.order)) [
  | inl e ↦ rw e (ap (λ (l : List AskLine). cond (p y) (y ∷ l) l) (put_goes p x ys f))
  | inr e ↦ rw e (rw f refl)
]

pub by_order_filter : (p : AskLine → Bool) (ys : List AskLine) → by_order (filter p ys) ≡ filter p (by_order ys)
by_order_filter p [] = refl
by_order_filter p (y ∷ ys) = by (p y) refl (by_order_filter p ys)
  where
    by : (b : Bool) → p y ≡ b → by_order (filter p ys) ≡ filter p (by_order ys) → by_order (filter p (y ∷ ys)) ≡ filter p (by_order (y ∷ ys))
    by true e more = rw (e, more) (put_stays p y (by_order ys) (are_by_order ys) e)
    by false e more = rw (e, more) (put_goes p y (by_order ys) e)

-- what is kept is the order of a pass

-- the ask's priority is at most another's
abbrev is_least : Ask → Ask → Bool
is_least ask one = not (nat_lt one.priority ask.priority)

put_before : (ask : Ask) (asks : List Ask) → list_all (is_least ask) asks ≡ true → put_by_priority ask asks ≡ ask ∷ asks
put_before ask [] all = refl
put_before ask (one ∷ asks) all = let e : nat_lt one.priority ask.priority ≡ false = grind arith in rw e refl

-- a test holds of the same asks in the order of a pass

both : (a b c : Bool) → (b && (a && c)) ≡ (a && (b && c))
both true b c = refl
both false true c = refl
both false false c = refl

all_put_by_priority : (p : Ask → Bool) (ask : Ask) (asks : List Ask) → list_all p (put_by_priority ask asks) ≡ list_all p (ask ∷ asks)
all_put_by_priority p ask [] = refl
all_put_by_priority p ask (one ∷ asks) = elim (cases_Bool (nat_lt one.priority ask.priority)) [
  | inl e ↦ rw (e, all_put_by_priority p ask asks) (both (p ask) (p one) (list_all p asks))
  | inr e ↦ rw e refl
]

pub all_by_priority : (p : Ask → Bool) (asks : List Ask) → list_all p (by_priority asks) ≡ list_all p asks
all_by_priority p [] = refl
all_by_priority p (one ∷ asks) = all_put_by_priority p one (by_priority asks) ∙ ap (λ (b : Bool). p one && b) (all_by_priority p asks)

-- the other line has no lesser priority, and where it has the same no lesser number
abbrev comes_first : AskLine → AskLine → Bool
comes_first x y = is_least x.ask y.ask && (nat_lt x.ask.priority y.ask.priority || not (nat_lt y.order x.order))

least_of_all : (x : AskLine) (ys : List AskLine) → list_all (comes_first x) ys ≡ true → list_all (is_least x.ask) (map ask_of ys) ≡ true
least_of_all x ys all = all_map ask_of (comes_first x) (is_least x.ask) (λ y e. (and_parts (is_least x.ask y.ask) _ e).0) ys all

first_of_all : (x : AskLine) (ys : List AskLine) → list_all (comes_first x) ys ≡ true → by_priority (map ask_of (put_by asking_order x ys)) ≡ x.ask ∷ by_priority (map ask_of ys)
first_of_all x [] all = refl
first_of_all x (y ∷ ys) all =
    let rest : list_all (comes_first x) ys ≡ true = grind arith in
    by (nat_lt y.order x.order) refl (first_of_all x ys rest)
  where
    by : (b : Bool) → nat_lt y.order x.order ≡ b → by_priority (map ask_of (put_by asking_order x ys)) ≡ x.ask ∷ by_priority (map ask_of ys)
        → by_priority (map ask_of (put_by asking_order x (y ∷ ys))) ≡ x.ask ∷ by_priority (map ask_of (y ∷ ys))
    by true e more = let less : nat_lt x.ask.priority y.ask.priority ≡ true = grind arith in rw (e, more) (rw less refl)
    by false e more =
        rw e
        (put_before x.ask (by_priority (map ask_of (y ∷ ys))) (all_by_priority (is_least x.ask) (map ask_of (y ∷ ys)) ∙ least_of_all x (y ∷ ys) all))

before_first : (x y : AskLine) → is_asked_before x y ≡ true → comes_first x y ≡ true
before_first x y e = grind (arith, nat_tests)

pub kept_in_order : (lines : List AskLine) → AreInOrder lines → by_priority (asks_in lines) ≡ map ask_of lines
kept_in_order [] h = refl
kept_in_order (x ∷ lines) h =
    first_of_all x (by_order lines) (all_sorted asking_order (comes_first x) lines (all_more (is_asked_before x) (comes_first x) (before_first x) lines h.0))
    ∙ ap (λ (l : List Ask). x.ask ∷ l) (kept_in_order lines h.1)
