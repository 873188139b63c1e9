-- What attempts ask for, as contracts see it, after each change of their lines.
use Rattle.rm_book.proofs.Common.{◌≡◌, ℕ, ◌+◌, List, [], ◌∷◌, Bool, true, false, not, nat_lt, map, filter, None, Some, refl, sym, ◌∙◌, ap, list_any, map-append, Ask, AskLine, AttemptId, Resource, is_attempt, inl, inr, cases_Bool}
use Rattle.std.proofs.Common.{◌==◌, if◌then◌else◌}
use Rattle.rm_types.specs.Lists.{is_nil}
use Rattle.rm_types.specs.Passes.{by_priority}
use Rattle.rm_book.specs.AskTables.{AskNow, AsksOf, attempt_asks, asks_set, asks_granted, table_granted, is_for, one_less, renewed_ask, some_asks, waiting_in, with_asks_of, without_asks_of}
use Rattle.rm_book.specs.AskLines.{AttemptAsks, AreLines, IsAskTable, ask_of, asks_in, asks_of_entry, by_order, in_line, is_line_for, lines_in, lines_set, lines_granted, asking_order, put_by, with_lines}
use Rattle.rm_book.proofs.Entries.{Changed, lawful_lines}
use Rattle.rm_book.proofs.Lists.{any_view, filter_view, map_view}
use Rattle.rm_book.proofs.LineOrders.{placed_last, by_order_changed, by_order_filter, kept_in_order}
use Rattle.rm_book.proofs.NumberedLists.{any_sorted}

-- an ask of a priority and size is one of a line of them
pub any_same : (priority : ℕ) (size : Resource) (lines : List AskLine) → list_any (is_line_for priority size) lines ≡ list_any (is_for priority size) (asks_in lines)
any_same priority size lines = sym (any_sorted asking_order (is_line_for priority size) lines) ∙ any_view ask_of (is_for priority size) (by_order lines)

-- asks that go, and asks that change
asks_filter : (p : Ask → Bool) (lines : List AskLine) → asks_in (filter (λ line. p line.ask) lines) ≡ filter p (asks_in lines)
asks_filter p lines = ap (map ask_of) (by_order_filter (λ line. p line.ask) lines) ∙ filter_view ask_of p (by_order lines)

asks_changed : (change : Ask → Ask) (lines : List AskLine) → asks_in (map (in_line change) lines) ≡ map change (asks_in lines)
asks_changed change lines = ap (map ask_of) (by_order_changed change lines) ∙ map_view ask_of (in_line change) change (λ line. refl) (by_order lines)

-- an ask is set
pub set_view : (asked : ℕ) (ask : Ask) (lines : List AskLine) → AreLines asked lines → asks_in (lines_set ask (asked + 1) lines) ≡ asks_set ask (asks_in lines)
set_view asked ask lines h = by (ask.count == 0) (list_any (is_line_for ask.priority ask.size) lines) refl refl
  where
    by : (b c : Bool) → (ask.count == 0) ≡ b → list_any (is_line_for ask.priority ask.size) lines ≡ c → asks_in (lines_set ask (asked + 1) lines) ≡ asks_set ask (asks_in lines)
    by true c e f = rw e (asks_filter (λ one. not (is_for ask.priority ask.size one)) lines)
    by false true e f =
        let g : list_any (is_for ask.priority ask.size) (asks_in lines) ≡ true = sym (any_same ask.priority ask.size lines) ∙ f in
        rw (e, f, g) (asks_changed (renewed_ask ask) lines)
    by false false e f =
        let g : list_any (is_for ask.priority ask.size) (asks_in lines) ≡ false = sym (any_same ask.priority ask.size lines) ∙ f in
        let line : AskLine = record { ask = ask; order = asked + 1 } in
        rw (e, f, g) (ap (map ask_of) (placed_last line lines h.numbers) ∙ map-append ask_of (by_order lines) (line ∷ []))

-- one is granted
pub granted_view : (priority : ℕ) (size : Resource) (lines : List AskLine) → asks_in (lines_granted priority size lines) ≡ asks_granted priority size (asks_in lines)
granted_view priority size lines =
    asks_filter (λ ask. nat_lt 0 ask.count) (map (in_line (one_less priority size)) lines)
    ∙ ap (filter (λ (ask : Ask). nat_lt 0 ask.count)) (asks_changed (one_less priority size) lines)

-- what each attempt asks for
pub view_of : (entries : List AttemptAsks) (attempt : AttemptId) → attempt_asks (map asks_of_entry entries) attempt ≡ asks_in (lines_in entries attempt)
view_of [] attempt = refl
view_of (entry ∷ entries) attempt = elim (cases_Bool (is_attempt entry.attempt attempt)) [
  | inl e ↦ rw e refl
  | inr e ↦ rw e (view_of entries attempt)
]

pub changed_view : (asked : ℕ) (old new : List AttemptAsks) (attempt : AttemptId) (lines : List AskLine) (change : List Ask → List Ask) → Changed asked old new attempt lines
    → asks_in lines ≡ change (asks_in (lines_in old attempt)) → AskNow (map asks_of_entry old) (map asks_of_entry new) attempt (change (attempt_asks (map asks_of_entry old) attempt))
changed_view asked old new attempt lines change c same = record {
  at = view_of new attempt ∙ ap asks_in c.at ∙ same ∙ ap change (sym (view_of old attempt));
  others = λ other apart. view_of new other ∙ ap asks_in (c.others other apart) ∙ sym (view_of old other);
}

-- an attempt without lines asks for nothing
pub none_view : (entries : List AttemptAsks) (attempt : AttemptId) → lines_in entries attempt ≡ [] → None ≡ some_asks (by_priority (attempt_asks (map asks_of_entry entries) attempt))
none_view entries attempt none = rw (view_of entries attempt, none) refl

-- the lines of another are what a pass goes over
pub some_view : (asked : ℕ) (entries : List AttemptAsks) (attempt : AttemptId) (lines : List AskLine) → IsAskTable asked entries → lines_in entries attempt ≡ lines
    → is_nil lines ≡ false → Some (map ask_of lines) ≡ some_asks (by_priority (attempt_asks (map asks_of_entry entries) attempt))
some_view asked entries attempt lines h is some =
    let kept : by_priority (asks_in lines) ≡ map ask_of lines = kept_in_order lines (rw is at (lawful_lines asked entries attempt h)).order in
    rw (view_of entries attempt, is, kept) (not_nil lines some)
  where
    not_nil : (lines : List AskLine) → is_nil lines ≡ false → Some (map ask_of lines) ≡ some_asks (map ask_of lines)
    not_nil [] e = cc
    not_nil (line ∷ lines) e = refl

-- the whole table after a change of an attempt's lines, and without them
pub lines_view : (attempt : AttemptId) (lines : List AskLine) (entries : List AttemptAsks)
    → map asks_of_entry (with_lines attempt lines entries) ≡ with_asks_of attempt (asks_in lines) (map asks_of_entry entries)
lines_view attempt lines [] = refl
lines_view attempt lines (entry ∷ entries) = elim (cases_Bool (is_attempt entry.attempt attempt)) [
  | inl e ↦ rw e refl
  | inr e ↦ rw e (ap (λ (more : List AsksOf). asks_of_entry entry ∷ more) (lines_view attempt lines entries))
]

pub without_view : (attempt : AttemptId) (entries : List AttemptAsks)
    → map asks_of_entry (filter (λ entry. not (is_attempt entry.attempt attempt)) entries) ≡ without_asks_of attempt (map asks_of_entry entries)
without_view attempt entries = filter_view asks_of_entry (λ one. not (is_attempt one.attempt attempt)) entries

-- the table after an ask was set, and after one was granted
pub set_table : (asked : ℕ) (ask : Ask) (attempt : AttemptId) (entries : List AttemptAsks) → IsAskTable asked entries
    → map asks_of_entry (with_lines attempt (lines_set ask (asked + 1) (lines_in entries attempt)) entries)
    ≡ with_asks_of attempt (asks_set ask (attempt_asks (map asks_of_entry entries) attempt)) (map asks_of_entry entries)
set_table asked ask attempt entries h =
    lines_view attempt (lines_set ask (asked + 1) (lines_in entries attempt)) entries
    ∙ ap (λ (asks : List Ask). with_asks_of attempt asks (map asks_of_entry entries))
    (set_view asked ask (lines_in entries attempt) (lawful_lines asked entries attempt h) ∙ ap (asks_set ask) (sym (view_of entries attempt)))

pub granted_table : (priority : ℕ) (size : Resource) (attempt : AttemptId) (entries : List AttemptAsks)
    → map asks_of_entry (if list_any (λ entry. is_attempt entry.attempt attempt) entries then with_lines attempt (lines_granted priority size (lines_in entries attempt)) entries else entries)
    ≡ table_granted attempt priority size (map asks_of_entry entries)
granted_table priority size attempt entries =
    by (list_any (λ entry. is_attempt entry.attempt attempt) entries) refl (any_view asks_of_entry (λ one. is_attempt one.attempt attempt) entries)
  where
    by : (b : Bool) → list_any (λ entry. is_attempt entry.attempt attempt) entries ≡ b
        → list_any (λ entry. is_attempt entry.attempt attempt) entries ≡ list_any (λ one. is_attempt one.attempt attempt) (map asks_of_entry entries)
        → map asks_of_entry (if list_any (λ entry. is_attempt entry.attempt attempt) entries then with_lines attempt (lines_granted priority size (lines_in entries attempt)) entries else entries)
        ≡ table_granted attempt priority size (map asks_of_entry entries)
    by true e v =
        let f = sym v ∙ e in
        rw (e, f)
        (lines_view attempt (lines_granted priority size (lines_in entries attempt)) entries
        ∙ ap (λ (asks : List Ask). with_asks_of attempt asks (map asks_of_entry entries))
        (granted_view priority size (lines_in entries attempt) ∙ ap (asks_granted priority size) (sym (view_of entries attempt))))
    by false e v = let f = sym v ∙ e in rw (e, f) refl

-- an attempt asks for something where it has a line
nil_view : (lines : List AskLine) → is_nil (asks_in lines) ≡ is_nil lines
nil_view [] = refl
nil_view (line ∷ lines) = placed line (by_order lines)
  where
    placed : (line : AskLine) (lines : List AskLine) → is_nil (map ask_of (put_by asking_order line lines)) ≡ false
    placed line [] = refl
    placed line (other ∷ lines) = elim (cases_Bool (nat_lt other.order line.order)) [
      | inl e ↦ rw e refl
      | inr e ↦ rw e refl
    ]

pub waiting_view : (entries : List AttemptAsks) → map (λ entry. entry.attempt) (filter (λ entry. not (is_nil entry.lines)) entries) ≡ waiting_in (map asks_of_entry entries)
waiting_view [] = refl
waiting_view (entry ∷ entries) = elim (cases_Bool (is_nil entry.lines)) [
  | inl e ↦ let f = nil_view entry.lines ∙ e in rw (e, f) (waiting_view entries)
  | inr e ↦ let f = nil_view entry.lines ∙ e in rw (e, f) (ap (λ (more : List AttemptId). entry.attempt ∷ more) (waiting_view entries))
]
