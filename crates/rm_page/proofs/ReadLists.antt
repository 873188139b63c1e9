-- Lists, read back from their texts, and the items that stand in them.
use Rattle.std.proofs.Common.{◌≡◌, ℕ, ◌^◌, ◌<◌, ◌≤◌, Bool, true, false, not, cond, ◌&&◌, eqb, List, [], ◌∷◌, ◌++◌, length, map, filter, All, refl, ap, ◌∙◌, arith, codes}
use Rattle.std.specs.Fmt.{decimal}
use Rattle.std.specs.Str.{bytes_eq}
use Rattle.std.specs.List.{AllByRecursion, join_with_byte}
use Rattle.std.proofs.lemmas.Bool.{and_parts}
use Rattle.std.proofs.lemmas.Fmt.{decimal_nonempty}
use Rattle.std.proofs.lemmas.List.{map-id}
use Rattle.std.proofs.lemmas.List.Elements.{recursion_from_All}
use Rattle.rm_types.specs.declared.containers.Ask.{Ask}
use Rattle.rm_types.specs.declared.containers.Cause.{Cause}
use Rattle.rm_types.specs.declared.containers.Cause.TheVariants.{Done, Released, Node as NodeLost, Attempt as AttemptOver, Gone as NotTaken}
use Rattle.rm_types.specs.declared.containers.Closing.{Closing}
use Rattle.rm_types.specs.declared.containers.Grant.{Grant}
use Rattle.rm_types.specs.declared.containers.Held.{Held}
use Rattle.rm_types.specs.declared.ids.ContainerId.{ContainerId}
use Rattle.rm_types.specs.declared.texts.TextKind.TheVariants.{Node, Queue}
use Rattle.rm_types.specs.Ranges.{IsText, IsContainerId}
use Rattle.rm_types.specs.Texts.{is_allowed}
use Rattle.rm_formats.specs.IdTexts.{container_text}
use Rattle.rm_types.specs.Lists.{is_nil}
use Rattle.rm_formats.specs.Wording.{listed, bracketed, list_word, held_text, ask_text, cause_text, grant_text, closing_text}
use Rattle.rm_formats.specs.ids.Digits.{value_of}
use Rattle.rm_page.specs.Ranges.{IsPageHeld, IsPageAsk, IsGrant, IsClosing}
use Rattle.rm_page.specs.Shown.{no_size, told_grant, listed_grant, listed_held}
use Rattle.rm_page.proofs.Bytes.{made_of, lacks, made_of-append, is_part_byte, is_id_byte, decimal_made, number_back, text_made, text_lacks, text_long, cut, EachMade, EachMade-weaker, joined_made, cut_joined, behind, behind_is, is_word_byte, is_piece_byte, piece_by, queue_word, AreWords, joined_lacks}
use Rattle.rm_page.proofs.ReadIds.{container_made, container_lacks, container_word, read_container, container_back, container_not_nil}

-- ---- items with commas between them

-- an item that has a text of its own in a list: the text isn't empty, no comma stands in it, it is a word, and reading it
-- gives what is kept of the item
pub record ComesBack {X Y : Type 0} (text : X → List ℕ) (read : List ℕ → Y) (keep : X → Y) (item : X) : Type 0 where
  pub no_comma : lacks 44 (text item) ≡ true
  pub some : is_nil (text item) ≡ false
  pub word : made_of is_word_byte (text item) ≡ true
  pub back : read (text item) ≡ keep item

-- the items of a list, by its text
pub read_list : {Y : Type 0} → (List ℕ → Y) → List ℕ → List Y
read_list read text = map read (filter (λ piece. not (is_nil piece)) (cut 44 text))

cons_same : {Y : Type 0} (x y : Y) (xs ys : List Y) → x ≡ y → xs ≡ ys → x ∷ xs ≡ y ∷ ys
cons_same x y xs ys e f = rw (e, f) refl

pieces_made : {X Y : Type 0} (test : ℕ → Bool) (text : X → List ℕ) (read : List ℕ → Y) (keep : X → Y) → ((item : X) → ComesBack text read keep item → made_of test (text item) ≡ true)
    → (items : List X) → AllByRecursion (ComesBack text read keep) items → EachMade test (map text items)
pieces_made test text read keep made [] all = tt
pieces_made test text read keep made (item ∷ items) all = (made item all.0, pieces_made test text read keep made items all.1)

pieces_back : {X Y : Type 0} (text : X → List ℕ) (read : List ℕ → Y) (keep : X → Y) (items : List X) → AllByRecursion (ComesBack text read keep) items
    → map read (filter (λ piece. not (is_nil piece)) (map text items)) ≡ map keep items
pieces_back text read keep [] all = refl
pieces_back text read keep (item ∷ items) all =
    let others : List (List ℕ) = filter (λ piece. not (is_nil piece)) (map text items) in
    ap (λ (b : Bool). map read (cond (not b) (text item ∷ others) others)) all.0.some
    ∙ cons_same (read (text item)) (keep item) (map read others) (map keep items) all.0.back (pieces_back text read keep items all.1)

list_back_by : {X Y : Type 0} (text : X → List ℕ) (read : List ℕ → Y) (keep : X → Y) (items : List X) → AllByRecursion (ComesBack text read keep) items
    → read_list read (listed (map text items)) ≡ map keep items
unfolding read_list
list_back_by text read keep [] all = refl
list_back_by text read keep (item ∷ items) all =
    ap (λ (ps : List (List ℕ)). map read (filter (λ piece. not (is_nil piece)) ps)) (cut_joined 44 (text item) (map text items) (pieces_made (λ one. not (eqb one 44)) text read keep (λ one is. is.no_comma) (item ∷ items) all))
    ∙ pieces_back text read keep (item ∷ items) all

-- each item of the list comes back
pub list_back : {X Y : Type 0} (text : X → List ℕ) (read : List ℕ → Y) (keep : X → Y) (items : List X) → All (ComesBack text read keep) items
    → read_list read (listed (map text items)) ≡ map keep items
list_back text read keep items all = list_back_by text read keep items (recursion_from_All (ComesBack text read keep) items all)

-- and with nothing left out the list does
pub whole_list_back : {X : Type 0} (text : X → List ℕ) (read : List ℕ → X) (items : List X) → All (ComesBack text read (λ x. x)) items
    → read_list read (listed (map text items)) ≡ items
whole_list_back text read items all = list_back text read (λ x. x) items all ∙ map-id items

-- the text of a list is a word
pub listed_word : {X Y : Type 0} (text : X → List ℕ) (read : List ℕ → Y) (keep : X → Y) (items : List X) → All (ComesBack text read keep) items
    → made_of is_word_byte (listed (map text items)) ≡ true
listed_word text read keep items all =
    joined_made is_word_byte 44 (map text items) refl (pieces_made is_word_byte text read keep (λ item is. is.word) items (recursion_from_All (ComesBack text read keep) items all))

-- ---- lists in brackets

pub without_last : {X : Type 0} → List X → List X
without_last [] = []
without_last (item ∷ []) = []
without_last (item ∷ next ∷ items) = item ∷ without_last (next ∷ items)

pub without_last-push : {X : Type 0} (items : List X) (last : X) → without_last (items ++ last ∷ []) ≡ items
unfolding without_last
without_last-push [] last = refl
without_last-push (item ∷ []) last = refl
without_last-push {X} (item ∷ next ∷ items) last = ap (λ (others : List X). item ∷ others) (without_last-push (next ∷ items) last)

-- the items of a list in brackets, behind a label that ends with the first bracket
pub read_bracketed : {Y : Type 0} → (List ℕ → Y) → List ℕ → List ℕ → List Y
read_bracketed read label word = read_list read (without_last (behind label word))

pub bracketed_back : {X Y : Type 0} (text : X → List ℕ) (read : List ℕ → Y) (keep : X → Y) (label : List ℕ) (items : List X) → All (ComesBack text read keep) items
    → read_bracketed read label (label ++ (listed (map text items) ++ codes "]")) ≡ map keep items
unfolding read_bracketed
bracketed_back text read keep label items all =
    ap (λ (t : List ℕ). read_list read (without_last t)) (behind_is label (listed (map text items) ++ codes "]"))
    ∙ ap (read_list read) (without_last-push (listed (map text items)) 93)
    ∙ list_back text read keep items all

pub bracketed_word : {X Y : Type 0} (text : X → List ℕ) (read : List ℕ → Y) (keep : X → Y) (items : List X) → All (ComesBack text read keep) items
    → made_of is_word_byte (bracketed (map text items)) ≡ true
bracketed_word text read keep items all = made_of-append is_word_byte (listed (map text items)) (codes "]") (listed_word text read keep items all) refl

-- ---- lists that stand only where they have items

pub list_word_is : {X Y : Type 0} (text : X → List ℕ) (read : List ℕ → Y) (keep : X → Y) (label : List ℕ) (items : List X) → made_of is_word_byte label ≡ true → All (ComesBack text read keep) items
    → AreWords (list_word label (map text items))
list_word_is text read keep label [] of_label all = tt
list_word_is text read keep label (item ∷ items) of_label all =
    (made_of-append is_word_byte label (listed (map text (item ∷ items))) of_label (listed_word text read keep (item ∷ items) all), tt)

begins_with : List ℕ → List ℕ → Bool
begins_with [] word = true
begins_with (one ∷ label) [] = false
begins_with (one ∷ label) (byte ∷ word) = cond (eqb byte one) (begins_with label word) false

-- what stands behind the label in the first word that begins with it
pub word_at : List ℕ → List (List ℕ) → List ℕ
word_at label [] = []
word_at label (word ∷ words) = cond (begins_with label word) (behind label word) (word_at label words)

pub ask_word : (asks release : List (List ℕ)) → word_at (codes "ask=") (list_word (codes "ask=") asks ++ list_word (codes "release=") release) ≡ listed asks
unfolding word_at begins_with
ask_word [] [] = refl
ask_word [] (one ∷ release) = refl
ask_word (ask ∷ asks) release = refl

pub release_word : (asks release : List (List ℕ)) → word_at (codes "release=") (list_word (codes "ask=") asks ++ list_word (codes "release=") release) ≡ listed release
unfolding word_at begins_with
release_word [] [] = refl
release_word [] (one ∷ release) = refl
release_word (ask ∷ asks) [] = refl
release_word (ask ∷ asks) (one ∷ release) = refl

pub running_word : (running done : List (List ℕ)) → word_at (codes "running=") (list_word (codes "running=") running ++ list_word (codes "done=") done) ≡ listed running
unfolding word_at begins_with
running_word [] [] = refl
running_word [] (one ∷ done) = refl
running_word (held ∷ running) done = refl

pub done_word : (running done : List (List ℕ)) → word_at (codes "done=") (list_word (codes "running=") running ++ list_word (codes "done=") done) ≡ listed done
unfolding word_at begins_with
done_word [] [] = refl
done_word [] (one ∷ done) = refl
done_word (held ∷ running) [] = refl
done_word (held ∷ running) (one ∷ done) = refl

pub lone_running_word : (running : List (List ℕ)) → word_at (codes "running=") (list_word (codes "running=") running) ≡ listed running
unfolding word_at begins_with
lone_running_word [] = refl
lone_running_word (held ∷ running) = refl

-- ---- items

joined_some : (joint : ℕ) (first : List ℕ) (more : List (List ℕ)) → is_nil first ≡ false → is_nil (join_with_byte joint (first ∷ more)) ≡ false
joined_some joint [] more some = absurd cc
joined_some joint (byte ∷ first) [] some = refl
joined_some joint (byte ∷ first) (next ∷ more) some = refl

-- an item comes back that is pieces joined by a byte, where none of them has this byte or a comma
joined_comes_back : {X Y : Type 0} (text : X → List ℕ) (of : List (List ℕ) → Y) (keep : X → Y) (item : X) (joint : ℕ) (first : List ℕ) (more : List (List ℕ))
    → text item ≡ join_with_byte joint (first ∷ more) → is_word_byte joint ≡ true → eqb joint 44 ≡ false → is_nil first ≡ false
    → EachMade (is_piece_byte joint) (first ∷ more) → of (first ∷ more) ≡ keep item → ComesBack text (λ t. of (cut joint t)) keep item
joined_comes_back text of keep item joint first more same joins other some made back =
    let word : (byte : ℕ) → is_piece_byte joint byte ≡ true → is_word_byte byte ≡ true =
    λ byte passes. (and_parts (is_word_byte byte) (not (eqb byte 44) && not (eqb byte joint)) passes).0 in
    let others : (byte : ℕ) → is_piece_byte joint byte ≡ true → (not (eqb byte 44) ≡ true) × (not (eqb byte joint) ≡ true) =
    λ byte passes. and_parts (not (eqb byte 44)) (not (eqb byte joint)) (and_parts (is_word_byte byte) (not (eqb byte 44) && not (eqb byte joint)) passes).1 in
    let pieces : List (List ℕ) = first ∷ more in
    record {
      no_comma = ap (lacks 44) same ∙ joined_lacks 44 joint pieces other (EachMade-weaker (is_piece_byte joint) (λ byte. not (eqb byte 44)) (λ byte passes. (others byte passes).0) pieces made);
      some = ap is_nil same ∙ joined_some joint first more some;
      word = ap (made_of is_word_byte) same ∙ joined_made is_word_byte joint pieces joins (EachMade-weaker (is_piece_byte joint) is_word_byte word pieces made);
      back = ap (λ (t : List ℕ). of (cut joint t)) same
          ∙ ap of (cut_joined joint first more (EachMade-weaker (is_piece_byte joint) (λ byte. not (eqb byte joint)) (λ byte passes. (others byte passes).1) pieces made)) ∙ back;
    }

some_by_length : (text : List ℕ) → 1 ≤ length text → is_nil text ≡ false
some_by_length [] some = absurd (omega arith)
some_by_length (byte ∷ text) some = refl

number_piece : (joint number : ℕ) → is_part_byte joint ≡ false → number < 2 ^ 64 → made_of (is_piece_byte joint) (decimal number) ≡ true
number_piece joint number other fits = piece_by joint is_part_byte (decimal number) refl refl refl refl other (decimal_made number fits)

container_piece : (joint : ℕ) (id : ContainerId) → is_id_byte joint ≡ false → IsContainerId id → made_of (is_piece_byte joint) (container_text id) ≡ true
container_piece joint id other is = piece_by joint is_id_byte (container_text id) refl refl refl refl other (container_made id is)

pub containers_come_back : (id : ContainerId) → IsContainerId id → ComesBack container_text read_container (λ x. x) id
containers_come_back id is = record { no_comma = container_lacks 44 id refl is; some = container_not_nil id; word = container_word id is; back = container_back id is }

pub texts_come_back : (text : List ℕ) → IsText Queue text → ComesBack (λ x. x) (λ x. x) (λ x. x) text
texts_come_back text is = record { no_comma = text_lacks Queue 44 text refl is; some = some_by_length text (text_long Queue text is); word = queue_word text is; back = refl }

held_of : List (List ℕ) → Held
held_of (id ∷ memory ∷ vcores ∷ []) = record { id = read_container id; size = record { memory_mb = value_of memory; vcores = value_of vcores } }
held_of pieces = record { id = read_container []; size = no_size }

pub read_held : List ℕ → Held
read_held text = held_of (cut 58 text)

pub held_comes_back : (held : Held) → IsPageHeld held → ComesBack held_text read_held (λ x. x) held
unfolding read_held held_of
held_comes_back held is =
    let memory : held.size.memory_mb < 2 ^ 64 = omega (arith, is.size.0) in
    let vcores : held.size.vcores < 2 ^ 64 = omega (arith, is.size.1) in
    joined_comes_back held_text held_of (λ x. x) held 58 (container_text held.id) (decimal held.size.memory_mb ∷ decimal held.size.vcores ∷ []) refl refl refl (container_not_nil held.id)
    (container_piece 58 held.id refl is.id, (number_piece 58 held.size.memory_mb refl memory, (number_piece 58 held.size.vcores refl vcores, tt)))
    (rw (container_back held.id is.id, number_back held.size.memory_mb memory, number_back held.size.vcores vcores) refl)

ask_of : List (List ℕ) → Ask
ask_of (priority ∷ count ∷ memory ∷ vcores ∷ []) =
    record { priority = value_of priority; count = value_of count; size = record { memory_mb = value_of memory; vcores = value_of vcores } }
ask_of pieces = record { priority = 0; count = 0; size = no_size }

pub read_ask : List ℕ → Ask
read_ask text = ask_of (cut 58 text)

pub ask_comes_back : (ask : Ask) → IsPageAsk ask → ComesBack ask_text read_ask (λ x. x) ask
unfolding read_ask ask_of
ask_comes_back ask is =
    let priority : ask.priority < 2 ^ 64 = omega (arith, is.priority) in
    let count : ask.count < 2 ^ 64 = omega (arith, is.count) in
    let memory : ask.size.memory_mb < 2 ^ 64 = omega (arith, is.size.0) in
    let vcores : ask.size.vcores < 2 ^ 64 = omega (arith, is.size.1) in
    joined_comes_back ask_text ask_of (λ x. x) ask 58 (decimal ask.priority) (decimal ask.count ∷ decimal ask.size.memory_mb ∷ decimal ask.size.vcores ∷ []) refl refl refl
    (some_by_length (decimal ask.priority) (omega (arith, decimal_nonempty ask.priority priority))) (
      number_piece 58 ask.priority refl priority,
      (number_piece 58 ask.count refl count, (number_piece 58 ask.size.memory_mb refl memory, (number_piece 58 ask.size.vcores refl vcores, tt))),
    )
    (rw (number_back ask.priority priority, number_back ask.count count, number_back ask.size.memory_mb memory, number_back ask.size.vcores vcores) refl)

grant_of : List (List ℕ) → Grant
grant_of (id ∷ node ∷ []) = record { id = read_container id; node = node; size = no_size }
grant_of pieces = record { id = read_container []; node = []; size = no_size }

pub read_grant : List ℕ → Grant
read_grant text = grant_of (cut 64 text)

pub grant_comes_back : (grant : Grant) → IsGrant grant → ComesBack grant_text read_grant told_grant grant
unfolding read_grant grant_of
grant_comes_back grant is =
    joined_comes_back grant_text grant_of told_grant grant 64 (container_text grant.id) (grant.node ∷ []) refl refl refl (container_not_nil grant.id)
    (container_piece 64 grant.id refl is.id, (piece_by 64 (is_allowed Node) grant.node refl refl refl refl refl (text_made Node grant.node is.node), tt))
    (rw (container_back grant.id is.id) refl)

pub read_cause : List ℕ → Cause
read_cause word =
    cond (bytes_eq word (codes "done")) Done
    (cond (bytes_eq word (codes "released")) Released
    (cond (bytes_eq word (codes "node")) NodeLost
    (cond (bytes_eq word (codes "attempt")) AttemptOver NotTaken)))

pub cause_back : (cause : Cause) → read_cause (cause_text cause) ≡ cause
unfolding read_cause
cause_back Done = refl
cause_back cause = refl

pub cause_word : (cause : Cause) → made_of is_word_byte (cause_text cause) ≡ true
cause_word Done = refl
cause_word cause = refl

cause_piece : (cause : Cause) → made_of (is_piece_byte 58) (cause_text cause) ≡ true
cause_piece Done = refl
cause_piece cause = refl

closing_of : List (List ℕ) → Closing
closing_of (id ∷ cause ∷ []) = record { id = read_container id; cause = read_cause cause }
closing_of pieces = record { id = read_container []; cause = Done }

pub read_closing : List ℕ → Closing
read_closing text = closing_of (cut 58 text)

pub closing_comes_back : (closing : Closing) → IsClosing closing → ComesBack closing_text read_closing (λ x. x) closing
unfolding read_closing closing_of
closing_comes_back closing is =
    joined_comes_back closing_text closing_of (λ x. x) closing 58 (container_text closing.id) (cause_text closing.cause ∷ []) refl refl refl (container_not_nil closing.id)
    (container_piece 58 closing.id refl is, (cause_piece closing.cause, tt)) (rw (container_back closing.id is, cause_back closing.cause) refl)

-- ---- items by their containers alone

pub read_listed_held : List ℕ → Held
read_listed_held text = record { id = read_container text; size = no_size }

pub listed_held_comes_back : (held : Held) → IsPageHeld held → ComesBack (λ one. container_text one.id) read_listed_held listed_held held
unfolding read_listed_held
listed_held_comes_back held is = record {
  no_comma = container_lacks 44 held.id refl is.id;
  some = container_not_nil held.id;
  word = container_word held.id is.id;
  back = rw (container_back held.id is.id) refl;
}

pub read_listed_grant : List ℕ → Grant
read_listed_grant text = record { id = read_container text; node = []; size = no_size }

pub listed_grant_comes_back : (grant : Grant) → IsGrant grant → ComesBack (λ one. container_text one.id) read_listed_grant listed_grant grant
unfolding read_listed_grant
listed_grant_comes_back grant is = record {
  no_comma = container_lacks 44 grant.id refl is.id;
  some = container_not_nil grant.id;
  word = container_word grant.id is.id;
  back = rw (container_back grant.id is.id) refl;
}
