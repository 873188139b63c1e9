-- Logs, read back from their pages.
use Rattle.std.proofs.Common.{◌≡◌, ℕ, Bool, true, false, not, cond, nat_eq, List, [], ◌∷◌, ◌++◌, map, filter, All, refl, sym, ap, ◌∙◌, codes}
use Rattle.std.specs.Prelude.{◌↔◌}
use Rattle.std.specs.List.{AllByRecursion, flat_map}
use Rattle.std.proofs.lemmas.List.{append_assoc}
use Rattle.std.proofs.lemmas.List.Elements.{recursion_from_All}
use Rattle.std.proofs.lemmas.List.Folds.{flat_map-map}
use Rattle.rm_types.specs.declared.entries.Entry.{Entry}
use Rattle.rm_types.specs.declared.entries.Entry.TheVariants as entries
use Rattle.rm_types.specs.declared.messages.Lane.{Lane}
use Rattle.rm_types.specs.declared.messages.Lane.TheVariants as lanes
use Rattle.rm_types.specs.Lists.{is_nil}
use Rattle.rm_formats.specs.Page.{line_of, lane_letter, letters, moves_line, page}
use Rattle.rm_types.specs.Lanes.{lane_of_entry}
use Rattle.rm_page.specs.Ranges.{IsEntry}
use Rattle.rm_page.specs.Shown.{shown, is_silent, shown_log}
use Rattle.rm_page.proofs.Bytes.{lacks, lacks-append, cut, cut_at, behind}
use Rattle.rm_page.proofs.ReadLists.{without_last, without_last-push}
use Rattle.rm_page.proofs.ReadEntries.{HasLine, has_line, read_line, line_of-shown}

-- ---- lines

-- a page is cut into lines, which show the log
record PageIs (log : List Entry) : Type 0 where
  pub bodies : List (List ℕ)
  pub cuts : (rest : List ℕ) → cut 10 (flat_map line_of log ++ rest) ≡ bodies ++ cut 10 rest
  pub back : map read_line bodies ≡ shown_log log

silent_line : (entry : Entry) → is_silent entry ≡ true → line_of entry ≡ []
silent_line entries.Handed silent = refl
silent_line (entries.Quiet lane) silent = refl
silent_line entry silent = absurd cc

shown_log-silent : (entry : Entry) (log : List Entry) → is_silent entry ≡ true → shown_log (entry ∷ log) ≡ shown_log log
shown_log-silent entry log silent =
    let others : List Entry = filter (λ e. not (is_silent e)) log in
    ap (λ b. map shown (cond (not b) (entry ∷ others) others)) silent

shown_log-heard : (entry : Entry) (log : List Entry) → is_silent entry ≡ false → shown_log (entry ∷ log) ≡ shown entry ∷ shown_log log
shown_log-heard entry log heard =
    let others : List Entry = filter (λ e. not (is_silent e)) log in
    ap (λ b. map shown (cond (not b) (entry ∷ others) others)) heard

with_silent : (entry : Entry) (log : List Entry) → is_silent entry ≡ true → PageIs log → PageIs (entry ∷ log)
with_silent entry log silent is = record {
  bodies = is.bodies;
  cuts = λ rest. ap (λ (text : List ℕ). cut 10 ((text ++ flat_map line_of log) ++ rest)) (silent_line entry silent) ∙ is.cuts rest;
  back = is.back ∙ sym (shown_log-silent entry log silent);
}

regrouped : (body lines rest : List ℕ) → ((body ++ codes "\n") ++ lines) ++ rest ≡ body ++ 10 ∷ (lines ++ rest)
regrouped body lines rest = simp append_assoc

with_heard : (entry : Entry) (log : List Entry) → is_silent entry ≡ false → HasLine entry → PageIs log → PageIs (entry ∷ log)
with_heard entry log heard line is = record {
  bodies = line.body ∷ is.bodies;
  cuts = λ rest.
      ap (λ (text : List ℕ). cut 10 ((text ++ flat_map line_of log) ++ rest)) line.same
      ∙ ap (cut 10) (regrouped line.body (flat_map line_of log) rest)
      ∙ cut_at 10 line.body (flat_map line_of log ++ rest) line.no_feed
      ∙ ap (λ (ps : List (List ℕ)). line.body ∷ ps) (is.cuts rest);
  back = ap (λ (e : Entry). e ∷ map read_line is.bodies) line.back ∙ ap (λ (es : List Entry). shown entry ∷ es) is.back ∙ sym (shown_log-heard entry log heard);
}

page_is : (log : List Entry) → AllByRecursion IsEntry log → PageIs log
page_is [] all = record { bodies = []; cuts = λ rest. refl; back = refl }
page_is (entry ∷ log) all = by_silence (page_is log all.1) (is_silent entry) refl
  where
    by_silence : PageIs log → (b : Bool) → is_silent entry ≡ b → PageIs (entry ∷ log)
    by_silence others true silent = with_silent entry log silent others
    by_silence others false heard = with_heard entry log heard (has_line entry all.0 heard) others

-- what the lines of a log show has the log's lines
lines-shown_log : (log : List Entry) → flat_map line_of (shown_log log) ≡ flat_map line_of log
lines-shown_log [] = refl
lines-shown_log (entry ∷ log) = by_silence (lines-shown_log log) (is_silent entry) refl
  where
    by_silence : flat_map line_of (shown_log log) ≡ flat_map line_of log → (b : Bool) → is_silent entry ≡ b → flat_map line_of (shown_log (entry ∷ log)) ≡ flat_map line_of (entry ∷ log)
    by_silence others true silent =
        ap (flat_map line_of) (shown_log-silent entry log silent) ∙ others ∙ ap (λ (text : List ℕ). text ++ flat_map line_of log) (sym (silent_line entry silent))
    by_silence others false heard =
        ap (flat_map line_of) (shown_log-heard entry log heard)
        ∙ ap (λ (text : List ℕ). text ++ flat_map line_of (shown_log log)) (line_of-shown entry)
        ∙ ap (λ (text : List ℕ). line_of entry ++ text) others

same_lines : (a b : List Entry) → shown_log a ≡ shown_log b → flat_map line_of a ≡ flat_map line_of b
same_lines a b e = sym (lines-shown_log a) ∙ ap (flat_map line_of) e ∙ lines-shown_log b

pub pages_show : (a b : List Entry) → All IsEntry a → All IsEntry b → (page a false ≡ page b false) ↔ (shown_log a ≡ shown_log b)
pages_show a b all_a all_b =
    let page_a = page_is a (recursion_from_All IsEntry a all_a) in
    let page_b = page_is b (recursion_from_All IsEntry b all_b) in (
      λ e.
          let bodies : page_a.bodies ≡ page_b.bodies =
          sym (without_last-push page_a.bodies []) ∙ ap without_last (sym (page_a.cuts []) ∙ ap (cut 10) e ∙ page_b.cuts []) ∙ without_last-push page_b.bodies [] in
          sym page_a.back ∙ ap (map read_line) bodies ∙ page_b.back,
      λ e. ap (λ (text : List ℕ). text ++ []) (same_lines a b e),
    )

-- ---- letters

lane_of_letter : ℕ → Lane
lane_of_letter letter =
    cond (nat_eq letter 99) lanes.Client
    (cond (nat_eq letter 109) lanes.Master
    (cond (nat_eq letter 110) lanes.Node
    (cond (nat_eq letter 107) lanes.Clock
    (cond (nat_eq letter 100) lanes.Main
    (cond (nat_eq letter 115) lanes.Sched
    (cond (nat_eq letter 104) lanes.Hand
    (cond (nat_eq letter 119) lanes.Write
    (cond (nat_eq letter 101) lanes.End lanes.Begin))))))))

lane_back : (lane : Lane) (more : List ℕ) → map lane_of_letter (lane_letter lane ++ more) ≡ lane ∷ map lane_of_letter more
unfolding lane_of_letter
lane_back lanes.Client more = refl
lane_back lane more = refl

lane_lacks_feed : (lane : Lane) → lacks 10 (lane_letter lane) ≡ true
lane_lacks_feed lanes.Client = refl
lane_lacks_feed lane = refl

letters_back : (log : List Entry) → map lane_of_letter (letters log) ≡ map lane_of_entry log
letters_back [] = refl
letters_back (entry ∷ log) = lane_back (lane_of_entry entry) (letters log) ∙ ap (λ (ls : List Lane). lane_of_entry entry ∷ ls) (letters_back log)

letters_lack_feed : (log : List Entry) → lacks 10 (letters log) ≡ true
letters_lack_feed [] = refl
letters_lack_feed (entry ∷ log) = lacks-append 10 (lane_letter (lane_of_entry entry)) (letters log) (lane_lacks_feed (lane_of_entry entry)) (letters_lack_feed log)

-- ---- the line of the moves

last_of : {X : Type 0} → X → List X → X
last_of other [] = other
last_of other (item ∷ []) = item
last_of other (item ∷ next ∷ items) = last_of other (next ∷ items)

last_of-push : {X : Type 0} (other : X) (items : List X) (last : X) → last_of other (items ++ last ∷ []) ≡ last
unfolding last_of
last_of-push other [] last = refl
last_of-push other (item ∷ []) last = refl
last_of-push other (item ∷ next ∷ items) last = last_of-push other (next ∷ items) last

-- the lines of a page with moves
lines_with_moves : (log : List Entry) (bodies : List (List ℕ)) → List (List ℕ)
lines_with_moves [] bodies = bodies
lines_with_moves (entry ∷ log) bodies = bodies ++ (codes "moves " ++ letters (entry ∷ log)) ∷ []

cut_with_moves : (log : List Entry) (is : PageIs log) → without_last (cut 10 (page log true)) ≡ lines_with_moves log is.bodies
unfolding lines_with_moves
cut_with_moves [] is = ap without_last (is.cuts []) ∙ without_last-push is.bodies []
cut_with_moves (entry ∷ log) is =
    let moves : List ℕ = codes "moves " ++ letters (entry ∷ log) in
    ap without_last (is.cuts (moves ++ codes "\n") ∙ ap (λ (ps : List (List ℕ)). is.bodies ++ ps) (cut_at 10 moves [] (letters_lack_feed (entry ∷ log)))
    ∙ sym (append_assoc is.bodies (moves ∷ []) ([] ∷ [])))
    ∙ without_last-push (is.bodies ++ moves ∷ []) []

no_lines : (is : PageIs []) → is.bodies ≡ []
no_lines is = none is.bodies is.back
  where
    none : (bodies : List (List ℕ)) → map read_line bodies ≡ [] → bodies ≡ []
    none [] e = refl
    none (body ∷ bodies) e = absurd cc

some_lines : (bodies : List (List ℕ)) (last : List ℕ) → bodies ++ last ∷ [] ≡ [] → ⊥
some_lines [] last e = cc
some_lines (body ∷ bodies) last e = cc

-- pages with moves of one log and another have the same lines and the same letters
same_moves : (a b : List Entry) (of_a : PageIs a) (of_b : PageIs b) → lines_with_moves a of_a.bodies ≡ lines_with_moves b of_b.bodies → (of_a.bodies ≡ of_b.bodies) × (letters a ≡ letters b)
unfolding lines_with_moves
same_moves [] [] of_a of_b e = (e, refl)
same_moves [] (entry ∷ b) of_a of_b e = absurd (some_lines of_b.bodies (codes "moves " ++ letters (entry ∷ b)) (sym e ∙ no_lines of_a))
same_moves (entry ∷ a) [] of_a of_b e = absurd (some_lines of_a.bodies (codes "moves " ++ letters (entry ∷ a)) (e ∙ no_lines of_b))
same_moves (entry ∷ a) (other ∷ b) of_a of_b e =
    let moves_a : List ℕ = codes "moves " ++ letters (entry ∷ a) in
    let moves_b : List ℕ = codes "moves " ++ letters (other ∷ b) in
    let last : moves_a ≡ moves_b = sym (last_of-push [] of_a.bodies moves_a) ∙ ap (last_of []) e ∙ last_of-push [] of_b.bodies moves_b in (
      sym (without_last-push of_a.bodies moves_a) ∙ ap without_last e ∙ without_last-push of_b.bodies moves_b,
      ap (behind (codes "moves ")) last,
    )

-- the line of the moves by the lanes alone
moves_of : List Lane → List ℕ
moves_of of_log = cond (is_nil of_log) [] (codes "moves " ++ (flat_map lane_letter of_log ++ codes "\n"))

moves_line-lanes : (log : List Entry) → moves_line log ≡ moves_of (map lane_of_entry log)
unfolding moves_of
moves_line-lanes [] = refl
moves_line-lanes (entry ∷ log) = ap (λ (text : List ℕ). codes "moves " ++ (text ++ codes "\n")) (sym (flat_map-map lane_letter lane_of_entry (entry ∷ log)))

pub moves_show : (a b : List Entry) → All IsEntry a → All IsEntry b → (page a true ≡ page b true) ↔ ((shown_log a ≡ shown_log b) × (map lane_of_entry a ≡ map lane_of_entry b))
moves_show a b all_a all_b =
    let page_a = page_is a (recursion_from_All IsEntry a all_a) in
    let page_b = page_is b (recursion_from_All IsEntry b all_b) in (
      λ e.
          let same = same_moves a b page_a page_b (sym (cut_with_moves a page_a) ∙ ap (λ (text : List ℕ). without_last (cut 10 text)) e ∙ cut_with_moves b page_b) in (
            sym page_a.back ∙ ap (map read_line) same.0 ∙ page_b.back,
            sym (letters_back a) ∙ ap (map lane_of_letter) same.1 ∙ letters_back b,
          ),
      λ both.
          ap (λ (text : List ℕ). text ++ moves_line a) (same_lines a b both.0)
          ∙ ap (λ (text : List ℕ). flat_map line_of b ++ text) (moves_line-lanes a ∙ ap moves_of both.1 ∙ sym (moves_line-lanes b)),
    )
