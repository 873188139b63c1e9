-- What `clap` makes of words whose flags are right: it takes them, and its matches hold what stands among them.
use Rattle.std.proofs.Common.{◌≡◌, ◌∙◌, ◌<◌, Bool, true, false, ◌&&◌, ◌==◌, refl, ap, arith, List, [], Option, Some, None, is_some, codes, eqb-true, ltb-true}
use Rattle.std.specs.List.{count_by, list_all}
use Rattle.clap.specs.Matches.{found_of}
use Rattle.clap.specs.Walk.{Row, Text, Walk, all_of, finished, one_of, rows_of}
use Rattle.clap.specs.Simple.{HasMatchesOf, built, entered, matches_of}
use Rattle.clap.specs.Takes.{default_passes, entered_passes, is_valid, settle_passes, takes, walk_passes}
use Rattle.clap.specs.declared.parser.matches.ArgMatches.{ArgMatches}
use Rattle.clap.proofs.WalkLemmas.{both, one_text-rows, raw_values-rows}
use Rattle.rm_words.specs.Words.{has_flags, is_unknown, names, times_said}
use Rattle.rm_words.specs.Reading.{MatchesWords, program}
use Rattle.rm_words.proofs.Uses.{file_told, moves_told, names_listed, with_defaults}
use Rattle.rm_words.proofs.Walks.{Walked, all_passed, at, counted_as, rules, settled_with, top}

-- the walk over all the words
whole : (words : List Text) → has_flags words ≡ true → Walked [] None words (names words) (times_said (codes "--file") words) (times_said (codes "--moves") words)
whole words right =
    let parts = both (count_by is_unknown words == 0) _ right in
    let once = both _ _ parts.1 in
    let file_once : times_said (codes "--file") words < 2 = ltb-true _ _ once.0 in
    let moves_once : times_said (codes "--moves") words < 2 = ltb-true _ _ once.1 in
    counted_as [] None words _ _ _ _ _ _ refl (omega arith) (omega arith)
    (all_passed words (eqb-true _ _ parts.0) [] None [] 0 0 (record { file = refl; moves = refl; named = refl }) (omega arith) (omega arith))

-- ---- the words are taken

abbrev ends_well : List Text → Walk → Bool
ends_well words w =
    entered_passes (built program) w.stopped && (walk_passes top [] (at [] None) words && (settle_passes rules false w.held
    && (list_all default_passes rules && is_valid top (finished rules w.held) (is_some (entered (built program) w.stopped)))))

end_passes : (words : List Text) (rows : List Row) (name : Option Text) → walk_passes top [] (at [] None) words ≡ true → ends_well words (at rows name) ≡ true
end_passes words rows None passes = rw passes refl
end_passes words rows (Some name) passes = rw passes refl

pub is_taken : (words : List Text) → has_flags words ≡ true → takes program words ≡ true
is_taken words right =
    let w = whole words right in
    ap (ends_well words) w.walk ∙ end_passes words w.rows_then w.name_then w.passes

-- ---- the matches

end_rows : (rows : List Row) (name : Option Text) → finished rules (at rows name).held ≡ with_defaults (settled_with rows name)
end_rows rows None = refl
end_rows rows (Some name) = refl

matches_are : (words : List Text) (right : has_flags words ≡ true) → matches_of program words ≡ with_defaults (settled_with (whole words right).rows_then (whole words right).name_then)
matches_are words right = ap (λ (w : Walk). finished rules w.held) (whole words right).walk ∙ end_rows (whole words right).rows_then (whole words right).name_then

pub is_read : (words : List Text) (matches : ArgMatches) → has_flags words ≡ true → HasMatchesOf program words matches → MatchesWords matches words
is_read words matches right has =
    let w = whole words right in
    let are : rows_of (found_of matches) ≡ with_defaults (settled_with w.rows_then w.name_then) = (has refl).0 ∙ matches_are words right in
    record {
      named = raw_values-rows (found_of matches) (codes "names") ∙ ap (all_of (codes "names")) are ∙ names_listed _ _ _ _ w.holds;
      moves = one_text-rows (found_of matches) (codes "moves") ∙ ap (one_of (codes "moves")) are ∙ moves_told _ _ _ _ w.holds;
      file = one_text-rows (found_of matches) (codes "file") ∙ ap (one_of (codes "file")) are ∙ file_told _ _ _ _ w.holds;
    }
