-- Words of which none begins with `-` have right flags, for they have none, and are all names.
use Rattle.std.proofs.Common.{◌≡◌, ◌∙◌, ◌+◌, ◌==◌, ◌&&◌, ℕ, Bool, cond, true, false, arith, eqb-true, refl, sym, ap, List, [], ◌∷◌, codes}
use Rattle.std.specs.Prelude.{nat_lt}
use Rattle.std.specs.List.{count_by}
use Rattle.std.proofs.lemmas.List.Sums.{sum_by-cons}
use Rattle.clap.specs.Walk.{Text}
use Rattle.rm_types.specs.Texts.{is_flag}
use Rattle.rm_words.specs.Words.{are_names, has_flags, is_unknown, names, times_said}
use Rattle.rm_words.proofs.Walks.{name_first, no_file, no_moves, times_first}

first_name : (word : Text) (words : List Text) → count_by is_flag (word ∷ words) ≡ 0 → (is_flag word ≡ false) × (count_by is_flag words ≡ 0)
first_name word words none = go (is_flag word) refl (sym (sum_by-cons (λ (w : Text). cond (is_flag w) 1 0) word words) ∙ none)
  where
    go : (b : Bool) → is_flag word ≡ b → cond b 1 0 + count_by is_flag words ≡ 0 → (is_flag word ≡ false) × (count_by is_flag words ≡ 0)
    go true e sum = absurd (omega arith)
    go false e sum = (e, omega arith)

all_named : (words : List Text) → count_by is_flag words ≡ 0 → names words ≡ words
all_named [] none = refl
all_named (word ∷ words) none =
    let first = first_name word words none in
    name_first word words first.0 ∙ ap (λ (more : List Text). word ∷ more) (all_named words first.1)

no_files : (words : List Text) → count_by is_flag words ≡ 0 → times_said (codes "--file") words ≡ 0
no_files [] none = refl
no_files (word ∷ words) none =
    let first = first_name word words none in
    let one : times_said (codes "--file") (word ∷ words) ≡ 0 + times_said (codes "--file") words = times_first (codes "--file") word words ∙ ap (λ (b : Bool). cond b 1 0 + times_said (codes "--file") words) (no_file word first.0) in
    let rest : times_said (codes "--file") words ≡ 0 = no_files words first.1 in
    omega arith

none_moves : (words : List Text) → count_by is_flag words ≡ 0 → times_said (codes "--moves") words ≡ 0
none_moves [] none = refl
none_moves (word ∷ words) none =
    let first = first_name word words none in
    let one : times_said (codes "--moves") (word ∷ words) ≡ 0 + times_said (codes "--moves") words = times_first (codes "--moves") word words ∙ ap (λ (b : Bool). cond b 1 0 + times_said (codes "--moves") words) (no_moves word first.0) in
    let rest : times_said (codes "--moves") words ≡ 0 = none_moves words first.1 in
    omega arith

known : (word : Text) → is_flag word ≡ false → is_unknown word ≡ false
known word plain = rw plain refl

none_unknown : (words : List Text) → count_by is_flag words ≡ 0 → count_by is_unknown words ≡ 0
none_unknown [] none = refl
none_unknown (word ∷ words) none =
    let first = first_name word words none in
    let one : count_by is_unknown (word ∷ words) ≡ 0 + count_by is_unknown words = sum_by-cons (λ (w : Text). cond (is_unknown w) 1 0) word words ∙ ap (λ (b : Bool). cond b 1 0 + count_by is_unknown words) (known word first.0) in
    let rest : count_by is_unknown words ≡ 0 = none_unknown words first.1 in
    omega arith

none_at_all : (unknown files moves : ℕ) → unknown ≡ 0 → files ≡ 0 → moves ≡ 0 → ((unknown == 0) && (nat_lt files 2 && nat_lt moves 2)) ≡ true
none_at_all unknown files moves no_unknown no_file_said no_moves_said = rw (no_unknown, no_file_said, no_moves_said) refl

pub have_flags : (words : List Text) → are_names words ≡ true → has_flags words ≡ true
have_flags words are =
    let none = eqb-true _ _ are in
    none_at_all _ _ _ (none_unknown words none) (no_files words none) (none_moves words none)

pub are_all : (words : List Text) → are_names words ≡ true → names words ≡ words
are_all words are = all_named words (eqb-true _ _ are)
