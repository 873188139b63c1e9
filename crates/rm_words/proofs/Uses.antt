-- What a use of each argument makes of the rows, and what the defaults make of them at the end.
use Rattle.std.proofs.Common.{◌≡◌, ◌∙◌, ℕ, zero, suc, Bool, cond, true, false, not, refl, ap, List, [], ◌∷◌, ◌++◌, Option, Some, None, is_some, codes, ◌==◌, arith, ne_eqb}
use Rattle.std.specs.Str.{bytes_eq}
use Rattle.clap.specs.Walk.{Row, Rule, Text, has_row, one_of, all_of, reading_by, row_text, used, with_default, with_values}
use Rattle.std.specs.Prelude.{option_and_then, option_map}
use Rattle.clap.specs.Words.{new_rule}
use Rattle.clap.specs.declared.builder.action.ArgAction.TheVariants.{Append, SetTrue}
use Rattle.clap.specs.declared.builder.value_parser.ValueParser.TheVariants as parser
use Rattle.clap.specs.declared.parser.matches.ValueSource.TheVariants.{CommandLine, DefaultValue}
use Rattle.rm_words.specs.Reading.{flag_value}
use Rattle.rm_types.specs.Lists.{unless_empty}
use Rattle.rm_words.proofs.Rows.{has_row_is, joined, nothing_without, row, row_joined, row_kept}

-- a flag as building fills it in
abbrev pub flag_rule : Text → Rule
flag_rule name = record (new_rule name) {
  long = Some name;
  action = Some SetTrue;
  range = Some (record { start_inclusive = 0; end_inclusive = 0 });
  defaults = codes "false" ∷ [];
  missing = codes "true" ∷ [];
  parser = Some parser.Bool;
}

-- the names as building fills them in
abbrev pub names_rule : Rule
names_rule = record (new_rule (codes "names")) {
  index = Some 1;
  action = Some Append;
  range = Some (record { start_inclusive = 1; end_inclusive = 1 });
  parser = Some parser.String;
}

-- the row of a flag that was used
abbrev flag_row : Text → Row
flag_row name = record { id = name; values = codes "true" ∷ []; count = None; source = Some CommandLine; reading = reading_by (flag_rule name) }

-- the same where it was used so often
abbrev pub flag_row_of : Text → ℕ → Option Row
flag_row_of name zero = None
flag_row_of name (suc times) = Some (flag_row name)

-- the row of the names that were met
abbrev pub names_row_of : List Text → Option Row
names_row_of [] = None
names_row_of (name ∷ names) = Some (record { id = codes "names"; values = name ∷ names; count = None; source = Some CommandLine; reading = reading_by names_rule })

-- the rows hold these names, and each flag so often
pub record RowsHold (rows : List Row) (names : List Text) (file_times move_times : ℕ) : Type 0 where
  pub file : row (codes "file") rows ≡ flag_row_of (codes "file") file_times
  pub moves : row (codes "moves") rows ≡ flag_row_of (codes "moves") move_times
  pub named : row (codes "names") rows ≡ names_row_of names

-- a flag's first use makes its row, and leaves the row of another id
flag_used : (id : Text) (rows : List Row) → bytes_eq id id ≡ true → row id rows ≡ None → row id (used (flag_rule id) [] rows) ≡ flag_row_of id 1
flag_used id rows same none =
    ap (λ (others : List Row). row id (with_values id (reading_by (flag_rule id)) CommandLine (codes "true" ∷ []) others)) (nothing_without id rows none)
    ∙ row_joined id (reading_by (flag_rule id)) CommandLine (codes "true" ∷ []) rows same
    ∙ ap (λ (found : Option Row). Some (joined id (reading_by (flag_rule id)) CommandLine (codes "true" ∷ []) found)) none

flag_keeps : (id other : Text) (rows : List Row) → bytes_eq id other ≡ false → row id rows ≡ None → row other (used (flag_rule id) [] rows) ≡ row other rows
flag_keeps id other rows differ none =
    ap (λ (others : List Row). row other (with_values id (reading_by (flag_rule id)) CommandLine (codes "true" ∷ []) others)) (nothing_without id rows none)
    ∙ row_kept id other (reading_by (flag_rule id)) CommandLine (codes "true" ∷ []) rows differ

pub file_used : (rows : List Row) (names : List Text) (moves : ℕ) → RowsHold rows names 0 moves → RowsHold (used (flag_rule (codes "file")) [] rows) names 1 moves
file_used rows names moves holds = record {
  file = flag_used (codes "file") rows refl holds.file;
  moves = flag_keeps (codes "file") (codes "moves") rows refl holds.file ∙ holds.moves;
  named = flag_keeps (codes "file") (codes "names") rows refl holds.file ∙ holds.named;
}

pub moves_used : (rows : List Row) (names : List Text) (files : ℕ) → RowsHold rows names files 0 → RowsHold (used (flag_rule (codes "moves")) [] rows) names files 1
moves_used rows names files holds = record {
  file = flag_keeps (codes "moves") (codes "file") rows refl holds.moves ∙ holds.file;
  moves = flag_used (codes "moves") rows refl holds.moves;
  named = flag_keeps (codes "moves") (codes "names") rows refl holds.moves ∙ holds.named;
}

-- one more name at the end of those that were met
name_joined : (names : List Text) (name : Text) → Some (joined (codes "names") (reading_by names_rule) CommandLine (name ∷ []) (names_row_of names)) ≡ names_row_of (names ++ name ∷ [])
name_joined [] name = refl
name_joined (first ∷ names) name = refl

pub name_used : (rows : List Row) (names : List Text) (files moves : ℕ) (name : Text) → RowsHold rows names files moves → RowsHold (used names_rule (name ∷ []) rows) (names ++ name ∷ []) files moves
name_used rows names files moves name holds = record {
  file = row_kept (codes "names") (codes "file") (reading_by names_rule) CommandLine (name ∷ []) rows refl ∙ holds.file;
  moves = row_kept (codes "names") (codes "moves") (reading_by names_rule) CommandLine (name ∷ []) rows refl ∙ holds.moves;
  named = row_joined (codes "names") (reading_by names_rule) CommandLine (name ∷ []) rows refl
      ∙ ap (λ (found : Option Row). Some (joined (codes "names") (reading_by names_rule) CommandLine (name ∷ []) found)) holds.named
      ∙ name_joined names name;
}

-- ---- the defaults

-- with its default a flag tells whether it was used, and the row of another id stays
default_told : (id : Text) (times : ℕ) (rows : List Row) → bytes_eq id id ≡ true → row id rows ≡ flag_row_of id times
    → option_and_then row_text (row id (with_default rows (flag_rule id))) ≡ Some (flag_value (not (times == 0)))
default_told id zero rows same none =
    let missing : has_row id rows ≡ false = has_row_is id rows ∙ ap is_some none in
    rw missing (ap (option_and_then row_text) (row_joined id (reading_by (flag_rule id)) DefaultValue (codes "false" ∷ []) rows same
    ∙ ap (λ (found : Option Row). Some (joined id (reading_by (flag_rule id)) DefaultValue (codes "false" ∷ []) found)) none))
default_told id (suc times) rows same some =
    let there : has_row id rows ≡ true = has_row_is id rows ∙ ap is_some some in
    let more : (suc times == 0) ≡ false = ne_eqb _ _ (λ e. absurd (omega arith)) in
    rw (there, more) (ap (option_and_then row_text) some)

default_keeps : (id other : Text) (rows : List Row) → bytes_eq id other ≡ false → row other (with_default rows (flag_rule id)) ≡ row other rows
default_keeps id other rows differ = go (has_row id rows)
  where
    go : (b : Bool) → row other (cond b rows (with_values id (reading_by (flag_rule id)) DefaultValue (codes "false" ∷ []) rows)) ≡ row other rows
    go true = refl
    go false = row_kept id other (reading_by (flag_rule id)) DefaultValue (codes "false" ∷ []) rows differ

-- the names have no default
names_default : (rows : List Row) → with_default rows names_rule ≡ rows
names_default rows = go (has_row (codes "names") rows)
  where
    go : (b : Bool) → cond b rows rows ≡ rows
    go true = refl
    go false = refl

-- the rows at the end
abbrev pub with_defaults : List Row → List Row
with_defaults rows = with_default (with_default (with_default rows (flag_rule (codes "file"))) (flag_rule (codes "moves"))) names_rule

pub file_told : (rows : List Row) (names : List Text) (files moves : ℕ) → RowsHold rows names files moves → one_of (codes "file") (with_defaults rows) ≡ Some (flag_value (not (files == 0)))
file_told rows names files moves holds =
    ap (λ (others : List Row). one_of (codes "file") others) (names_default (with_default (with_default rows (flag_rule (codes "file"))) (flag_rule (codes "moves"))))
    ∙ ap (option_and_then row_text) (default_keeps (codes "moves") (codes "file") (with_default rows (flag_rule (codes "file"))) refl)
    ∙ default_told (codes "file") files rows refl holds.file

pub moves_told : (rows : List Row) (names : List Text) (files moves : ℕ) → RowsHold rows names files moves → one_of (codes "moves") (with_defaults rows) ≡ Some (flag_value (not (moves == 0)))
moves_told rows names files moves holds =
    ap (λ (others : List Row). one_of (codes "moves") others) (names_default (with_default (with_default rows (flag_rule (codes "file"))) (flag_rule (codes "moves"))))
    ∙ default_told (codes "moves") moves (with_default rows (flag_rule (codes "file"))) refl (default_keeps (codes "file") (codes "moves") rows refl ∙ holds.moves)

values_listed : (names : List Text) → option_map (λ (r : Row). r.values) (names_row_of names) ≡ unless_empty names
values_listed [] = refl
values_listed (name ∷ names) = refl

pub names_listed : (rows : List Row) (names : List Text) (files moves : ℕ) → RowsHold rows names files moves → all_of (codes "names") (with_defaults rows) ≡ unless_empty names
names_listed rows names files moves holds =
    ap (λ (others : List Row). all_of (codes "names") others) (names_default (with_default (with_default rows (flag_rule (codes "file"))) (flag_rule (codes "moves"))))
    ∙ ap (option_map (λ (r : Row). r.values)) (default_keeps (codes "moves") (codes "names") (with_default rows (flag_rule (codes "file"))) refl
    ∙ default_keeps (codes "file") (codes "names") rows refl ∙ holds.named)
    ∙ values_listed names
