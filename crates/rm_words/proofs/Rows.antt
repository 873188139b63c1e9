-- The rows of matches, found by their ids, as values join them.
use Rattle.std.proofs.Common.{◌≡◌, ◌∙◌, Bool, cond, true, false, refl, ap, List, [], ◌∷◌, ◌++◌, ◌||◌, Option, Some, None, is_some}
use Rattle.std.specs.List.{find}
use Rattle.std.specs.Str.{bytes_eq}
use Rattle.std.proofs.lemmas.Slice.Eq.{bytes_eq-Decides}
use Rattle.clap.specs.Walk.{Row, Text, has_row, more_values, stronger, with_values, without}
use Rattle.clap.specs.declared.builder.value_parser.Reading.{Reading}
use Rattle.clap.specs.declared.parser.matches.ValueSource.{ValueSource}

-- the row of an id
abbrev pub row : Text → List Row → Option Row
row id rows = find (λ r. bytes_eq r.id id) rows

-- the row of an id after values join it
abbrev pub joined : Text → Reading → ValueSource → List Text → Option Row → Row
joined id how source values None = record { id = id; values = values; count = None; source = Some source; reading = how }
joined id how source values (Some r) = record r { values = r.values ++ values; source = Some (stronger r.source source) }

pub row_joined : (id : Text) (how : Reading) (source : ValueSource) (values : List Text) (rows : List Row) → bytes_eq id id ≡ true
    → row id (with_values id how source values rows) ≡ Some (joined id how source values (row id rows))
row_joined id how source values [] same = rw same refl
row_joined id how source values (r ∷ rows) same = go (bytes_eq r.id id) refl (row_joined id how source values rows same)
  where
    go : (b : Bool) → bytes_eq r.id id ≡ b → row id (with_values id how source values rows) ≡ Some (joined id how source values (row id rows))
        → row id (cond b (more_values source values r ++ rows) (r ∷ with_values id how source values rows)) ≡ Some (joined id how source values (cond b (Some r) (row id rows)))
    go true e rest = rw e refl
    go false e rest = rw e rest

-- values that join one row leave that of another id
pub row_kept : (id other : Text) (how : Reading) (source : ValueSource) (values : List Text) (rows : List Row) → bytes_eq id other ≡ false
    → row other (with_values id how source values rows) ≡ row other rows
row_kept id other how source values [] differ = rw differ refl
row_kept id other how source values (r ∷ rows) differ = go (bytes_eq r.id id) refl (row_kept id other how source values rows differ)
  where
    go : (b : Bool) → bytes_eq r.id id ≡ b → row other (with_values id how source values rows) ≡ row other rows
        → row other (cond b (more_values source values r ++ rows) (r ∷ with_values id how source values rows)) ≡ row other (r ∷ rows)
    go true e rest =
        let same : r.id ≡ id = (bytes_eq-Decides r.id id).0 e in
        let apart : bytes_eq r.id other ≡ false = ap (λ (text : Text). bytes_eq text other) same ∙ differ in
        rw apart refl
    go false e rest = ap (λ (found : Option Row). cond (bytes_eq r.id other) (Some r) found) rest

-- where an id has no row, none is taken away
pub nothing_without : (id : Text) (rows : List Row) → row id rows ≡ None → without id rows ≡ rows
nothing_without id [] none = refl
nothing_without id (r ∷ rows) none = go (bytes_eq r.id id) none (nothing_without id rows)
  where
    go : (b : Bool) → cond b (Some r) (row id rows) ≡ None → (row id rows ≡ None → without id rows ≡ rows) → cond b rows (r ∷ without id rows) ≡ r ∷ rows
    go true e rest = cc
    go false e rest = ap (λ (others : List Row). r ∷ others) (rest e)

pub has_row_is : (id : Text) (rows : List Row) → has_row id rows ≡ is_some (row id rows)
has_row_is id [] = refl
has_row_is id (r ∷ rows) = go (bytes_eq r.id id) (has_row_is id rows)
  where
    go : (b : Bool) → has_row id rows ≡ is_some (row id rows) → (b || has_row id rows) ≡ is_some (cond b (Some r) (row id rows))
    go true rest = refl
    go false rest = rest
