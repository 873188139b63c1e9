-- The tokens as they are kept beside the journal: a row for each number that was issued, in order, with its token, or none once that is cancelled.
use Rattle.std.specs.Prelude.{◌≡◌, ℕ, ◌+◌, ◌-◌, ◌==◌, nat_le, Bool, ◌&&◌, List, [], ◌∷◌, ◌++◌, length, get_or, slice_set, Option, None, Some, is_some, option_map, if◌then◌else◌}
use Rattle.rm_tokens.specs.declared.token.Token.{Token}
use Rattle.rm_tokens.specs.declared.token.TokenRecord.{TokenRecord}
use Rattle.rm_tokens.specs.declared.token.TokenRecord.TheVariants.{Issued, Renewed, Cancelled}
use Rattle.rm_tokens.specs.Records.{token, issue_count, may_renew}

-- The token of a number by its row.
abbrev pub row_at : List (Option Token) → ℕ → Option Token
row_at rows number = if number == 0 then None else get_or rows (number - 1) None

-- The rows are those of some records: as many as were issued, and each has the token of its number.
pub record AreRows (rows : List (Option Token)) (entries : List TokenRecord) : Type 0 where
  pub count : length rows ≡ issue_count entries
  pub each : (number : ℕ) → row_at rows number ≡ token entries number

-- Whether a record may stand behind those of which these are the rows.
abbrev pub fits_rows : List (Option Token) → TokenRecord → Bool
fits_rows rows (Issued number token) = (number == length rows + 1) && nat_le token.until token.last
fits_rows rows (Renewed number until) = may_renew until (row_at rows number)
fits_rows rows (Cancelled number) = is_some (row_at rows number)

-- The rows after one record more.
abbrev pub rows_after : List (Option Token) → TokenRecord → List (Option Token)
rows_after rows (Issued number token) = rows ++ Some token ∷ []
rows_after rows (Renewed number until) = slice_set rows (number - 1) (option_map (λ (token : Token). record token { until = until }) (row_at rows number))
rows_after rows (Cancelled number) = slice_set rows (number - 1) None
