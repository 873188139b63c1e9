-- What token records say: which tokens there are, and which record may stand behind which. This project's own.
use Rattle.std.specs.Prelude.{◌≡◌, ℕ, ◌+◌, ◌<◌, ◌==◌, nat_le, Bool, true, false, ◌&&◌, List, [], ◌∷◌, ◌++◌, fold, count_by, Option, None, Some, is_some, option_map, if◌then◌else◌}
use Rattle.rm_tokens.specs.declared.token.Token.{Token}
use Rattle.rm_tokens.specs.declared.token.TokenRecord.{TokenRecord}
use Rattle.rm_tokens.specs.declared.token.TokenRecord.TheVariants.{Issued, Renewed, Cancelled}

-- The token of a number after one record more: its issue brings it, a renewal sets its date, and a cancellation takes it away.
abbrev pub token_after : ℕ → Option Token → TokenRecord → Option Token
token_after number known (Issued n token) = if n == number then Some token else known
token_after number known (Renewed n until) = if n == number then option_map (λ (token : Token). record token { until = until }) known else known
token_after number known (Cancelled n) = if n == number then None else known

-- The token of a number, or none where it wasn't issued or is cancelled.
abbrev pub token : List TokenRecord → ℕ → Option Token
token entries number = fold (token_after number) None entries

-- Until when the token of a number is valid, or none where there is no such token.
abbrev pub until_of : List TokenRecord → ℕ → Option ℕ
until_of entries number = option_map (λ (t : Token). t.until) (token entries number)

-- The token of a number is valid at a moment: there is one, and the moment is before its date.
abbrev pub IsValidAt : List TokenRecord → ℕ → ℕ → Type 0
IsValidAt entries number moment = (until : ℕ) × (until_of entries number ≡ Some until) × (moment < until)

-- Whether a record is that of a token that was issued.
abbrev pub is_issue : TokenRecord → Bool
is_issue (Issued number token) = true
is_issue _ = false

-- How many tokens were issued.
abbrev pub issue_count : List TokenRecord → ℕ
issue_count entries = count_by is_issue entries

-- A token may be renewed to a date that isn't before its own, and not beyond its last one.
abbrev pub may_renew : ℕ → Option Token → Bool
may_renew until None = false
may_renew until (Some token) = nat_le token.until until && nat_le until token.last

-- A record may stand behind others: the numbers of issues follow each other from 1, a token's date is at most its last one and
-- never falls, and what is renewed or cancelled is a token that isn't cancelled.
abbrev pub fits : List TokenRecord → TokenRecord → Bool
fits entries (Issued number token) = (number == issue_count entries + 1) && nat_le token.until token.last
fits entries (Renewed number until) = may_renew until (token entries number)
fits entries (Cancelled number) = is_some (token entries number)

-- Each of the later records may stand behind all that are before it.
abbrev pub fit_behind : List TokenRecord → List TokenRecord → Bool
fit_behind before [] = true
fit_behind before (entry ∷ later) = fits before entry && fit_behind (before ++ entry ∷ []) later

-- Each record may stand behind those before it.
abbrev pub fit_in_order : List TokenRecord → Bool
fit_in_order entries = fit_behind [] entries
