-- What attempts ask for, by the judge's lines, after many asks of one of them: the same as in the tables.
use Rattle.rm_master.proofs.Common.{◌≡◌, ℕ, List, [], ◌∷◌, ◌++◌, Bool, true, false, not, ◌&&◌, filter, map, length, count_by, refl, sym, ◌∙◌, ap, arith, ◌==◌, if◌then◌else◌, list_any, false≢true, nat_tests, Ask, AttemptId, is_attempt, with_asks}
use Rattle.std.proofs.lemmas.List.{length-map}
use Rattle.std.proofs.lemmas.List.Sums.{length-filter}
use Rattle.rm_types.specs.declared.containers.AskOf.{AskOf}
use Rattle.rm_types.proofs.IdLemmas.{same_attempt, attempt_itself}
use Rattle.rm_book.specs.AskTables.{AsksOf, attempt_asks as asks_in, asks_set, is_for, renewed_ask, with_asks_of}
use Rattle.rm_book.specs.ManyAsks.{all_asked, asks_after, one_asked}
use Rattle.rm_model.specs.MasterReplies.{is_line_of, with_ask}
use Rattle.rm_model.specs.Passing.{asks_of as asks_told}
use Rattle.rm_refinement.specs.Agreement.{SameAsks}

-- as many lines as asks
pub lines_told : (attempt : AttemptId) (lines : List AskOf) → count_by (λ line. is_attempt line.attempt attempt) lines ≡ length (asks_told lines attempt)
lines_told attempt lines =
    sym (length-map (filter (λ line. is_attempt line.attempt attempt) lines) (λ (one : AskOf). one.ask) ∙ length-filter (λ (line : AskOf). is_attempt line.attempt attempt) lines)

-- a line of another attempt isn't spoken of
pub not_both : (a b q : AttemptId) → is_attempt a b ≡ true → is_attempt b q ≡ false → is_attempt a q ≡ true → ⊥
not_both a b q e f g = let h : is_attempt b q ≡ true = grind (arith, nat_tests) in absurd (false≢true (sym f ∙ h))

module _ (attempt : AttemptId) (ask : Ask) where
  abbrev set_line : AskOf → AskOf
  set_line line = if is_line_of attempt ask line then record line { ask = ask } else line

  -- ITS OWN ASKS

  own_dropped : (lines : List AskOf) → asks_told (filter (λ line. not (is_line_of attempt ask line)) lines) attempt ≡ filter (λ one. not (is_for ask.priority ask.size one)) (asks_told lines attempt)
  own_dropped [] = refl
  own_dropped (line ∷ lines) = by (is_attempt line.attempt attempt) (is_for ask.priority ask.size line.ask) refl refl (own_dropped lines)
    where
      by : (a b : Bool) → is_attempt line.attempt attempt ≡ a → is_for ask.priority ask.size line.ask ≡ b
          → asks_told (filter (λ line. not (is_line_of attempt ask line)) lines) attempt ≡ filter (λ one. not (is_for ask.priority ask.size one)) (asks_told lines attempt)
          → asks_told (filter (λ line. not (is_line_of attempt ask line)) (line ∷ lines)) attempt ≡ filter (λ one. not (is_for ask.priority ask.size one)) (asks_told (line ∷ lines) attempt)
      by true true e f rest = rw (e, f) rest
      by true false e f rest = rw (e, f, e) (ap (λ (more : List Ask). line.ask ∷ more) rest)
      by false b e f rest = rw (e, e) rest

  own_found : (lines : List AskOf) → list_any (is_line_of attempt ask) lines ≡ list_any (is_for ask.priority ask.size) (asks_told lines attempt)
  own_found [] = refl
  own_found (line ∷ lines) = by (is_attempt line.attempt attempt) (is_for ask.priority ask.size line.ask) refl refl (own_found lines)
    where
      by : (a b : Bool) → is_attempt line.attempt attempt ≡ a → is_for ask.priority ask.size line.ask ≡ b → list_any (is_line_of attempt ask) lines ≡ list_any (is_for ask.priority ask.size) (asks_told lines attempt)
          → list_any (is_line_of attempt ask) (line ∷ lines) ≡ list_any (is_for ask.priority ask.size) (asks_told (line ∷ lines) attempt)
      by true true e f rest = rw (e, f) refl
      by true false e f rest = rw (e, f) rest
      by false b e f rest = rw e rest

  own_changed : (lines : List AskOf) → asks_told (map set_line lines) attempt ≡ map (renewed_ask ask) (asks_told lines attempt)
  own_changed [] = refl
  own_changed (line ∷ lines) = by (is_attempt line.attempt attempt) (is_for ask.priority ask.size line.ask) refl refl (own_changed lines)
    where
      by : (a b : Bool) → is_attempt line.attempt attempt ≡ a → is_for ask.priority ask.size line.ask ≡ b → asks_told (map set_line lines) attempt ≡ map (renewed_ask ask) (asks_told lines attempt)
          → asks_told (map set_line (line ∷ lines)) attempt ≡ map (renewed_ask ask) (asks_told (line ∷ lines) attempt)
      by true true e f rest = rw (e, f, e) (ap (λ (more : List Ask). ask ∷ more) rest)
      by true false e f rest = rw (e, f, e) (ap (λ (more : List Ask). line.ask ∷ more) rest)
      by false b e f rest = rw (e, e) rest

  new_line : AskOf
  new_line = record { attempt = attempt; ask = ask }

  own_added : (lines : List AskOf) → asks_told (lines ++ record { attempt = attempt; ask = ask } ∷ []) attempt ≡ asks_told lines attempt ++ ask ∷ []
  own_added [] = rw (attempt_itself attempt) refl
  own_added (line ∷ lines) = by (is_attempt line.attempt attempt) refl (own_added lines)
    where
      by : (a : Bool) → is_attempt line.attempt attempt ≡ a → asks_told (lines ++ record { attempt = attempt; ask = ask } ∷ []) attempt ≡ asks_told lines attempt ++ ask ∷ []
          → asks_told ((line ∷ lines) ++ record { attempt = attempt; ask = ask } ∷ []) attempt ≡ asks_told (line ∷ lines) attempt ++ ask ∷ []
      by true e rest = rw e (ap (λ (more : List Ask). line.ask ∷ more) rest)
      by false e rest = rw e rest

  pub own_asked : (lines : List AskOf) → asks_told (with_ask attempt lines ask) attempt ≡ asks_set ask (asks_told lines attempt)
  own_asked lines = by (ask.count == 0) (list_any (is_line_of attempt ask) lines) refl refl
    where
      by : (a b : Bool) → (ask.count == 0) ≡ a → list_any (is_line_of attempt ask) lines ≡ b → asks_told (with_ask attempt lines ask) attempt ≡ asks_set ask (asks_told lines attempt)
      by true b e f = rw e (own_dropped lines)
      by false true e f = let g = sym (own_found lines) ∙ f in rw (e, f, g) (own_changed lines)
      by false false e f = let g = sym (own_found lines) ∙ f in rw (e, f, g) (own_added lines)

  -- THOSE OF OTHERS

  module _ (q : AttemptId) (apart : is_attempt attempt q ≡ false) where
    other_dropped : (lines : List AskOf) → asks_told (filter (λ line. not (is_line_of attempt ask line)) lines) q ≡ asks_told lines q
    other_dropped [] = refl
    other_dropped (line ∷ lines) = by (is_line_of attempt ask line) (is_attempt line.attempt q) refl refl (other_dropped lines)
      where
        by : (a b : Bool) → is_line_of attempt ask line ≡ a → is_attempt line.attempt q ≡ b → asks_told (filter (λ line. not (is_line_of attempt ask line)) lines) q ≡ asks_told lines q
            → asks_told (filter (λ line. not (is_line_of attempt ask line)) (line ∷ lines)) q ≡ asks_told (line ∷ lines) q
        by true true e f rest = absurd (spoken line e f)
          where
            spoken : (one : AskOf) → is_line_of attempt ask one ≡ true → is_attempt one.attempt q ≡ true → ⊥
            spoken one g h = by_own (is_attempt one.attempt attempt) refl g
              where
                by_own : (b : Bool) → is_attempt one.attempt attempt ≡ b → is_line_of attempt ask one ≡ true → ⊥
                by_own true own g = not_both one.attempt attempt q own apart h
                by_own false own g = let i : false ≡ true = rw own at g in absurd (false≢true i)
        by true false e f rest = rw (e, f) rest
        by false true e f rest = rw (e, f) (ap (λ (more : List Ask). line.ask ∷ more) rest)
        by false false e f rest = rw (e, f) rest

    other_changed : (lines : List AskOf) → asks_told (map set_line lines) q ≡ asks_told lines q
    other_changed [] = refl
    other_changed (line ∷ lines) = by (is_attempt line.attempt attempt) (is_line_of attempt ask line) refl refl (is_attempt line.attempt q) refl (other_changed lines)
      where
        by : (a b : Bool) → is_attempt line.attempt attempt ≡ a → is_line_of attempt ask line ≡ b → (c : Bool) → is_attempt line.attempt q ≡ c → asks_told (map set_line lines) q ≡ asks_told lines q
            → asks_told (map set_line (line ∷ lines)) q ≡ asks_told (line ∷ lines) q
        by true b e f true g rest = absurd (not_both line.attempt attempt q e apart g)
        by true true e f false g rest = rw (f, g) rest
        by true false e f false g rest = rw (f, g) rest
        by false true e f c g rest = let i : false ≡ true = rw e at f in absurd (false≢true i)
        by false false e f true g rest = rw (f, g) (ap (λ (more : List Ask). line.ask ∷ more) rest)
        by false false e f false g rest = rw (f, g) rest

    other_added : (lines : List AskOf) → asks_told (lines ++ record { attempt = attempt; ask = ask } ∷ []) q ≡ asks_told lines q
    other_added [] = rw apart refl
    other_added (line ∷ lines) = by (is_attempt line.attempt q) refl (other_added lines)
      where
        by : (a : Bool) → is_attempt line.attempt q ≡ a → asks_told (lines ++ record { attempt = attempt; ask = ask } ∷ []) q ≡ asks_told lines q
            → asks_told ((line ∷ lines) ++ record { attempt = attempt; ask = ask } ∷ []) q ≡ asks_told (line ∷ lines) q
        by true e rest = rw e (ap (λ (more : List Ask). line.ask ∷ more) rest)
        by false e rest = rw e rest

    pub other_asked : (lines : List AskOf) → asks_told (with_ask attempt lines ask) q ≡ asks_told lines q
    other_asked lines = by (ask.count == 0) (list_any (is_line_of attempt ask) lines) refl refl
      where
        by : (a b : Bool) → (ask.count == 0) ≡ a → list_any (is_line_of attempt ask) lines ≡ b → asks_told (with_ask attempt lines ask) q ≡ asks_told lines q
        by true b e f = rw e (other_dropped lines)
        by false true e f = rw (e, f) (other_changed lines)
        by false false e f = rw (e, f) (other_added lines)

-- the judge's lines after many asks
pub many_told : (attempt : AttemptId) (lines : List AskOf) (asks : List Ask) → asks_told (with_asks attempt lines asks) attempt ≡ asks_after (asks_told lines attempt) asks
many_told attempt lines [] = refl
many_told attempt lines (ask ∷ more) =
    many_told attempt (with_ask attempt lines ask) more ∙ ap (λ (so_far : List Ask). asks_after so_far more) (own_asked attempt ask lines)

-- THE TABLES

own_in : (attempt : AttemptId) (asks : List Ask) (table : List AsksOf) → asks_in (with_asks_of attempt asks table) attempt ≡ asks
own_in attempt asks [] = rw (attempt_itself attempt) refl
own_in attempt asks (one ∷ table) = by (is_attempt one.attempt attempt) refl (own_in attempt asks table)
  where
    by : (b : Bool) → is_attempt one.attempt attempt ≡ b → asks_in (with_asks_of attempt asks table) attempt ≡ asks → asks_in (with_asks_of attempt asks (one ∷ table)) attempt ≡ asks
    by true e rest = rw (e, e) refl
    by false e rest = rw (e, e) rest

other_in : (attempt q : AttemptId) (asks : List Ask) (table : List AsksOf) → is_attempt attempt q ≡ false → asks_in (with_asks_of attempt asks table) q ≡ asks_in table q
other_in attempt q asks [] apart = rw apart refl
other_in attempt q asks (one ∷ table) apart = by (is_attempt one.attempt attempt) (is_attempt one.attempt q) refl refl (other_in attempt q asks table apart)
  where
    by : (a b : Bool) → is_attempt one.attempt attempt ≡ a → is_attempt one.attempt q ≡ b → asks_in (with_asks_of attempt asks table) q ≡ asks_in table q
        → asks_in (with_asks_of attempt asks (one ∷ table)) q ≡ asks_in (one ∷ table) q
    by true true e f rest = absurd (not_both one.attempt attempt q e apart f)
    by true false e f rest = rw (e, f) refl
    by false true e f rest = rw (e, f) refl
    by false false e f rest = rw (e, f) rest

-- one ask leaves the same, and so do many
one_same : (attempt : AttemptId) (ask : Ask) (table : List AsksOf) (lines : List AskOf) → SameAsks table lines → SameAsks (one_asked attempt table ask) (with_ask attempt lines ask)
one_same attempt ask table lines same = λ q. by q (is_attempt attempt q) refl
  where
    by : (q : AttemptId) (b : Bool) → is_attempt attempt q ≡ b → asks_in (one_asked attempt table ask) q ≡ asks_told (with_ask attempt lines ask) q
    by q true e = rw (← same_attempt attempt q e) (own_in attempt (asks_set ask (asks_in table attempt)) table ∙ ap (asks_set ask) (same attempt) ∙ sym (own_asked attempt ask lines))
    by q false e = other_in attempt q (asks_set ask (asks_in table attempt)) table e ∙ same q ∙ sym (other_asked attempt ask q e lines)

pub many_same : (attempt : AttemptId) (asks : List Ask) (table : List AsksOf) (lines : List AskOf) → SameAsks table lines → SameAsks (all_asked attempt table asks) (with_asks attempt lines asks)
many_same attempt [] table lines same = same
many_same attempt (ask ∷ more) table lines same = many_same attempt more (one_asked attempt table ask) (with_ask attempt lines ask) (one_same attempt ask table lines same)
