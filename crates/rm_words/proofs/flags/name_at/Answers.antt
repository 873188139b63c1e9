use Rattle.std.proofs.Common.{rules, ◌≡◌, ◌∙◌, ℕ, ap, refl, not, List, [], Bor, Option, Some, None, map, option_map, slice_get, string_bytes, unwrap_or}
use Rattle.std.proofs.lemmas.Iterator.{YieldsList-from_map_by, YieldsList-from_slice}
use Rattle.std.proofs.lemmas.Iterator.Consumers.{YieldsList-at, YieldsList-from_filter, nth_from_yields_List}
use Rattle.rm_words.specs.Words.{names}
use Rattle.rm_types.specs.Texts.{is_flag}
use Rattle.rm_words.proofs.flags.name_at.Goals as goal

-- what a text or another one holds
text_or : (text : Option (Bor (List ℕ))) (other : Bor (List ℕ)) → (unwrap_or text other).now ≡ unwrap_or (option_map (λ t. t.now) text) other.now
text_or None other = refl
text_or (Some text) other = refl

pub returns : goal.returns
returns c =
    let found : option_map (λ name. name.now) c.nth.result ≡ slice_get (names (map string_bytes c.args.words.now)) c.args.place =
    nth_from_yields_List c.nth.result _ c.args.place c.nth.ensures.ran (YieldsList-from_filter _ (λ name. not (is_flag name))
    (YieldsList-at c.filter.ensures.source (YieldsList-from_map_by _ (λ name. name.now) string_bytes (YieldsList-from_slice c.args.words.now (cc)) c.map.ensures.closure (λ x r q k. search rules)))
    c.filter.ensures.closure (λ x b q k. search rules)) in
    ap (λ (text : Bor (List ℕ)). text.now) c.unwrap_or.ensures ∙ text_or c.nth.result _ ∙ ap (λ name. unwrap_or name []) found
