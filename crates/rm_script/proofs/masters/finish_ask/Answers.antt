use Rattle.std.proofs.Common.{◌≡◌, [], length, sym, ◌∙◌}
use Rattle.std.proofs.lemmas.Bool.{eqb-true}
use Rattle.std.proofs.lemmas.List.{nil_from_length}
use Rattle.rm_script.proofs.Asks.{no_last_word}
use Rattle.rm_script.proofs.masters.finish_ask.Goals as goal

pub returns-then-is_empty : goal.returns-then-is_empty
returns-then-is_empty c = λ ask is.
    let zero : length c.bytes.result.now ≡ 0 = eqb-true (length c.bytes.result.now) 0 (sym c.is_empty.ensures ∙ c.if-is_empty.true) in
    let none : c.in_ok-text.text ≡ [] = sym c.bytes.ensures ∙ nil_from_length c.bytes.result.now zero in
    no_last_word c.args.words c.in_ok-text.text ask none c.in_ok-text.ensures.same is
