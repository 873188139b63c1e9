use Rattle.std.proofs.Common.{rules, ◌≡◌, ◌∙◌, ap, ap₂, codes, true}
use Rattle.std.proofs.lemmas.Result.{IfOk-weaker}
use Rattle.clap.specs.Walk.{rule_of}
use Rattle.clap.specs.Simple.{Shape, app_of, app_of_fields, on_top, with_rule}
use Rattle.rm_words.specs.Reading.{bare_program, flag, named}
use Rattle.rm_words.proofs.reading.program.Goals as goal

pub returns : goal.returns
returns c =
    let file_is : rule_of c.action-in_file.result ≡ flag (codes "file") = search rules in
    let moves_is : rule_of c.action-moves.result ≡ flag (codes "moves") = search rules in
    let names_is : rule_of c.action-names.result ≡ named = search rules in
    let bare_is : app_of c.disable_help_flag.result ≡ bare_program = ap app_of_fields c.disable_help_flag.ensures
    ∙ ap (on_top (λ (s : Shape). record s { disable_help_flag = true })) (ap app_of_fields c.no_binary_name.ensures
    ∙ ap (on_top (λ (s : Shape). record s { no_binary_name = true })) c.new-4.ensures.app) in
    IfOk-weaker c.arg-3.result _ _
    (λ command added. added.shape (search rules) ∙ ap₂ with_rule (c.in_ok-arg-2.ensures.shape (search rules) ∙ ap₂ with_rule (c.in_ok-arg.ensures.shape (search rules) ∙ ap₂ with_rule bare_is file_is) moves_is) names_is)
    c.arg-3.ensures
