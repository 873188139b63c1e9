use Rattle.std.proofs.Common.{sym, ◌∙◌}
use Rattle.rm_page.proofs.Bytes.{cut}
use Rattle.rm_page_reader.proofs.ReplyParts.{bare_found}
use Rattle.rm_page_reader.proofs.replies.reply.Goals as goal

pub returns-then-is_empty : goal.returns-then-is_empty
returns-then-is_empty c =
    bare_found c.in_ok-word.word.now (cut 32 c.args.text.now) c.word.new.self c.bare_reply.result (sym c.of-words.ensures ∙ c.in_ok-word.ensures.word) (c.is_empty.ensures.0 c.if-is_empty.true) c.bare_reply.ensures
