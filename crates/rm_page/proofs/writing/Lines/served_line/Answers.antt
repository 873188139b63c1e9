use Rattle.std.proofs.Common.{◌++◌, ap, sym}
use Rattle.std.proofs.lemmas.List.{append_assoc}
use Rattle.rm_formats.specs.Wording.{message_words, reply_words}
use Rattle.rm_page.proofs.Joining.{line-served}
use Rattle.rm_page.proofs.writing.Lines.served_line.Goals as goal

pub returns : goal.returns
returns c =
    simp (c.in_ok-text-3.ensures, c.in_ok-reply.ensures, c.in_ok-text-2.ensures, c.in_ok-message.ensures, c.in_ok-text.ensures, append_assoc)
    (ap (λ text. c.args.self.now ++ text) (sym (line-served (message_words c.args.message.now) (reply_words c.args.reply.now))))
