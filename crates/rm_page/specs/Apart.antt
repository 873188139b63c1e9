-- What the texts of a page determine.
use Rattle.std.specs.Prelude.{◌≡◌, ◌↔◌, List, All, true, false, map}
use Rattle.rm_types.specs.declared.entries.Entry.{Entry}
use Rattle.rm_types.specs.declared.messages.Message.{Message}
use Rattle.rm_types.specs.declared.operations.Op.{Op}
use Rattle.rm_types.specs.declared.replies.Reply.{Reply}
use Rattle.rm_types.specs.Ranges.{IsOperation}
use Rattle.rm_formats.specs.Wording.{message_text, op_text, reply_text}
use Rattle.rm_formats.specs.Page.{line_of, page}
use Rattle.rm_types.specs.Lanes.{lane_of_entry}
use Rattle.rm_page.specs.Ranges.{IsPageMessage, IsPageReply, IsEntry}
use Rattle.rm_page.specs.Shown.{shown_reply, shown, is_silent, shown_log}

-- no two operations have one text
abbrev pub OpTextsAreApart : Type 0
OpTextsAreApart = (a b : Op) → IsOperation a → IsOperation b → op_text a ≡ op_text b → a ≡ b

-- no two messages have one text
abbrev pub MessageTextsAreApart : Type 0
MessageTextsAreApart = (a b : Message) → IsPageMessage a → IsPageMessage b → message_text a ≡ message_text b → a ≡ b

-- two replies have one text exactly where they show the same
abbrev pub ReplyTextsShow : Type 0
ReplyTextsShow = (a b : Reply) → IsPageReply a → IsPageReply b → (reply_text a ≡ reply_text b) ↔ (shown_reply a ≡ shown_reply b)

-- two entries that have lines have one line exactly where they show the same
abbrev pub LinesShow : Type 0
LinesShow = (a b : Entry) → IsEntry a → IsEntry b → is_silent a ≡ false → is_silent b ≡ false → (line_of a ≡ line_of b) ↔ (shown a ≡ shown b)

-- two logs have one page exactly where their entries with lines show the same in the same order
abbrev pub PagesShow : Type 0
PagesShow = (a b : List Entry) → All IsEntry a → All IsEntry b → (page a false ≡ page b false) ↔ (shown_log a ≡ shown_log b)

-- with the moves, the page also tells the lane of each entry, silent ones too
abbrev pub MovesShow : Type 0
MovesShow = (a b : List Entry) → All IsEntry a → All IsEntry b → (page a true ≡ page b true) ↔ ((shown_log a ≡ shown_log b) × (map lane_of_entry a ≡ map lane_of_entry b))
