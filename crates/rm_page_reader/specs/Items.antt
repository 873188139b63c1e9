-- No comma stands in the texts of items that stand in a list. The proofs stand here, since the items' own code names them.
use Rattle.std.specs.Prelude.{List, ℕ}
use Rattle.rm_types.specs.declared.containers.Closing.{Closing}
use Rattle.rm_types.specs.declared.containers.Grant.{Grant}
use Rattle.rm_types.specs.declared.containers.Held.{Held}
use Rattle.rm_types.specs.declared.texts.TextKind.TheVariants.{Queue}
use Rattle.rm_types.specs.Ranges.{IsText}
use Rattle.rm_formats.specs.IdTexts.{container_text}
use Rattle.rm_formats.specs.Wording.{grant_text, closing_text}
use Rattle.rm_page.specs.Ranges.{IsPageHeld, IsGrant, IsClosing}
use Rattle.rm_page.proofs.ReadLists.{texts_come_back, grant_comes_back, closing_comes_back, listed_held_comes_back}
use Rattle.rm_lines.specs.Cuts.{HasNoComma}

-- none in a queue's name
pub text_lacks_comma : (text : List ℕ) → IsText Queue text → HasNoComma text
text_lacks_comma text is = (texts_come_back text is).no_comma

-- nor in a grant's
pub grant_lacks_comma : (grant : Grant) → IsGrant grant → HasNoComma (grant_text grant)
grant_lacks_comma grant is = (grant_comes_back grant is).no_comma

-- nor in that of a container that ended
pub closing_lacks_comma : (closing : Closing) → IsClosing closing → HasNoComma (closing_text closing)
closing_lacks_comma closing is = (closing_comes_back closing is).no_comma

-- nor in that of a container that an absorption takes
pub taken_lacks_comma : (held : Held) → IsPageHeld held → HasNoComma (container_text held.id)
taken_lacks_comma held is = (listed_held_comes_back held is).no_comma
