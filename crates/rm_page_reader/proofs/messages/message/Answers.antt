use Rattle.rm_page_reader.proofs.Saying.{said_ranges, said_value}
use Rattle.rm_page_reader.proofs.messages.message.Goals as goal

pub returns-clause-ranges : goal.returns-clause-ranges
returns-clause-ranges c = said_ranges c.read_message.result c.args.text.now c.read_message.ensures

pub returns-clause-only : goal.returns-clause-only
returns-clause-only c = λ message is e. said_value c.read_message.result c.args.text.now message c.read_message.ensures is e
