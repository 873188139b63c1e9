-- Which ids the line of an entry tells. This project's own.
use Rattle.std.specs.Prelude.{◌≡◌, ℕ, List, Bool, false, ◌||◌}
use Rattle.std.specs.List.{list_any}
use Rattle.std.specs.Str.{bytes_eq}
use Rattle.rm_types.specs.declared.containers.Grant.{Grant}
use Rattle.rm_types.specs.declared.entries.Entry.{Entry}
use Rattle.rm_types.specs.declared.entries.Entry.TheVariants as entries
use Rattle.rm_types.specs.declared.messages.ClientAsk.{ClientAsk}
use Rattle.rm_types.specs.declared.messages.ClientAsk.TheVariants as clients
use Rattle.rm_types.specs.declared.messages.ClockAsk.{ClockAsk}
use Rattle.rm_types.specs.declared.messages.ClockAsk.TheVariants as clocks
use Rattle.rm_types.specs.declared.messages.MasterAsk.{MasterAsk}
use Rattle.rm_types.specs.declared.messages.MasterAsk.TheVariants as masters
use Rattle.rm_types.specs.declared.messages.Message.{Message}
use Rattle.rm_types.specs.declared.messages.Message.TheVariants as messages
use Rattle.rm_types.specs.declared.messages.NodeAsk.{NodeAsk}
use Rattle.rm_types.specs.declared.messages.NodeAsk.TheVariants as nodes
use Rattle.rm_types.specs.declared.operations.Op.{Op}
use Rattle.rm_types.specs.declared.operations.Op.TheVariants as ops
use Rattle.rm_types.specs.declared.replies.Reply.{Reply}
use Rattle.rm_types.specs.declared.replies.Reply.TheVariants as replies
use Rattle.rm_types.specs.declared.texts.TextKind.TheVariants as kinds
use Rattle.rm_types.specs.Ids.{is_app, is_attempt, is_container}
use Rattle.rm_types.specs.Ranges.{IsAppId, IsAttemptId, IsContainerId, IsText}
use Rattle.rm_formats.specs.IdTexts.{app_text, attempt_text, container_text}
use Rattle.rm_report.specs.declared.subjects.Subject.{Subject}
use Rattle.rm_report.specs.declared.subjects.Subject.TheVariants.{App, Attempt, Container, Node}

-- a line that tells the second is one about the first: they are the same, or the second is an attempt of the application, or
-- a container of the application or the attempt
abbrev pub covers : Subject → Subject → Bool
covers (App id) (App other) = is_app id other
covers (App id) (Attempt other) = is_app id other.app
covers (App id) (Container other) = is_app id other.attempt.app
covers (Attempt id) (Attempt other) = is_attempt id other
covers (Attempt id) (Container other) = is_attempt id other.attempt
covers (Container id) (Container other) = is_container id other
covers (Node node) (Node other) = bytes_eq node other
covers subject other = false

-- an operation tells its application or attempt; and an attempt's master and node
abbrev pub names_op : Subject → Op → Bool
names_op subject (ops.Epoch next stamp) = false
names_op subject (ops.App id submission) = covers subject (App id)
names_op subject (ops.Attempt id master node) = covers subject (Attempt id) || covers subject (Container master) || covers subject (Node node)
names_op subject (ops.AttemptEnd id how text) = covers subject (Attempt id)
names_op subject (ops.AppEnd id how text) = covers subject (App id)
names_op subject (ops.Remove id) = covers subject (App id)

-- what a client asks tells the application that it is about
abbrev pub names_client : Subject → ClientAsk → Bool
names_client subject clients.New = false
names_client subject (clients.Submit id submission) = covers subject (App id)
names_client subject (clients.Report id) = covers subject (App id)
names_client subject (clients.Kill id) = covers subject (App id)

-- what a master asks tells the containers that it releases
abbrev pub names_master : Subject → MasterAsk → Bool
names_master subject (masters.Allocate id asks release) = list_any (λ container. covers subject (Container container)) release
names_master subject ask = false

-- what a node says tells the containers that it runs, and those that are done
abbrev pub names_node : Subject → NodeAsk → Bool
names_node subject (nodes.Register turn capability running) = list_any (λ held. covers subject (Container held.id)) running
names_node subject (nodes.Beat id running done) =
    list_any (λ held. covers subject (Container held.id)) running || list_any (λ container. covers subject (Container container)) done

-- what the clock says tells whose lease ran out
abbrev pub names_clock : Subject → ClockAsk → Bool
names_clock subject (clocks.Tick time) = false
names_clock subject (clocks.ExpireNode node) = covers subject (Node node)
names_clock subject (clocks.ExpireMaster attempt) = covers subject (Attempt attempt)

-- a message tells the attempt or node that sends it, and what it says
abbrev pub names_message : Subject → Message → Bool
names_message subject (messages.Client user ask) = names_client subject ask
names_message subject (messages.Master attempt ask) = covers subject (Attempt attempt) || names_master subject ask
names_message subject (messages.Node node ask) = covers subject (Node node) || names_node subject ask
names_message subject (messages.Clock ask) = names_clock subject ask

-- a grant as a master is told it: its container, and its node
abbrev pub names_grant : Subject → Grant → Bool
names_grant subject grant = covers subject (Container grant.id) || covers subject (Node grant.node)

-- a reply tells a new application; containers that are handed over, with their nodes; grants with theirs, and ended containers; masters to launch, and containers to end
abbrev pub names_reply : Subject → Reply → Bool
names_reply subject (replies.New id) = covers subject (App id)
names_reply subject (replies.Took kept) = list_any (λ grant. names_grant subject grant) kept
names_reply subject (replies.Allocated id grants ended) =
    list_any (λ grant. names_grant subject grant) grants || list_any (λ closing. covers subject (Container closing.id)) ended
names_reply subject (replies.Beat id launch clean) =
    list_any (λ container. covers subject (Container container)) launch || list_any (λ container. covers subject (Container container)) clean
names_reply subject reply = false

-- the line of an entry tells an id that the subject covers
abbrev pub names_subject : Subject → Entry → Bool
names_subject subject (entries.Issued op) = names_op subject op
names_subject subject (entries.Kept op) = names_op subject op
names_subject subject (entries.Served sender message reply) = names_message subject message || names_reply subject reply
names_subject subject (entries.Accepted app) = covers subject (App app)
names_subject subject (entries.Queued attempt) = covers subject (Attempt attempt)
names_subject subject (entries.Absorbed node taken ended) =
    covers subject (Node node) || list_any (λ held. covers subject (Container held.id)) taken || list_any (λ container. covers subject (Container container)) ended
names_subject subject (entries.Pass node grants) = covers subject (Node node) || list_any (λ grant. covers subject (Container grant.id)) grants
names_subject subject (entries.Ordered container node) = covers subject (Container container) || covers subject (Node node)
names_subject subject (entries.Ended cause list) = list_any (λ container. covers subject (Container container)) list
names_subject subject entry = false

-- the bytes are the text of the id, in its ranges
abbrev pub IsSubjectText : List ℕ → Subject → Type 0
IsSubjectText text (App id) = IsAppId id × (text ≡ app_text id)
IsSubjectText text (Attempt id) = IsAttemptId id × (text ≡ attempt_text id)
IsSubjectText text (Container id) = IsContainerId id × (text ≡ container_text id)
IsSubjectText text (Node node) = IsText kinds.Node node × (text ≡ node)
