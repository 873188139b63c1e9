-- What a pass grants on a node: first fit, application by application, as `Passes` in `rm_types` says. That a scheduler
-- allocates when a node beats is after YARN's schedulers; first fit, and the order of submission, are this project's own.
use Rattle.std.specs.Prelude.{ℕ, ◌+◌, ◌-◌, List, [], ◌++◌, map, filter, find, fold, drop, Bool, false, ◌&&◌, ◌||◌, not, nat_lt, Option, None, Some, is_none, if◌then◌else◌, count_by}
use Rattle.std.specs.List.{list_any}
use Rattle.rm_types.specs.declared.containers.Ask.{Ask}
use Rattle.rm_types.specs.declared.containers.AskOf.{AskOf}
use Rattle.rm_types.specs.declared.containers.ContainerState.TheVariants.{Granted}
use Rattle.rm_types.specs.declared.containers.Grant.{Grant}
use Rattle.rm_types.specs.declared.containers.Turn.{Turn}
use Rattle.rm_types.specs.declared.ids.AttemptId.{AttemptId}
use Rattle.rm_types.specs.declared.resources.Resource.{Resource}
use Rattle.rm_types.specs.declared.settings.Settings.{Settings}
use Rattle.rm_types.specs.Ids.{is_attempt}
use Rattle.rm_types.specs.Passes.{PassNode, by_priority, pass_list}
use Rattle.rm_model.specs.State.{LifeState, NodeState, Row, Scene}
use Rattle.rm_model.specs.Attempts.{attempt_at}
use Rattle.rm_model.specs.Containers.{is_same_ask, is_size, rows_on}
use Rattle.rm_model.specs.Nodes.{is_ready, tidied, with_judged_node}

-- after a restart nothing is granted yet: the store held an application without an end when the life began, and its nodes may still report.
-- From YARN's `work-preserving-recovery.scheduling-wait-ms`
abbrev pub waits_for_nodes : Settings → Scene → Bool
waits_for_nodes settings m = list_any (λ app. is_none app.ending) m.life.first.apps && nat_lt m.life.now settings.wait_ms

-- an attempt's turn in a pass: its next grant has a sequence one above the grants that this life made to it
abbrev pub turn_of : Scene → AttemptId → Turn
turn_of m attempt = record { attempt = attempt; next_seq = count_by (λ id. is_attempt id.attempt attempt) m.life.granted + 1 }

-- the turns of a pass: of each application, in the order of the records, the attempt that it is at
abbrev pub turns : Scene → List Turn
turns m = map (λ app. turn_of m (attempt_at app)) m.records.apps

-- what an attempt asks for, in the order of first asking
abbrev pub asks_of : List AskOf → AttemptId → List Ask
asks_of asks attempt = map (λ one. one.ask) (filter (λ one. is_attempt one.attempt attempt) asks)

-- what a pass goes over: the node with what it offers, and what stands on it
abbrev pub pass_node : Scene → List ℕ → Resource → PassNode
pass_node m name capability =
    record { node = name; capability = capability; sizes = map (λ row. row.size) (rows_on m.life.book name); epoch = m.life.epoch }

-- what first fit grants on a node, once it offers something
abbrev pub first_fit_on : Scene → List ℕ → Option Resource → List Grant
first_fit_on m name None = []
first_fit_on m name (Some capability) = pass_list (pass_node m name capability) (asks_of m.life.asks) (turns m)

-- the grants of a pass on a node: none where it isn't ready, or while nodes may still report
abbrev pub pass_of : Settings → Scene → NodeState → List Grant
pass_of settings m node =
    if is_ready node.phase && not (waits_for_nodes settings m) then first_fit_on m node.name node.capability else []

-- the ask that a grant answers: of its attempt's asks of its size the one that a pass comes to first
abbrev pub answered_ask : List AskOf → Grant → Option Ask
answered_ask asks grant = find (λ one. is_size one.size grant.size) (by_priority (asks_of asks grant.id.attempt))

-- an ask after a grant: one less is asked for where it is the one that was answered
abbrev pub ask_lessened : Ask → Ask → Ask
ask_lessened answered one = if is_same_ask answered one then record one { count = one.count - 1 } else one

-- a line of the attempt after one of its asks was answered
abbrev pub line_lessened : AttemptId → Ask → AskOf → AskOf
line_lessened attempt answered one = if is_attempt one.attempt attempt then record one { ask = ask_lessened answered one.ask } else one

-- the asks after one ask of an attempt was answered: it falls by 1, and goes at 0
abbrev pub asks_lessened : AttemptId → List AskOf → Option Ask → List AskOf
asks_lessened attempt asks None = asks
asks_lessened attempt asks (Some answered) =
    filter (λ one. not (is_attempt one.attempt attempt) || nat_lt 0 one.ask.count)
    (map (line_lessened attempt answered) asks)

-- the asks after a grant
abbrev pub without_granted : List AskOf → Grant → List AskOf
without_granted asks grant = asks_lessened grant.id.attempt asks (answered_ask asks grant)

-- a row as it enters the book by a grant
abbrev pub row_granted : Grant → Row
row_granted grant = record { id = grant.id; node = grant.node; size = grant.size; state = Granted; released = false; untold = false }

-- a node after the pass of its beat, which is worked off
abbrev pub passed : NodeState → NodeState
passed node = record node { undone = drop 1 node.undone }

-- the life after a pass: each grant is made, enters the book, and is no longer asked for
abbrev pub passes : Scene → List ℕ → List Grant → LifeState
passes m name grants =
    tidied (record m.life {
      granted = m.life.granted ++ map (λ grant. grant.id) grants;
      asks = fold without_granted m.life.asks grants;
      book = m.life.book ++ map row_granted grants;
      nodes = with_judged_node passed name m.life.nodes;
    })
