-- The state of the judge's manager that the tables stand for.
use Rattle.std.specs.Prelude.{List, [], Bool, true, false, not, ◌&&◌, Option, None, Some}
use Rattle.rm_types.specs.declared.containers.AskOf.{AskOf}
use Rattle.rm_types.specs.declared.ids.ContainerId.{ContainerId}
use Rattle.rm_types.specs.declared.operations.Op.{Op}
use Rattle.rm_types.specs.Records.{Records, records}
use Rattle.rm_model.specs.State.{Applications, Endings, LifeState, Manager, Masters, NodeState, Row, Scene}
use Rattle.rm_tables.specs.declared.tables.Tables.{Tables}

-- what the judge remembers and the tables do not, or not as a list: the kept operations, what was recorded when the life began, and
-- of the life its applications' lists, its masters, what is asked for, its book and its nodes
pub record History : Type 0 where
  pub kept : List Op
  pub first : Records
  pub granted : List ContainerId
  pub apps : Applications
  pub masters : Masters
  pub asks : List AskOf
  pub book : List Row
  pub endings : Endings
  pub nodes : List NodeState

-- the history of a life as it begins over what is kept
abbrev pub initial_history : List Op → History
initial_history kept =
    record {
      kept = kept;
      first = records kept;
      granted = [];
      apps = record { submitted = []; wishes = []; accepted = []; retired = [] };
      masters = record { registered = []; expired = []; ordered = [] };
      asks = [];
      book = [];
      endings = record { outbox = []; left = []; releases = []; pending = [] };
      nodes = [];
    }

-- the life that the tables stand for
abbrev pub abstract_life : History → Tables → LifeState
abstract_life h t =
    record {
      epoch = t.epoch;
      stamp = t.stamp;
      first = h.first;
      is_open = t.is_open;
      handed = t.handed;
      blown = t.blown;
      now = t.clock;
      given = t.given;
      granted = h.granted;
      apps = h.apps;
      masters = h.masters;
      asks = h.asks;
      book = h.book;
      endings = h.endings;
      nodes = h.nodes;
    }

-- what the rules of the life look at
abbrev pub abstract_scene : History → Tables → Scene
abstract_scene h t = record { records = t.tree; awaiting = t.awaiting; life = abstract_life h t }

-- the state where this life stands
abbrev pub live_state : History → Tables → Manager
live_state h t = record { kept = h.kept; awaiting = t.awaiting; blew = false; life = Some (abstract_life h t) }

-- the life, where one stands
abbrev pub abstract_life_if : Bool → History → Tables → Option LifeState
abstract_life_if true h t = Some (abstract_life h t)
abstract_life_if false h t = None

-- the state that the tables stand for; where no life stands they say whether the last one blew
abbrev pub abstract_state : History → Tables → Manager
abstract_state h t = record { kept = h.kept; awaiting = t.awaiting; blew = not t.alive && t.blown; life = abstract_life_if t.alive h t }
