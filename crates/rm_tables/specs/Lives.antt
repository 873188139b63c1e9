-- How the tables change where a life begins, opens and goes down, and which lanes have something to do. This project's own.
use Rattle.std.specs.Prelude.{ℕ, [], ◌∷◌, Bool, true, false, ◌&&◌, ◌||◌, not, nat_lt}
use Rattle.std.specs.declared.alloc.Global.{Global}
use Rattle.rm_types.specs.declared.messages.Lane.{Lane}
use Rattle.rm_types.specs.declared.messages.Lane.TheVariants as lanes
use Rattle.rm_types.specs.Lists.{is_nil}
use Rattle.rm_book.specs.Books.{empty_book}
use Rattle.rm_types.specs.declared.settings.Settings.{Settings}
use Rattle.rm_types.specs.Records.{Records, no_records}
use Rattle.rm_tables.specs.declared.events.MainEvent.TheVariants as mains
use Rattle.rm_tables.specs.declared.tables.Tables.{Tables}
use Rattle.rm_tables.specs.Completed.{ended_in}
use Rattle.rm_tables.specs.Opening.{going_in, recovered_rows}

-- before the first life: nothing is known of the store
abbrev pub no_life : Global → Settings → Tables
no_life alloc settings =
    record {
      alloc = alloc;
      settings = settings;
      tree = no_records;
      awaiting = [];
      alive = false;
      epoch = 0;
      stamp = 0;
      is_open = false;
      handed = false;
      blown = false;
      given = 0;
      served = 0;
      rows = [];
      going = 0;
      ended = [];
      clock = 0;
      waits = false;
      asks = [];
      book = empty_book;
      departed = [];
      pending = [];
      nodes = [];
      main = [];
      sched = [];
    }

-- nothing of a life is left but its epoch and its stamp
abbrev pub cleared : Tables → Tables
cleared t =
    record t {
      is_open = false;
      handed = false;
      blown = false;
      given = 0;
      served = 0;
      rows = [];
      going = 0;
      ended = [];
      clock = 0;
      waits = false;
      asks = [];
      book = empty_book;
      departed = [];
      pending = [];
      nodes = [];
      main = [];
      sched = [];
    }

-- a life begins over a tree, under a stamp: its epoch is the recorded next one, and its first event issues its Epoch
abbrev pub begun : Records → ℕ → Tables → Tables
begun tree stamp t =
    record (cleared t) {
      tree = tree;
      awaiting = [];
      alive = true;
      epoch = tree.next_epoch;
      stamp = stamp;
      rows = recovered_rows tree.apps;
      going = going_in tree.apps;
      ended = ended_in tree.apps;
      waits = nat_lt 0 (going_in tree.apps);
      main = mains.EpochStart ∷ [];
    }

-- a life goes down: what is recorded and what awaits is left of it, and whether the store refused an operation of it
abbrev pub tables_gone_down : Tables → Tables
tables_gone_down t = record (cleared t) { alive = false; blown = t.blown }

-- the first awaiting operation is with the store
abbrev pub handed_out : Tables → Tables
handed_out t = record t { handed = true }

-- the store refused the operation that was with it
abbrev pub refused : Tables → Tables
refused t = record t { handed = false; blown = true }

-- a lane has something to do, whatever the script says
abbrev pub is_ready_lane : Tables → Lane → Bool
is_ready_lane t lanes.Client = t.alive && (t.is_open || t.blown)
is_ready_lane t lanes.Master = t.alive && (t.is_open || t.blown)
is_ready_lane t lanes.Node = t.alive && (t.is_open || t.blown)
is_ready_lane t lanes.Clock = t.alive && (t.is_open || t.blown)
is_ready_lane t lanes.Main = not (is_nil t.main)
is_ready_lane t lanes.Sched = not (is_nil t.sched)
is_ready_lane t lanes.Hand = t.alive && (not (is_nil t.awaiting) && (not t.handed && not t.blown))
is_ready_lane t lanes.Write = t.alive && t.handed
is_ready_lane t lanes.End = t.alive && (is_nil t.main && (is_nil t.sched && is_nil t.awaiting))
is_ready_lane t lanes.Begin = not t.alive

-- a life may go down: it stands, and no operation is with the store
abbrev pub may_go_down : Tables → Bool
may_go_down t = t.alive && not t.handed
