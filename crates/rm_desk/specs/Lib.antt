pub use Rattle.rm_types.specs.Lanes as EntryLanes
pub use Rattle.rm_types.specs.Lists
pub use Rattle.rm_types.specs.Records
pub use Rattle.rm_model.specs.State
pub use Rattle.rm_model.specs.Changes
pub use Rattle.rm_model.specs.Place
pub use Rattle.rm_model.specs.Lawful
pub use Rattle.rm_core.specs.Moves
pub use Rattle.rm_core.specs.Seen
pub use Rattle.rm_core.specs.Words
pub mod View
pub mod Scripts
pub mod Lanes
pub mod Feeds
pub mod Runs
pub mod Effects
pub mod Left
