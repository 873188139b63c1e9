mod Common
pub mod Acquired
pub mod Replies
pub mod Asked
pub mod Granted
pub mod Allocations
pub mod Masters
pub mod Again
pub mod Same
pub mod Served
pub mod HandedOver
pub mod Picked
pub mod Around
pub mod Pended
