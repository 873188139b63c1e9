pub mod Acls
pub mod Paths
pub mod Places
pub mod Rules
pub mod Trees
