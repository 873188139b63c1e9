pub mod Agreement
pub mod Services
pub mod History
pub mod Clients
