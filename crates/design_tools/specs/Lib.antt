pub mod Names
pub mod Sources
pub mod Vlog
pub mod Laws
pub mod Fabric
