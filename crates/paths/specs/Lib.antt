pub mod Stations
pub mod Paths
