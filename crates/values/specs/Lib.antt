pub mod Laws
pub mod Notices
pub mod Readings
pub mod Reports
pub mod Majorities
pub mod Members
pub mod Soles
