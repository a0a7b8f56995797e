pub mod Bytes
pub mod Headers
pub mod Form
pub mod Tags
pub mod Calls
pub mod Laws
