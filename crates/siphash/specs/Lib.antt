pub mod SipHash
pub mod Worked
