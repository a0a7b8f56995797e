pub mod CodeBooks
pub mod SipSeals
pub mod Worked
