pub mod Writes
pub mod Numbers
pub mod Forms
pub mod Steps
pub mod RoundTrip
pub mod OneForm
pub mod Held
