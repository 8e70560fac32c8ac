pub mod Correct
pub mod ClockTexts
pub mod Laws
