pub mod Divisors
pub mod Applies
pub mod Laid
pub mod Layouts
pub mod Amounts
pub mod Grown
pub mod Forms
pub mod Lines
pub mod Items
pub mod Params
pub mod Budgets
pub mod Reached
pub mod Planning
pub mod Whole
mod Few
mod Accepted
mod WordKinds
mod Used
mod Sound
