pub mod Trees
pub mod Trips
pub mod Origins
pub mod Rings
pub mod Usages
