pub mod There
pub mod Fed
pub mod Layouts
