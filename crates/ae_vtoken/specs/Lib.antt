pub mod Tables
pub mod Tokens
pub mod Scan
pub mod Front
pub mod Ahead
