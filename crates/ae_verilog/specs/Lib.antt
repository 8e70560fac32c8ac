pub mod NetlistModule
pub mod Written
pub mod Text
pub mod ReportLines
pub mod Notes
pub mod PortNets
