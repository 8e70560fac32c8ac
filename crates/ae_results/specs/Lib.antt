pub mod Results
pub mod Certified
