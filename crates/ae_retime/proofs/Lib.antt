pub mod Lists
pub mod UseLaws
