pub mod PostfixLaws
pub mod StackLaws
pub mod WordLaws
