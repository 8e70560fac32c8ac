pub mod Even
pub mod Gains
