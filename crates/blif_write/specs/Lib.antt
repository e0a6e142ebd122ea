pub mod Even
pub mod Text
