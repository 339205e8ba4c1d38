pub mod Plain
pub mod PlainMeaning
