pub mod Fields
pub mod Rising
pub mod Grammars
