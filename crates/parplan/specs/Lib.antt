pub mod FileWords
pub mod Grammar
pub mod Limit
pub mod Matches
pub mod Options
pub mod Plans
pub mod Commands
