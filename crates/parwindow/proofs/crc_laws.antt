pub mod XorLaws
pub mod CrcLaws
pub mod TableLaws
pub mod EightBytesLaws
pub mod ZeroRunLaws
pub mod TakenBackLaws
pub mod NibbleLaws
pub mod LaneLaws
