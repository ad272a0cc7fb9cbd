pub mod ListLaws
pub mod crc_laws
pub mod window_laws
pub mod rolling_laws
pub mod slice_laws
pub mod tail_laws
