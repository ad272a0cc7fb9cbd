pub mod track_laws
pub mod place_laws
pub mod drive_laws
pub mod cursor_laws
pub mod search_laws
pub mod survey_laws
