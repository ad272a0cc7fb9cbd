pub mod NumberLaws
pub mod HashTextLaws
pub mod SplitAtColonLaws
pub mod CursorTextLaws
