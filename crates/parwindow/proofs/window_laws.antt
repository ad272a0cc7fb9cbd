pub mod PushLaws
pub mod PushUntilLaws
pub mod ExtendLaws
pub mod PushPastLaws
