mod GhostSteps
pub mod ByteLaws
pub mod OrderLaws
pub mod ShownLaws
