pub mod RolledLaws
pub mod RollUntilLaws
pub mod RollOverLaws
