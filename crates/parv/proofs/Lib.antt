pub mod PerformedLaws
