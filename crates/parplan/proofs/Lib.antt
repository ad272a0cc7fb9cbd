pub mod GrammarLaws
pub mod LimitLaws
