pub mod FillLaws
pub mod JudgeLaws
pub mod AnswerLaws
pub mod SchemaLaws
pub mod Outcomes
pub mod BesideLaws
