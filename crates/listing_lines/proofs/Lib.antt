pub mod RoomLaws
pub mod LineLaws
pub mod AnswerLaws
