pub mod LineLaws
pub mod RoomLaws
pub mod Examples
