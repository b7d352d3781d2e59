pub mod Sets
pub mod PlacingLaws
pub mod RoomLaws
pub mod MakeLaws
pub mod RecordLaws
