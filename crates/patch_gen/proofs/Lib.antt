pub mod RunLemmas
pub mod LineLemmas
pub mod RoomLemmas
pub mod PlaceLemmas
