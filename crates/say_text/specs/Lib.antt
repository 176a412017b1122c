pub mod Messages
pub mod Origins
