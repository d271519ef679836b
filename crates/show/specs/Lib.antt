pub mod Lines
pub mod LineSteps
pub mod Asking
pub mod Scripts
pub mod Rooms
