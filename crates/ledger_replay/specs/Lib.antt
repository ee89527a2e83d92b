pub mod Logs
pub mod Replays
