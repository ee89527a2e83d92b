pub mod DayFrames
