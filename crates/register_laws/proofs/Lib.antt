pub mod NotedLevels
pub mod Noted
pub mod Rising
