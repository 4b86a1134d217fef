mod Recorded
mod Replaying
