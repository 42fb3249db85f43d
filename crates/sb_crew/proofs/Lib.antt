pub mod Asking
pub mod Measures
pub mod OutcomeLemmas
pub mod Pausing
pub mod Requesting
pub mod Turning
mod Rooms
mod Flushing
mod Opening
pub mod SharedTurns
pub mod PutContents
pub mod SharedRuns
pub mod SharedRequests
pub mod WorkTurns
pub mod WorkRuns
