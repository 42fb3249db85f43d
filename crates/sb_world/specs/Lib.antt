pub mod Told
pub mod Streams
pub mod Listeners
pub mod Calls
pub mod Benches
pub mod Worlds
pub mod Wires
pub mod Folders
