pub mod Taking
pub mod FreshLemmas
pub mod NameLemmas
pub mod FileLemmas
pub mod VersionLemmas
pub mod Collecting
