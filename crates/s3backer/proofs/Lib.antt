mod Completing
pub mod BucketLemmas
pub mod Causes
pub mod Endings
pub mod Opening
pub mod Running
pub mod Sessions
pub mod UrlLemmas
pub mod WordLemmas
