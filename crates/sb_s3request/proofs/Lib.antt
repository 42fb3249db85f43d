pub mod OneHead
