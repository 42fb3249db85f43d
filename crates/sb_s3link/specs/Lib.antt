pub mod Entities
pub mod Names
pub mod Readings
pub mod Items
pub mod Listings
pub mod Laws
pub mod Statuses
pub mod Courses
