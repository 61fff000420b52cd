-- Laws of the site's bytes, by topic.
pub mod Read
pub mod Target
pub mod Fits
pub mod Valid
pub mod Same
pub mod Links
