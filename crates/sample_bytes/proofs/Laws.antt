-- Laws of the examples over bytes, by topic.
-- a site's bytes, read back
pub mod Write
-- a row's pieces: what they fit, and the verdicts on them
pub mod Rows
pub mod Judged
-- the lists of a condition after a sheet and today
pub mod Lists
-- the theorems
pub mod Refused
pub mod Said
pub mod Doubled
pub mod Names
pub mod OffSite
