-- What the entry points return for the examples of `samples`.
-- a site's bytes
pub mod Write
-- what is returned for each row
pub mod Refused
pub mod Said
-- R through edits that double it
pub mod Doubled
-- names 0 to 47
pub mod Names
-- no labels off-site
pub mod OffSite
