-- The class numbers of a site's slots, and the features of a slot.
pub mod Classes
pub mod Features
