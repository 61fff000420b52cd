-- Laws of applying, by topic.
pub mod Run
pub mod Goes
pub mod After
