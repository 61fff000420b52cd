-- Numbers as bytes, low byte first. Their laws stand in proofs/Laws.
pub mod Word
pub mod Eight
