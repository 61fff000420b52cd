-- What the exports do with bytes of any length. Its laws stand in proofs/Laws.
pub mod Length
