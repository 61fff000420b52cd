-- Text written into a buffer, one word behind another.
use Rattle.std.specs.Prelude.{◌≡◌, List, ◌++◌, ℕ, ◌+◌, length, take}

-- how many bytes the buffer for the text has: TEXT_BYTES of the code
abbrev pub text_bytes : ℕ
text_bytes = 256

-- the word is written into the buffer from byte a on, which gives the buffer text', and ends at byte b; what stood before it stays
pub record Puts (text : List ℕ) (a : ℕ) (word text' : List ℕ) (b : ℕ) : Type 0 where
  pub size : length text' ≡ length text
  pub ends : b ≡ a + length word
  pub says : take b text' ≡ take a text ++ word
