-- The buffer that a piece is read into.
use Rattle.std.specs.Prelude.{ℕ}

-- how many bytes it has: a length and an offset are two bytes
abbrev pub room : ℕ
room = 65536
