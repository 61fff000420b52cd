-- The job file (docs/SPEC.md, "The job file"): site, condition, sheet, then a trailer that points back and has the sheet's edition.
use Rattle.std.specs.Prelude.{List, ℕ, ◌+◌, ◌*◌, ◌-◌, length, get_or}

-- how many bytes the trailer has, and the file at most: TRAILER_BYTES and FILE_LIMIT of the code
abbrev pub trailer_bytes : ℕ
trailer_bytes = 16

abbrev pub file_limit : ℕ
file_limit = 65536

-- where the trailer starts: the length less 16
abbrev pub trailer_at : List ℕ → ℕ
trailer_at file = length file - trailer_bytes

-- the number in the four bytes from a on, low byte first
abbrev pub quad_at : List ℕ → ℕ → ℕ
quad_at S a = get_or S a 0 + 256 * get_or S (a + 1) 0 + 65536 * get_or S (a + 2) 0 + 16777216 * get_or S (a + 3) 0

-- 2 to the power 32: numbers of four bytes are below it
abbrev pub quad_limit : ℕ
quad_limit = 4294967296

-- number k of the trailer: 0 to 2 are the distances from the trailer's start back to the start of the sheet (k is 0), the condition (1) and
-- the site (2), and 3 is the edition
unfoldable pub number : (k : ℕ) (file : List ℕ) → ℕ
number k file = quad_at file (trailer_at file + 4 * k)

-- where the piece of distance k starts
unfoldable pub start_of : (k : ℕ) (file : List ℕ) → ℕ
start_of k file = trailer_at file - number k file
