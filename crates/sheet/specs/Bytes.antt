-- Little-endian numbers in a list of bytes. What is read past the end counts as 0.
use Rattle.std.specs.Prelude.{ℕ, ◌+◌, ◌*◌, ◌/◌, ◌%◌, List, [], ◌∷◌, get_or}

abbrev pub byte : List ℕ → ℕ → ℕ
byte s i = get_or s i 0

-- the number of 2 bytes, and of 4, that starts at byte i
unfoldable pub half : List ℕ → ℕ → ℕ
half s i = byte s i + 256 * byte s (i + 1)

unfoldable pub word : List ℕ → ℕ → ℕ
word s i = byte s i + 256 * byte s (i + 1) + 65536 * byte s (i + 2) + 16777216 * byte s (i + 3)

-- the 4 bytes of a number
unfoldable pub bytes : ℕ → List ℕ
bytes w = w % 256 ∷ w / 256 % 256 ∷ w / 65536 % 256 ∷ w / 16777216 % 256 ∷ []
