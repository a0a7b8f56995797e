-- Numbers as bytes, the high byte first, and a list written over a part of another.
use Rattle.std.specs.Prelude.{ℕ, zero, suc, ◌+◌, ◌/◌, ◌%◌, List, [], ◌∷◌, ◌++◌, length, take, drop}
use Rattle.std.specs.Int.Digits.{number_from_digits}

-- the w low bytes of n
abbrev pub bytes_of : ℕ → ℕ → List ℕ
bytes_of zero n = []
bytes_of (suc w) n = bytes_of w (n / 256) ++ (n % 256 ∷ [])

-- the number whose w bytes stand at a place
abbrev pub number_at : ℕ → ℕ → List ℕ → ℕ
number_at w at b = number_from_digits 256 (take w (drop at b))

-- xs with ys written over its part at a place
unfoldable pub over : List ℕ → ℕ → List ℕ → List ℕ
over xs at ys = take at xs ++ (ys ++ drop (at + length ys) xs)
