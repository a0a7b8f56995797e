-- Bytes in hexadecimal.
use Rattle.std.specs.Prelude.{ℕ, ◌-◌, false, List, [], ◌∷◌, ◌++◌, length, replicate, codes}
use Rattle.std.specs.Fmt.{digits}
use Rattle.std.specs.List.{flat_map}

-- a byte's digits, with 0 before a digit that is alone
abbrev pub byte_text : ℕ → List ℕ
byte_text b = replicate (2 - length (digits 16 false b)) 48 ++ digits 16 false b

-- bytes, parted by spaces
abbrev pub hex_text : List ℕ → List ℕ
hex_text [] = []
hex_text (b ∷ bs) = byte_text b ++ flat_map (λ c. codes " " ++ byte_text c) bs
