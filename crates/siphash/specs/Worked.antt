-- A published vector.
use Rattle.std.specs.Prelude.{◌≡◌, ℕ, List, [], ◌∷◌, take}
use Rattle.siphash.specs.SipHash.{key_of, sip_hash}

abbrev pub first_bytes : List ℕ
first_bytes = 0 ∷ 1 ∷ 2 ∷ 3 ∷ 4 ∷ 5 ∷ 6 ∷ 7 ∷ 8 ∷ 9 ∷ 10 ∷ 11 ∷ 12 ∷ 13 ∷ 14 ∷ 15 ∷ []

-- the hash of the bytes 0 to 14 under the key of the bytes 0 to 15
abbrev pub PublishedHash : Type 0
PublishedHash = sip_hash (key_of first_bytes) (take 15 first_bytes) ≡ 0xa129ca6149be45e5
