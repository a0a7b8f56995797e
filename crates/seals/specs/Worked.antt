-- Keys and books that count, and a worked example of the code-book seal.
use Rattle.std.specs.Prelude.{◌≡◌, ℕ, ◌*◌, List, [], ◌∷◌, map}
use Rattle.std.specs.List.{range_with_len}
use Rattle.siphash.specs.declared.key.Key.{Key}
use Rattle.siphash.specs.SipHash.{key_of}
use Rattle.seals.specs.CodeBooks.{book_tag}

-- word i of the list is i, so that word b of station j is 256 j + b
abbrev pub counting_words : List ℕ
counting_words = range_with_len 0 1792

-- byte i of station j's key is 16 j + i
abbrev pub counting_key : ℕ → Key
counting_key j = key_of (range_with_len (16 * j) 16)

-- the keys of stations 0 to 6
abbrev pub counting_keys : List Key
counting_keys = map counting_key (range_with_len 0 7)

-- what station 0 seals of a notice that it sends, and what station 1 seals of that notice as it relays it
abbrev pub sent_bytes : List ℕ
sent_bytes = 2 ∷ 1 ∷ 0 ∷ 1 ∷ 0 ∷ 1 ∷ 0 ∷ 0 ∷ 0 ∷ 0 ∷ 0 ∷ 0 ∷ 0 ∷ 2 ∷ 0 ∷ []

abbrev pub relayed_bytes : List ℕ
relayed_bytes = 2 ∷ 2 ∷ 0 ∷ 1 ∷ 0 ∷ 1 ∷ 0 ∷ 0 ∷ 0 ∷ 0 ∷ 0 ∷ 0 ∷ 0 ∷ 2 ∷ 0 ∷ 1 ∷ []

-- their tags under the words that count
abbrev pub WorkedTags : Type 0
WorkedTags =
    (book_tag counting_words 0 sent_bytes ≡ 0xAA04) × (book_tag counting_words 1 relayed_bytes ≡ 0x6BF7)
