-- Two worked packets: notice 2 of sounding 1, level 1, under the code book in which word b of station j is 256 j + b.
use Rattle.std.specs.Prelude.{◌≡◌, ℕ, true, false, List, [], ◌∷◌, Ok}
use Rattle.seals.specs.CodeBooks.{book_tag}
use Rattle.seals.specs.Worked.{counting_words}
use Rattle.packets.specs.declared.header.Header.{Header}
use Rattle.packets.specs.Headers.{header_of}
use Rattle.packets.specs.Form.{Parts, encode, parts_in}
use Rattle.packets.specs.Tags.{sealed_parts, tags_hold}
use Rattle.packets.specs.Calls.{decode}

abbrev pub notice : Header
notice = header_of 2 1 1 2

abbrev pub books : ℕ → List ℕ → ℕ
books j m = book_tag counting_words j m

-- as its stations make it
abbrev pub notice_by : List ℕ → Parts
notice_by t = sealed_parts books notice t

-- from station 0
abbrev pub sent_notice : List ℕ
sent_notice = 0x02 ∷ 0x01 ∷ 0x00 ∷ 0x01 ∷ 0x00 ∷ 0x01 ∷ 0x00 ∷ 0x00 ∷ 0x00 ∷ 0x00 ∷ 0x00 ∷ 0x00 ∷ 0x00 ∷ 0x02 ∷ 0x00 ∷ 0xAA ∷ 0x04 ∷ []

-- from station 0 by way of station 1
abbrev pub relayed_notice : List ℕ
relayed_notice = 0x02 ∷ 0x02 ∷ 0x00 ∷ 0x01 ∷ 0x00 ∷ 0x01 ∷ 0x00 ∷ 0x00 ∷ 0x00 ∷ 0x00 ∷ 0x00 ∷ 0x00 ∷ 0x00 ∷ 0x02 ∷ 0x00 ∷ 0x01 ∷ 0xAA ∷ 0x04 ∷ 0x6B ∷ 0xF7 ∷ []

-- the first with another last byte
abbrev pub damaged_notice : List ℕ
damaged_notice = 0x02 ∷ 0x01 ∷ 0x00 ∷ 0x01 ∷ 0x00 ∷ 0x01 ∷ 0x00 ∷ 0x00 ∷ 0x00 ∷ 0x00 ∷ 0x00 ∷ 0x00 ∷ 0x00 ∷ 0x02 ∷ 0x00 ∷ 0xAA ∷ 0x05 ∷ []

pub record WorkedPackets : Type 0 where
  pub sent : encode 2 (notice_by (0 ∷ [])) ≡ sent_notice
  pub relayed : encode 2 (notice_by (0 ∷ 1 ∷ [])) ≡ relayed_notice
  pub sent_read : decode 2 sent_notice ≡ Ok (notice_by (0 ∷ []))
  pub relayed_read : decode 2 relayed_notice ≡ Ok (notice_by (0 ∷ 1 ∷ []))
  pub sent_held : tags_hold books (notice_by (0 ∷ [])) ≡ true
  pub relayed_held : tags_hold books (notice_by (0 ∷ 1 ∷ [])) ≡ true
  pub damaged_read : decode 2 damaged_notice ≡ Ok (parts_in 2 damaged_notice)
  pub damaged_not_held : tags_hold books (parts_in 2 damaged_notice) ≡ false
