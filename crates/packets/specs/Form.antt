-- The byte form of a packet, for tags of w bytes.
use Rattle.std.specs.Prelude.{ℕ, zero, suc, ◌+◌, ◌*◌, ◌≤◌, List, [], ◌∷◌, ◌++◌, length, take, drop, slice_index}
use Rattle.packets.specs.declared.header.Header.{Header}
use Rattle.packets.specs.Headers.{header_of}
use Rattle.packets.specs.Bytes.{bytes_of, number_at}

-- what stands in a packet: its header, the stations of its path, and a tag of each of them
pub record Parts : Type 0 where
  pub header : Header
  pub path : List ℕ
  pub tags : List ℕ

abbrev pub parts_of : Header → List ℕ → List ℕ → Parts
parts_of h t tags = record { header = h; path = t; tags = tags }

-- bytes 0 to 13, with k in byte 1
unfoldable pub head_bytes : Header → ℕ → List ℕ
head_bytes h k = h.kind ∷ k ∷ (bytes_of 2 h.sounding ++ (bytes_of 2 h.level ++ bytes_of 8 h.value))

-- tags, one after another
abbrev pub tag_bytes : ℕ → List ℕ → List ℕ
tag_bytes w [] = []
tag_bytes w (x ∷ xs) = bytes_of w x ++ tag_bytes w xs

-- the packet as bytes
unfoldable pub encode : ℕ → Parts → List ℕ
encode w p = head_bytes p.header (length p.path) ++ (p.path ++ tag_bytes w p.tags)

-- how long a packet with a path of k stations is
abbrev pub packet_length : ℕ → ℕ → ℕ
packet_length w k = 14 + k * (1 + w)

-- The parts by their places in the bytes.

abbrev pub count_in : List ℕ → ℕ
count_in b = slice_index b 1

-- the bytes hold the whole packet that they begin with, whose path is not too long
abbrev pub Whole : ℕ → List ℕ → Type 0
Whole w b = (count_in b ≤ 4) × (packet_length w (count_in b) ≤ length b)

abbrev pub header_in : List ℕ → Header
header_in b = header_of (slice_index b 0) (number_at 2 2 b) (number_at 2 4 b) (number_at 8 6 b)

abbrev pub path_in : List ℕ → List ℕ
path_in b = take (count_in b) (drop 14 b)

-- tag i, counted from 0
abbrev pub tag_in : ℕ → List ℕ → ℕ → ℕ
tag_in w b i = number_at w (14 + count_in b + i * w) b

-- the first i tags
abbrev pub tags_in : ℕ → List ℕ → ℕ → List ℕ
tags_in w b zero = []
tags_in w b (suc i) = tags_in w b i ++ (tag_in w b i ∷ [])

abbrev pub parts_in : ℕ → List ℕ → Parts
parts_in w b = parts_of (header_in b) (path_in b) (tags_in w b (count_in b))
