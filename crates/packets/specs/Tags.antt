-- The tags of a packet, for a seal that gives each station a tag over bytes.
use Rattle.std.specs.Prelude.{ℕ, zero, suc, ◌+◌, Bool, true, ◌&&◌, List, [], ◌∷◌, ◌++◌, length, take, ◌==◌, slice_index}
use Rattle.packets.specs.declared.header.Header.{Header}
use Rattle.packets.specs.Form.{Parts, parts_of, head_bytes}

-- what tag i seals, counted from 1: bytes 0 to 13 with i in byte 1, and the first i stations
abbrev pub sealed_bytes : Header → List ℕ → ℕ → List ℕ
sealed_bytes h t i = head_bytes h i ++ take i t

-- the tag of the station at place i of the path, counted from 0
abbrev pub tag_for : (ℕ → List ℕ → ℕ) → Header → List ℕ → ℕ → ℕ
tag_for tag h t i = tag (slice_index t i) (sealed_bytes h t (i + 1))

-- the tags of the first i stations
abbrev pub tags_for : (ℕ → List ℕ → ℕ) → Header → List ℕ → ℕ → List ℕ
tags_for tag h t zero = []
tags_for tag h t (suc i) = tags_for tag h t i ++ (tag_for tag h t i ∷ [])

-- the packet that says h and has passed the stations t, each of which sealed it
abbrev pub sealed_parts : (ℕ → List ℕ → ℕ) → Header → List ℕ → Parts
sealed_parts tag h t = parts_of h t (tags_for tag h t (length t))

-- whether the first i tags of a packet are the seal's
abbrev pub hold_to : (ℕ → List ℕ → ℕ) → Parts → ℕ → Bool
hold_to tag p zero = true
hold_to tag p (suc i) = hold_to tag p i && slice_index p.tags i == tag_for tag p.header p.path i

-- whether every station on the path has the tag that the seal gives it
abbrev pub tags_hold : (ℕ → List ℕ → ℕ) → Parts → Bool
tags_hold tag p = hold_to tag p (length p.path)
