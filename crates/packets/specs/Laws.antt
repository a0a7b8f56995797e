-- What holds of the byte form and of the seal's tags.
use Rattle.std.specs.Prelude.{◌≡◌, ℕ, ◌+◌, ◌<◌, true, List, [], ◌∷◌, ◌++◌, length, take, drop, Some, None, Ok, Err, Option, Result}
use Rattle.std.specs.List.{AllByRecursion}
use Rattle.packets.specs.declared.header.Header.{Header}
use Rattle.packets.specs.declared.packet.Malformed.{Malformed}
use Rattle.packets.specs.Form.{Parts, encode, packet_length}
use Rattle.packets.specs.Tags.{sealed_bytes, tags_for, sealed_parts, tags_hold}
use Rattle.packets.specs.Calls.{decode_front, decode}

-- each is below 256
abbrev pub Bytes : List ℕ → Type 0
Bytes b = AllByRecursion (λ x. x < 256) b

-- What was written reads as the packet that it was, also where other bytes follow, and its tags are the seal's. Whoever relays
-- it keeps its tags and adds one.
pub record ReadsBack (w : ℕ) (tag : ℕ → List ℕ → ℕ) (h : Header) (t : List ℕ) : Type 0 where
  pub long : length (encode w (sealed_parts tag h t)) ≡ packet_length w (length t)
  pub front : (rest : List ℕ) → decode_front w (encode w (sealed_parts tag h t) ++ rest) ≡ Ok (sealed_parts tag h t, packet_length w (length t))
  pub whole : decode w (encode w (sealed_parts tag h t)) ≡ Ok (sealed_parts tag h t)
  pub tags : tags_hold tag (sealed_parts tag h t) ≡ true
  pub relayed : (q : ℕ) → tags_for tag h (t ++ q ∷ []) (length t + 1) ≡ tags_for tag h t (length t) ++ tag q (sealed_bytes h (t ++ q ∷ []) (length t + 1)) ∷ []

-- At a place of a buffer stands a packet: reading there gives it, and says how long it is.
unfoldable pub Stands : ℕ → Parts → ℕ → List ℕ → Type 0
Stands w p at b = decode_front w (drop at b) ≡ Ok (p, packet_length w (length p.path))

-- What a write that was not refused leaves.
abbrev pub WrittenBack : ℕ → (ℕ → List ℕ → ℕ) → Header → List ℕ → ℕ → List ℕ → Option ℕ → Type 0
WrittenBack w tag h t at new None = Unit {0}
WrittenBack w tag h t at new (Some n) = ReadsBack w tag h t × Stands w (sealed_parts tag h t) at new

-- A packet whose tags hold is what its stations make of its header.
abbrev pub MadeByStations : (ℕ → List ℕ → ℕ) → Parts → Type 0
MadeByStations tag p = tags_hold tag p ≡ true → p ≡ sealed_parts tag p.header p.path

-- What was read has those bytes as its form, and no other bytes read as the same packet. Where its tags are the seal's, the
-- bytes are what the writer makes of its header and path, and other bytes that begin with the same header and path, so
-- that they differ in the tags alone, do not have the seal's tags.
pub record OneForm (w : ℕ) (b : List ℕ) (p : Parts) : Type 0 where
  pub form : encode w p ≡ b
  pub only : (other : List ℕ) → Bytes other → decode w other ≡ Ok p → other ≡ b
  pub made : (tag : ℕ → List ℕ → ℕ) → tags_hold tag p ≡ true → b ≡ encode w (sealed_parts tag p.header p.path)
  pub tampered : (tag : ℕ → List ℕ → ℕ) (other : List ℕ) (q : Parts) → tags_hold tag p ≡ true → Bytes other → decode w other ≡ Ok q → take (14 + length p.path) other ≡ take (14 + length p.path) b → tags_hold tag q ≡ true → other ≡ b

abbrev pub ReadForm : ℕ → List ℕ → Result Parts Malformed → Type 0
ReadForm w b (Err e) = Unit {0}
ReadForm w b (Ok p) = OneForm w b p

-- What was read at the front of bytes has as its form those bytes that it takes, and where it takes all, this is its one form.
abbrev pub FrontForm : ℕ → List ℕ → Result (Parts × ℕ) Malformed → Type 0
FrontForm w b (Err e) = Unit {0}
FrontForm w b (Ok f) = (encode w f.0 ≡ take f.1 b) × (f.1 ≡ length b → OneForm w b f.0)
