-- What the calls answer, and what they leave.
use Rattle.std.specs.Prelude.{◌≡◌, ℕ, ◌+◌, ◌≤◌, cond, not, ◌&&◌, List, [], ◌∷◌, ◌++◌, length, take, drop, Some, None, Ok, Err, Option, Result, ◌==◌, nat_le, nat_lt}
use Rattle.paths.specs.Paths.{row_stations}
use Rattle.paths.specs.declared.row.Row.{Row}
use Rattle.packets.specs.declared.packet.Packet.{Packet}
use Rattle.packets.specs.declared.packet.Front.{Front}
use Rattle.packets.specs.declared.packet.Malformed.{Malformed}
use Rattle.packets.specs.declared.packet.Malformed.TheVariants.{TooShort, PathLength, WrongLength}
use Rattle.packets.specs.Bytes.{over}
use Rattle.packets.specs.Form.{Parts, parts_of, encode, count_in, path_in, parts_in, packet_length}

-- Writing.

-- how long a packet is whose path names k stations, where there are such paths
abbrev pub length_for : ℕ → ℕ → Option ℕ
length_for w k = cond (nat_le 1 k && nat_le k 4) (Some (packet_length w k)) None

-- what writing a packet at a place answers, and the buffer after it
abbrev pub placed : ℕ → Parts → ℕ → List ℕ → Option ℕ × List ℕ
placed w p at out =
    cond (nat_le (at + packet_length w (length p.path)) (length out))
    (Some (packet_length w (length p.path)), over out at (encode w p))
    (None, out)

-- Reading.

-- what stands in a packet that was read: as many tags as stations, at most four
abbrev pub parts : Packet → Parts
parts p = parts_of p.header (row_stations p.row) (take p.row.len p.tags)

abbrev pub front_parts : Result Front Malformed → Result (Parts × ℕ) Malformed
front_parts (Err e) = Err e
front_parts (Ok f) = Ok (parts f.packet, f.used)

-- the path in bytes as a row, with zeros behind it
abbrev pub row_in : List ℕ → Row
row_in b = record { numbers = path_in b ++ drop (length (path_in b)) (0 ∷ 0 ∷ 0 ∷ 0 ∷ []); len = count_in b }

-- a row is the path in bytes, with zeros behind it
unfoldable pub RowRead : List ℕ → Row → Type 0
RowRead b r = r ≡ row_in b

-- the packet at the front of bytes, and how many of them it takes
abbrev pub decode_front : ℕ → List ℕ → Result (Parts × ℕ) Malformed
decode_front w b =
    cond (nat_lt (length b) 15) (Err TooShort)
    (cond (not (nat_le 1 (count_in b) && nat_le (count_in b) 4)) (Err PathLength)
    (cond (nat_lt (length b) (packet_length w (count_in b))) (Err WrongLength)
    (Ok (parts_in w b, packet_length w (count_in b)))))

abbrev pub read_parts : Result Packet Malformed → Result Parts Malformed
read_parts (Err e) = Err e
read_parts (Ok p) = Ok (parts p)

-- nothing may follow
abbrev pub alone : ℕ → Result (Parts × ℕ) Malformed → Result Parts Malformed
alone n (Err e) = Err e
alone n (Ok f) = cond (f.1 == n) (Ok f.0) (Err WrongLength)

-- the packet that bytes are
abbrev pub decode : ℕ → List ℕ → Result Parts Malformed
decode w b = alone (length b) (decode_front w b)

-- a packet that was written ends within the buffer
abbrev pub WrittenWithin : ℕ → List ℕ → Option ℕ → Type 0
WrittenWithin at out None = Unit {0}
WrittenWithin at out (Some n) = at + n ≤ length out

-- the path of a packet that was read stands in its row
abbrev pub ReadWithin : List ℕ → Result Packet Malformed → Type 0
ReadWithin b (Err e) = Unit {0}
ReadWithin b (Ok p) = RowRead b p.row × (p.row.len ≤ 4)

-- and at the front of bytes the packet ends within them
abbrev pub FrontWithin : List ℕ → Result Front Malformed → Type 0
FrontWithin b (Err e) = Unit {0}
FrontWithin b (Ok f) = RowRead b f.packet.row × (f.packet.row.len ≤ 4) × (f.used ≤ length b)
