-- SipHash-2-4: the hash of a message, a number of 64 bits, under a key of 16 bytes.
use Rattle.std.specs.Prelude.{ℕ, zero, suc, ◌+◌, ◌*◌, ◌/◌, ◌%◌, ◌^◌, ◌<◌, List, [], ◌∷◌, length, take, drop, bit_xor}
use Rattle.std.specs.Int.{w64, rotate_left}
use Rattle.std.proofs.Common.{arith}
use Rattle.siphash.specs.declared.key.Key.{Key}
use Rattle.siphash.specs.declared.state.State.{State}

-- Words.

-- bytes as a number, the low byte first
abbrev pub little : List ℕ → ℕ
little [] = 0
little (b ∷ bs) = b + 256 * little bs

-- the i-th word of eight bytes, counted from 0
abbrev pub word_at : List ℕ → ℕ → ℕ
word_at m i = little (take 8 (drop (8 * i) m))

-- the last word: the bytes behind the whole words, zeros, and as the high byte the message's length modulo 256
abbrev pub last_word : List ℕ → ℕ
last_word m = little (drop (8 * (length m / 8)) m) + (length m % 256) * 2 ^ 56

-- the sum of two words
abbrev pub sum : ℕ → ℕ → ℕ
sum a b = (a + b) % 2 ^ 64

-- Rounds.

-- half a round: v1 is rotated by k bits and v3 by l
abbrev pub half_round : ℕ → ℕ → State → State
half_round k l s = record {
  v0 = rotate_left w64 (sum s.v0 s.v1) 32;
  v1 = bit_xor (rotate_left w64 s.v1 k) (sum s.v0 s.v1);
  v2 = sum s.v2 s.v3;
  v3 = bit_xor (rotate_left w64 s.v3 l) (sum s.v2 s.v3);
}

-- v0 and v2 exchanged
abbrev pub crossed : State → State
crossed s = record { v0 = s.v2; v1 = s.v1; v2 = s.v0; v3 = s.v3 }

unfoldable pub round : State → State
round s = crossed (half_round 17 21 (crossed (half_round 13 16 s)))

-- The message, word by word.

-- a key from its 16 bytes
abbrev pub key_of : List ℕ → Key
key_of bs = record { k0 = word_at bs 0; k1 = word_at bs 1 }

-- the state before the first word
abbrev pub start : Key → State
start k = record {
  v0 = bit_xor k.k0 0x736f6d6570736575;
  v1 = bit_xor k.k1 0x646f72616e646f6d;
  v2 = bit_xor k.k0 0x6c7967656e657261;
  v3 = bit_xor k.k1 0x7465646279746573;
}

abbrev pub into_v0 : State → ℕ → State
into_v0 s m = record { v0 = bit_xor s.v0 m; v1 = s.v1; v2 = s.v2; v3 = s.v3 }

abbrev pub into_v2 : State → ℕ → State
into_v2 s m = record { v0 = s.v0; v1 = s.v1; v2 = bit_xor s.v2 m; v3 = s.v3 }

abbrev pub into_v3 : State → ℕ → State
into_v3 s m = record { v0 = s.v0; v1 = s.v1; v2 = s.v2; v3 = bit_xor s.v3 m }

-- a word goes into v3, two rounds follow, and it goes into v0
unfoldable pub compress : State → ℕ → State
compress s m = into_v0 (round (round (into_v3 s m))) m

-- the state after the first n words of a message
abbrev pub absorbed : State → List ℕ → ℕ → State
absorbed s m zero = s
absorbed s m (suc n) = compress (absorbed s m n) (word_at m n)

-- the four words combined to 64 bits
abbrev pub combined : State → ℕ
combined s = bit_xor (bit_xor (bit_xor s.v0 s.v1) s.v2) s.v3 % 2 ^ 64

-- 255 goes into v2, four rounds follow, and the words are combined
abbrev pub finish : State → ℕ
finish s = combined (round (round (round (round (into_v2 s 255)))))

-- the hash of a message: its whole words, then the last word
abbrev pub sip_hash : Key → List ℕ → ℕ
sip_hash k m = finish (compress (absorbed (start k) m (length m / 8)) (last_word m))

-- A hash has 64 bits.

pub finish-fits : (s : State) → finish s < 2 ^ 64
finish-fits s = omega arith
