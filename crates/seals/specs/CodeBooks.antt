-- The tag of the code-book seal.
use Rattle.std.specs.Prelude.{ℕ, ◌+◌, ◌*◌, ◌/◌, ◌%◌, ◌^◌, ◌<◌, true, false, cond, List, [], ◌∷◌, bit_xor, nat_lt, slice_index}
use Rattle.std.specs.Int.{w16, rotate_left}
use Rattle.std.proofs.Common.{arith, lit<}
use Rattle.std.proofs.lemmas.Nat.{or_lt, xor_lt}

-- the word of byte b in the book of station j, 16 bits; a word past the end of the books counts as 0
abbrev pub word_of : List ℕ → ℕ → ℕ → ℕ
word_of books j b = slice_index books (256 * j + b) % 2 ^ 16

-- a tag rotated, then combined with a word
abbrev pub mixed : ℕ → ℕ → ℕ
mixed t word = bit_xor (rotate_left w16 t 1) word

-- the tag t carried on over a message, byte by byte
abbrev pub carried : List ℕ → ℕ → ℕ → List ℕ → ℕ
carried books j t [] = t
carried books j t (b ∷ m) = carried books j (mixed t (word_of books j b)) m

-- the tag of station j over the message m: it starts at 0, and a number above 6 has the tag 0
abbrev pub book_tag : List ℕ → ℕ → List ℕ → ℕ
book_tag books j m = cond (nat_lt 6 j) 0 (carried books j 0 m)

-- A tag has 16 bits.

pub mixed-fits : (t word : ℕ) → t < 2 ^ 16 → word < 2 ^ 16 → mixed t word < 2 ^ 16
mixed-fits t word h k =
    xor_lt 16 (rotate_left w16 t 1) word (or_lt 16 (t * 2 % 2 ^ 16) (t / 2 ^ 15) (omega arith) (omega arith)) k

pub carried-fits : (books : List ℕ) (j t : ℕ) (m : List ℕ) → t < 2 ^ 16 → carried books j t m < 2 ^ 16
carried-fits books j t [] h = h
carried-fits books j t (b ∷ m) h =
    carried-fits books j (mixed t (word_of books j b)) m (mixed-fits t (word_of books j b) h (omega arith))

pub book_tag-fits : (books : List ℕ) (j : ℕ) (m : List ℕ) → book_tag books j m < 256 ^ 2
book_tag-fits books j m =
    elim (nat_lt 6 j) as (λ v. cond v 0 (carried books j 0 m) < 256 ^ 2) [ true ↦ lit< tt | false ↦ carried-fits books j 0 m (lit< tt) ]
