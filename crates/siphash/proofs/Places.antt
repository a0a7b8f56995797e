-- Words of a message: how the code reads them.
use Rattle.std.proofs.Common.{◌≡◌, ℕ, zero, suc, ◌+◌, ◌*◌, ◌%◌, ◌^◌, ◌<◌, ◌≤◌, List, [], ◌∷◌, length, reverse, get_or, take, drop, refl, ap, ◌∙◌, pow-suc, arith, lit<}
use native.Mathlib.Nat.{one-le-pow}
use Rattle.std.specs.List.{fold}
use Rattle.std.proofs.lemmas.List.{drop-drop, reverse-append}
use Rattle.std.proofs.lemmas.List.Sums.{fold-append}
use Rattle.std.specs.Simd.{first_chunks}
use Rattle.siphash.specs.SipHash.{little}

-- bytes below 256, as many as n or fewer
pub little-small : (bs : List ℕ) (n : ℕ) → ((i : ℕ) → get_or bs i 0 < 256) → length bs ≤ n → little bs < 256 ^ n
little-small [] n bytes h = one-le-pow n 256 (lit< tt)
little-small (b ∷ bs) zero bytes h = absurd (omega arith)
little-small (b ∷ bs) (suc n) bytes h =
    let below = little-small bs n (λ i. bytes (suc i)) (omega arith) in
    omega (arith, below, bytes 0, pow-suc 256 n)

-- one byte more at the low end of a word
abbrev pub taken_in : ℕ → ℕ → ℕ
taken_in n b = n * 256 % 2 ^ 64 + b

-- up to seven bytes, taken in from the last to the first
pub little-fold : (bs : List ℕ) → ((i : ℕ) → get_or bs i 0 < 256) → length bs ≤ 7 → fold taken_in 0 (reverse bs) ≡ little bs
little-fold [] bytes h = refl
little-fold (b ∷ bs) bytes h =
    let before = little-fold bs (λ i. bytes (suc i)) (omega arith) in
    let small = little-small bs 6 (λ i. bytes (suc i)) (omega arith) in
    let last : taken_in (little bs) b ≡ little (b ∷ bs) = omega (arith, small) in
    ap (fold taken_in 0) (reverse-append (b ∷ []) bs) ∙ fold-append taken_in 0 (reverse bs) (b ∷ []) ∙ ap (λ n. taken_in n b) before ∙ last

-- a whole word of a message
pub get_or-first_chunks : (n i : ℕ) (m d : List ℕ) → i < n → get_or (first_chunks 8 n m) i d ≡ take 8 (drop (8 * i) m)
get_or-first_chunks zero i m d h = absurd (omega arith)
get_or-first_chunks (suc n) zero m d h = refl
get_or-first_chunks (suc n) (suc i) m d h =
    get_or-first_chunks n i (drop 8 m) d (omega arith)
    ∙ ap (take 8) (drop-drop (8 * i) 8 m ∙ ap (λ k. drop k m) (omega arith))
