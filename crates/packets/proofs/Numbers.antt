-- Numbers read from bytes.
use Rattle.std.proofs.Common.{◌≡◌, ℕ, zero, suc, ◌+◌, ◌-◌, ◌*◌, ◌/◌, ◌%◌, ◌^◌, ◌<◌, ◌≤◌, List, [], ◌∷◌, ◌++◌, length, get_or, take, drop, sym, refl, ap, ◌∙◌, add-zero, pow-suc, arith, lit<}
use borrow.Rule.Slice.PartMut.{put_mid}
use Rattle.std.proofs.lemmas.Nat.{div_below, div-add-mod', div-mul-add, mod-mul-add}
use Rattle.std.proofs.lemmas.Int.Digits.{number_push}
use Rattle.std.proofs.lemmas.List.{append-nil, append_assoc, length-append, length-drop, length-take-le, drop_all, drop-drop, drop-append-le, take_all}
use Rattle.std.proofs.ByRecursion.{All-take, All-drop}
use Rattle.std.specs.Int.Digits.{number_from_digits, number_from_digits_after}
use Rattle.std.specs.List.{AllByRecursion}
use Rattle.packets.specs.Bytes.{bytes_of, number_at}
use Rattle.packets.proofs.Writes.{bytes_of-length}

-- the low bytes of the eight
bytes_of-tail : (w d n : ℕ) → drop d (bytes_of (d + w) n) ≡ bytes_of w n
bytes_of-tail zero d n = drop_all d (bytes_of (d + 0) n) (omega (arith, bytes_of-length (d + 0) n))
bytes_of-tail (suc w) d n =
    let more : d + suc w ≡ suc (d + w) = omega arith in
    let before = bytes_of (d + w) (n / 256) in
    ap (λ k. drop d (bytes_of k n)) more ∙ drop-append-le d before (n % 256 ∷ []) (omega (arith, bytes_of-length (d + w) (n / 256))) ∙ ap (λ xs. xs ++ n % 256 ∷ []) (bytes_of-tail w d (n / 256))

pub bytes_of-low : (w n : ℕ) → w ≤ 8 → take (8 - (8 - w)) (drop (8 - w) (bytes_of 8 n)) ≡ bytes_of w n
bytes_of-low w n short =
    let all : 8 ≡ (8 - w) + w = omega arith in
    let low : drop (8 - w) (bytes_of 8 n) ≡ bytes_of w n = ap (λ k. drop (8 - w) (bytes_of k n)) all ∙ bytes_of-tail w (8 - w) n in
    ap (take (8 - (8 - w))) low ∙ take_all (8 - (8 - w)) (bytes_of w n) (omega (arith, bytes_of-length w n))

-- what the library says of eight bytes
abbrev high_first : List ℕ → ℕ
high_first xs = get_or xs 0 0 * 72057594037927936 + get_or xs 1 0 * 281474976710656 + get_or xs 2 0 * 1099511627776 + get_or xs 3 0 * 4294967296 + get_or xs 4 0 * 16777216 + get_or xs 5 0 * 65536 + get_or xs 6 0 * 256 + get_or xs 7 0

-- zeros before a number do not count
number-zeros : (xs ys : List ℕ) → AllByRecursion (λ x. x ≡ 0) xs → number_from_digits 256 (xs ++ ys) ≡ number_from_digits 256 ys
number-zeros [] ys z = refl
number-zeros (x ∷ xs) ys z = ap (λ d. number_from_digits_after 256 (0 * 256 + d) (xs ++ ys)) z.0 ∙ number-zeros xs ys z.1

-- the number that eight bytes are
eight : (xs : List ℕ) → length xs ≡ 8 → high_first xs ≡ number_from_digits 256 xs
eight (a ∷ b ∷ c ∷ d ∷ e ∷ f ∷ g ∷ h ∷ []) l = omega arith
eight [] l = absurd (omega arith)
eight (a ∷ []) l = absurd (omega arith)
eight (a ∷ b ∷ []) l = absurd (omega arith)
eight (a ∷ b ∷ c ∷ []) l = absurd (omega arith)
eight (a ∷ b ∷ c ∷ d ∷ []) l = absurd (omega arith)
eight (a ∷ b ∷ c ∷ d ∷ e ∷ []) l = absurd (omega arith)
eight (a ∷ b ∷ c ∷ d ∷ e ∷ f ∷ []) l = absurd (omega arith)
eight (a ∷ b ∷ c ∷ d ∷ e ∷ f ∷ g ∷ []) l = absurd (omega arith)
eight (a ∷ b ∷ c ∷ d ∷ e ∷ f ∷ g ∷ h ∷ i ∷ xs) l = absurd (omega arith)

-- a number whose bytes were copied behind zeros
pub number-padded : (part written : List ℕ) (k r : ℕ) → length part ≤ 8 → k ≡ length part → written ≡ part
    → r ≡ high_first (put_mid (8 - length part) k (0 ∷ 0 ∷ 0 ∷ 0 ∷ 0 ∷ 0 ∷ 0 ∷ 0 ∷ []) written) → r ≡ number_from_digits 256 part
number-padded part written k r short room copied read =
    let w = length part in
    let zeros : List ℕ = 0 ∷ 0 ∷ 0 ∷ 0 ∷ 0 ∷ 0 ∷ 0 ∷ 0 ∷ [] in
    let front : List ℕ = take (8 - w) zeros in
    let short-front : length front ≡ 8 - w = length-take-le (8 - w) zeros (omega arith) in
    let none : drop k (drop (8 - w) zeros) ≡ [] = drop-drop k (8 - w) zeros ∙ drop_all (8 - w + k) zeros (omega arith) in
    let whole : put_mid (8 - w) k zeros written ≡ front ++ part = ap (λ us. front ++ (written ++ us)) none ∙ ap (λ us. front ++ us) (append-nil written ∙ copied) in
    let both = length-append front part in
    read ∙ ap high_first whole ∙ eight (front ++ part) (omega arith) ∙ number-zeros front part (All-take (λ x. x ≡ 0) (8 - w) zeros (refl, (refl, (refl, (refl, (refl, (refl, (refl, (refl, tt)))))))))

-- A number is what its bytes say, and bytes are those of the number that they say.

pub number-bytes_of : (w n : ℕ) → n < 256 ^ w → number_from_digits 256 (bytes_of w n) ≡ n
number-bytes_of zero n h = omega arith
number-bytes_of (suc w) n h =
    let part : n / 256 < 256 ^ w = div_below n 256 (256 ^ w) (lit< tt) (omega (arith, pow-suc 256 w)) in
    number_push 256 (bytes_of w (n / 256)) (n % 256) ∙ ap (λ m. m * 256 + n % 256) (number-bytes_of w (n / 256) part) ∙ div-add-mod' n 256

bytes_of-after : (w n : ℕ) (ds : List ℕ) → AllByRecursion (λ x. x < 256) ds → bytes_of (w + length ds) (number_from_digits_after 256 n ds) ≡ bytes_of w n ++ ds
bytes_of-after w n [] u = ap (λ k. bytes_of k n) (add-zero w) ∙ sym (append-nil (bytes_of w n))
bytes_of-after w n (d ∷ ds) u =
    let turn : w + length (d ∷ ds) ≡ suc w + length ds = omega arith in
    let last : bytes_of (suc w) (n * 256 + d) ≡ bytes_of w n ++ d ∷ [] =
    ap (λ m. bytes_of w m ++ (n * 256 + d) % 256 ∷ []) (div-mul-add n 256 d u.0) ∙ ap (λ m. bytes_of w n ++ m ∷ []) (mod-mul-add n 256 d u.0) in
    ap (λ k. bytes_of k (number_from_digits_after 256 (n * 256 + d) ds)) turn ∙ bytes_of-after (suc w) (n * 256 + d) ds u.1 ∙ ap (λ xs. xs ++ ds) last ∙ append_assoc (bytes_of w n) (d ∷ []) ds

pub bytes_of-number : (w : ℕ) (ds : List ℕ) → length ds ≡ w → AllByRecursion (λ x. x < 256) ds → bytes_of w (number_from_digits 256 ds) ≡ ds
bytes_of-number w ds e u = let z : w ≡ 0 + length ds = omega arith in ap (λ k. bytes_of k (number_from_digits 256 ds)) z ∙ bytes_of-after 0 0 ds u

pub bytes_of-at : (w at : ℕ) (b : List ℕ) → AllByRecursion (λ x. x < 256) b → at + w ≤ length b → bytes_of w (number_at w at b) ≡ take w (drop at b)
bytes_of-at w at b u h =
    bytes_of-number w (take w (drop at b)) (length-take-le w (drop at b) (simp length-drop (omega arith))) (All-take (λ x. x < 256) w (drop at b) (All-drop (λ x. x < 256) at b u))
