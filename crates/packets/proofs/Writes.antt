-- Lists written over a part of another.
use Rattle.std.proofs.Common.{◌≡◌, ℕ, zero, suc, ◌+◌, ◌/◌, ◌%◌, ◌≤◌, List, [], ◌++◌, length, take, drop, sym, refl, ap, ◌∙◌, add-zero, add_assoc, add-one, arith}
use borrow.Rule.Slice.PartMut.{put_mid}
use Rattle.std.proofs.lemmas.List.{append-nil, drop_all, length-drop, append_assoc, take-append-drop, take_at, drop_at, drop-drop, length-append, length-take-le, length_push}
use Rattle.packets.specs.Bytes.{bytes_of, over}

pub bytes_of-length : (w n : ℕ) → length (bytes_of w n) ≡ w
bytes_of-length zero n = refl
bytes_of-length (suc w) n = length_push (bytes_of w (n / 256)) (n % 256) ∙ ap (λ k. k + 1) (bytes_of-length w (n / 256)) ∙ add-one w

pub over_none : (xs : List ℕ) (at : ℕ) → over xs at [] ≡ xs
unfolding over
over_none xs at = ap (λ n. take at xs ++ drop n xs) (add-zero at) ∙ take-append-drop at xs

module _ (xs : List ℕ) (at : ℕ) (ys : List ℕ) (fits : at + length ys ≤ length xs) where
  -- what is written is front, part and rest
  front_long : length (take at xs ++ ys) ≡ at + length ys
  front_long = length-append (take at xs) ys ∙ ap (λ n. n + length ys) (length-take-le at xs (omega arith))

  pub over-take : take (at + length ys) (over xs at ys) ≡ take at xs ++ ys
  unfolding over
  over-take = ap (take (at + length ys)) (sym (append_assoc (take at xs) ys (drop (at + length ys) xs))) ∙ take_at (take at xs ++ ys) (drop (at + length ys) xs) (at + length ys) front_long

  pub over-drop : drop (at + length ys) (over xs at ys) ≡ drop (at + length ys) xs
  unfolding over
  over-drop = ap (drop (at + length ys)) (sym (append_assoc (take at xs) ys (drop (at + length ys) xs))) ∙ drop_at (take at xs ++ ys) (drop (at + length ys) xs) (at + length ys) front_long

  -- one part after another is one part
  pub over-over : (zs : List ℕ) (n : ℕ) → n ≡ at + length ys → over (over xs at ys) n zs ≡ over xs at (ys ++ zs)
  unfolding over
  over-over zs n e =
      let p = at + length ys in
      let rest : drop (p + length zs) (over xs at ys) ≡ drop (at + length (ys ++ zs)) xs =
      sym (drop-drop (length zs) p (over xs at ys)) ∙ ap (drop (length zs)) over-drop ∙ drop-drop (length zs) p xs ∙ ap (λ k. drop k xs) (add_assoc at (length ys) (length zs) ∙ ap (λ k. at + k) (sym (length-append ys zs))) in
      ap (λ k. over (over xs at ys) k zs) e ∙ ap (λ us. us ++ (zs ++ drop (p + length zs) (over xs at ys))) over-take ∙ ap (λ us. (take at xs ++ ys) ++ (zs ++ us)) rest ∙ append_assoc (take at xs) ys (zs ++ drop (at + length (ys ++ zs)) xs) ∙ ap (λ us. take at xs ++ us) (sym (append_assoc ys zs (drop (at + length (ys ++ zs)) xs)))

-- a part that was copied
pub over-part : (xs : List ℕ) (at n : ℕ) (ys zs : List ℕ) → ys ≡ zs → n ≡ length zs → put_mid at n xs ys ≡ over xs at zs
unfolding over
over-part xs at n ys zs e l = ap (λ us. take at xs ++ (us ++ drop n (drop at xs))) e ∙ ap (λ us. take at xs ++ (zs ++ us)) (drop-drop n at xs ∙ ap (λ k. drop (at + k) xs) l)

-- one write more
pub over-more : (xs zs : List ℕ) (at : ℕ) (ys more : List ℕ) (n : ℕ) → zs ≡ over xs at ys → at + length ys ≤ length xs → n ≡ at + length ys → over zs n more ≡ over xs at (ys ++ more)
over-more xs zs at ys more n e fits place = ap (λ us. over us n more) e ∙ over-over xs at ys fits more n place

pub over-length : (xs : List ℕ) (at : ℕ) (ys : List ℕ) → at + length ys ≤ length xs → length (over xs at ys) ≡ length xs
unfolding over
over-length xs at ys fits =
    let front = length-take-le at xs (omega arith) in
    let rest = length-drop (at + length ys) xs in
    let behind = length-append ys (drop (at + length ys) xs) in
    length-append (take at xs) (ys ++ drop (at + length ys) xs) ∙ omega arith

-- a buffer that is written over from end to end
pub over-whole : (xs ys : List ℕ) → length ys ≡ length xs → over xs 0 ys ≡ ys
unfolding over
over-whole xs ys e = ap (λ us. ys ++ us) (drop_all (0 + length ys) xs (omega arith)) ∙ append-nil ys
