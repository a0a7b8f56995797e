-- The parts of a packet's byte form, and their lengths.
use Rattle.std.proofs.Common.{◌≡◌, ℕ, zero, suc, ◌+◌, ◌*◌, ◌<◌, ◌≤◌, List, [], ◌∷◌, ◌++◌, length, sym, refl, ap, ◌∙◌, mul-le-mul_right, add-mul, one-mul, zero-mul, mul-one, mul-add, add-one, arith}
use Rattle.std.proofs.lemmas.List.{append_assoc, append-nil, length-append, length_push}
use Rattle.packets.specs.declared.header.Header.{Header}
use Rattle.packets.specs.Bytes.{bytes_of}
use Rattle.packets.specs.Form.{Parts, head_bytes, tag_bytes, encode, packet_length, tag_in, tags_in}
use Rattle.packets.specs.Tags.{tag_for, tags_for}
use Rattle.packets.proofs.Writes.{bytes_of-length}

-- i + 1 parts of w bytes
pub parts_more : (i w : ℕ) → (i + 1) * w ≡ i * w + w
parts_more i w = add-mul i 1 w ∙ ap (λ n. i * w + n) (one-mul w)

-- i parts of w bytes, and one more, are within k of them
pub parts_within : (i k w : ℕ) → i < k → i * w + w ≤ k * w
parts_within i k w h = let e : i + 1 ≤ k = omega arith in omega (arith, parts_more i w, mul-le-mul_right w e)

pub packet_length-is : (w k : ℕ) → packet_length w k ≡ 14 + (k + k * w)
packet_length-is w k = ap (λ n. 14 + n) (mul-add k 1 w ∙ ap (λ n. n + k * w) (mul-one k))

pub head_bytes-length : (h : Header) (i : ℕ) → length (head_bytes h i) ≡ 14
unfolding head_bytes
head_bytes-length h i = refl

-- Tags as bytes.

pub tag_bytes-push : (w : ℕ) (xs : List ℕ) (x : ℕ) → tag_bytes w (xs ++ x ∷ []) ≡ tag_bytes w xs ++ bytes_of w x
tag_bytes-push w [] x = append-nil (bytes_of w x)
tag_bytes-push w (y ∷ xs) x =
    ap (λ us. bytes_of w y ++ us) (tag_bytes-push w xs x) ∙ sym (append_assoc (bytes_of w y) (tag_bytes w xs) (bytes_of w x))

pub tag_bytes-length : (w : ℕ) (xs : List ℕ) → length (tag_bytes w xs) ≡ length xs * w
tag_bytes-length w [] = sym (zero-mul w)
tag_bytes-length w (x ∷ xs) =
    let one = bytes_of-length w x in
    let rest = tag_bytes-length w xs in
    let both = length-append (bytes_of w x) (tag_bytes w xs) in
    let count : suc (length xs) ≡ length xs + 1 = omega arith in
    let parts : suc (length xs) * w ≡ length xs * w + w = ap (λ n. n * w) count ∙ parts_more (length xs) w in
    omega arith

pub encode-length : (w : ℕ) (p : Parts) → length p.tags ≡ length p.path → length (encode w p) ≡ packet_length w (length p.path)
unfolding encode
encode-length w p as_many =
    let k = length p.path in
    let tags = tag_bytes w p.tags in
    let head = head_bytes-length p.header k in
    let all = length-append (head_bytes p.header k) (p.path ++ tags) in
    let rest = length-append p.path tags in
    let wide : length tags ≡ k * w = tag_bytes-length w p.tags ∙ ap (λ n. n * w) as_many in
    let parts = packet_length-is w k in
    omega arith

-- The seal's tags.

module _ (tag : ℕ → List ℕ → ℕ) (h : Header) (t : List ℕ) where
  pub tags_for-more : (i : ℕ) → tags_for tag h t (i + 1) ≡ tags_for tag h t i ++ tag_for tag h t i ∷ []
  tags_for-more i = ap (tags_for tag h t) (add-one i)

  pub tags_for-length : (i : ℕ) → length (tags_for tag h t i) ≡ i
  tags_for-length zero = refl
  tags_for-length (suc i) = length_push (tags_for tag h t i) (tag_for tag h t i) ∙ ap (λ n. n + 1) (tags_for-length i) ∙ add-one i

-- Tags that were read.

module _ (w : ℕ) (b : List ℕ) where
  pub tags_in-length : (i : ℕ) → length (tags_in w b i) ≡ i
  tags_in-length zero = refl
  tags_in-length (suc i) = length_push (tags_in w b i) (tag_in w b i) ∙ ap (λ n. n + 1) (tags_in-length i) ∙ add-one i
