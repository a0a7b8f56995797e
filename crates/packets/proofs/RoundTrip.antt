-- What was written is what is read.
use Rattle.std.proofs.Common.{◌≡◌, ℕ, zero, suc, ◌+◌, ◌*◌, ◌^◌, ◌<◌, ◌≤◌, true, List, [], ◌∷◌, ◌++◌, length, get_or, take, drop, Ok, sym, refl, ap, ◌∙◌, ⊎_elim, zero-mul, add-one, arith}
use Rattle.std.specs.Int.Digits.{number_from_digits}
use Rattle.std.specs.List.{AllByRecursion}
use Rattle.std.proofs.lemmas.List.{append_assoc, append-nil, length-append, length-take-le, take_at, drop_at, drop-drop, take_all, take-append-le, take_more, get_or_append_left, get_or_at}
use Rattle.std.proofs.ByRecursion.{All-get_or, All-push}
use Rattle.std.proofs.lemmas.Bool.{cases_eq, and_from, cond-true, cond-false, eq-eqb, le-leb, le-ltb, not_from_true}
use Rattle.packets.specs.declared.header.Header.{Header}
use Rattle.packets.specs.Bytes.{bytes_of, number_at, over}
use Rattle.packets.specs.Headers.{header_of}
use Rattle.packets.specs.Form.{Parts, parts_of, head_bytes, tag_bytes, encode, packet_length, count_in, header_in, path_in, tag_in, tags_in, parts_in}
use Rattle.packets.specs.Tags.{sealed_bytes, tag_for, tags_for, sealed_parts, hold_to, tags_hold}
use Rattle.packets.specs.Calls.{decode_front, decode, alone}
use Rattle.packets.specs.Laws.{ReadsBack, Stands}
use Rattle.packets.proofs.Writes.{bytes_of-length}
use Rattle.packets.proofs.Numbers.{number-bytes_of}
use Rattle.packets.proofs.Forms.{parts_more, packet_length-is, head_bytes-length, encode-length, tags_for-more, tags_for-length}

-- the numbers of a header fit their bytes
pub record Fitting (h : Header) : Type 0 where
  pub kind : h.kind < 2 ^ 8
  pub sounding : h.sounding < 2 ^ 16
  pub level : h.level < 2 ^ 16
  pub value : h.value < 2 ^ 64

-- A packet that fits its bytes: the numbers of its header, the length of its path, and a tag for each station.

pub record Fits (w : ℕ) (p : Parts) : Type 0 where
  pub header : Fitting p.header
  pub low : 1 ≤ length p.path
  pub high : length p.path ≤ 4
  pub as_many : length p.tags ≡ length p.path
  pub tags : AllByRecursion (λ x. x < 256 ^ w) p.tags

-- tag i of a list of tags stands at its place
tag-there : (w : ℕ) (xs : List ℕ) (i : ℕ) (rest : List ℕ) → i < length xs → take w (drop (i * w) (tag_bytes w xs ++ rest)) ≡ bytes_of w (get_or xs i 0)
tag-there w [] i rest l = absurd (omega arith)
tag-there w (x ∷ xs) zero rest l =
    ap (λ n. take w (drop n (tag_bytes w (x ∷ xs) ++ rest))) (zero-mul w) ∙ ap (take w) (append_assoc (bytes_of w x) (tag_bytes w xs) rest) ∙ take_at (bytes_of w x) (tag_bytes w xs ++ rest) w (bytes_of-length w x)
tag-there w (x ∷ xs) (suc i) rest l =
    let all = tag_bytes w (x ∷ xs) ++ rest in
    let place : suc i * w ≡ w + i * w = omega (arith, parts_more i w, ap (λ n. n * w) (add-one i)) in
    let past : drop w all ≡ tag_bytes w xs ++ rest = ap (drop w) (append_assoc (bytes_of w x) (tag_bytes w xs) rest) ∙ drop_at (bytes_of w x) (tag_bytes w xs ++ rest) w (bytes_of-length w x) in
    ap (λ n. take w (drop n all)) place ∙ ap (take w) (sym (drop-drop (i * w) w all) ∙ ap (drop (i * w)) past) ∙ tag-there w xs i rest (omega arith)

module _ (w : ℕ) (p : Parts) (rest : List ℕ) where
  count-back : count_in (encode w p ++ rest) ≡ length p.path
  unfolding encode head_bytes
  count-back = refl

  path-back : path_in (encode w p ++ rest) ≡ p.path
  unfolding encode head_bytes
  path-back =
      let tags = tag_bytes w p.tags in
      ap (take (length p.path)) (append_assoc p.path tags rest) ∙ take_at p.path (tags ++ rest) (length p.path) refl

  header-back : Fitting p.header → header_in (encode w p ++ rest) ≡ p.header
  unfolding encode head_bytes
  header-back f =
      let h = p.header in
      let s : number_from_digits 256 (bytes_of 2 h.sounding) ≡ h.sounding = number-bytes_of 2 h.sounding f.sounding in
      let l : number_from_digits 256 (bytes_of 2 h.level) ≡ h.level = number-bytes_of 2 h.level f.level in
      let v : number_from_digits 256 (bytes_of 8 h.value) ≡ h.value = number-bytes_of 8 h.value f.value in
      let here : header_in (encode w p ++ rest) ≡ header_of h.kind (number_from_digits 256 (bytes_of 2 h.sounding)) (number_from_digits 256 (bytes_of 2 h.level)) (number_from_digits 256 (bytes_of 8 h.value)) = refl in
      here ∙ ap (λ x. header_of h.kind x (number_from_digits 256 (bytes_of 2 h.level)) (number_from_digits 256 (bytes_of 8 h.value))) s ∙ ap (λ x. header_of h.kind h.sounding x (number_from_digits 256 (bytes_of 8 h.value))) l ∙ ap (header_of h.kind h.sounding h.level) v

  rest_back : drop (14 + length p.path) (encode w p ++ rest) ≡ tag_bytes w p.tags ++ rest
  unfolding encode
  rest_back =
      let t = p.path in
      let head = head_bytes p.header (length t) in
      let tags = tag_bytes w p.tags in
      let parts : (head ++ (t ++ tags)) ++ rest ≡ (head ++ t) ++ (tags ++ rest) = simp append_assoc in
      ap (drop (14 + length t)) parts ∙ drop_at (head ++ t) (tags ++ rest) (14 + length t) (length-append head t ∙ ap (λ n. n + length t) (head_bytes-length p.header (length t)))

  module _ (f : Fits w p) where
    tag_back : (i : ℕ) → i < length p.tags → tag_in w (encode w p ++ rest) i ≡ get_or p.tags i 0
    tag_back i l =
        let b = encode w p ++ rest in
        let k = length p.path in
        let fit = All-get_or (λ x. x < 256 ^ w) p.tags i 0 l f.tags in
        ap (λ n. number_at w (14 + n + i * w) b) count-back ∙ ap (λ xs. number_from_digits 256 (take w xs)) (sym (drop-drop (i * w) (14 + k) b) ∙ ap (drop (i * w)) rest_back) ∙ ap (number_from_digits 256) (tag-there w p.tags i rest l) ∙ number-bytes_of w (get_or p.tags i 0) fit

    tags-back : (i : ℕ) → i ≤ length p.tags → tags_in w (encode w p ++ rest) i ≡ take i p.tags
    tags-back zero l = refl
    tags-back (suc i) l =
        let b = encode w p ++ rest in
        let here = tag_back i (omega arith) in
        let before = tags-back i (omega arith) in
        ap (λ xs. xs ++ tag_in w b i ∷ []) before ∙ ap (λ x. take i p.tags ++ x ∷ []) here ∙ sym (take_more p.tags i 0 (omega arith)) ∙ ap (λ n. take n p.tags) (add-one i)

    parts-back : parts_in w (encode w p ++ rest) ≡ p
    parts-back =
        let b = encode w p ++ rest in
        let many = f.as_many in
        let tags : tags_in w b (count_in b) ≡ p.tags = ap (tags_in w b) count-back ∙ tags-back (length p.path) (omega arith) ∙ take_all (length p.path) p.tags (omega arith) in
        ap (λ x. parts_of x (path_in b) (tags_in w b (count_in b))) (header-back f.header) ∙ ap (λ x. parts_of p.header x (tags_in w b (count_in b))) path-back ∙ ap (parts_of p.header p.path) tags

    pub front-back : decode_front w (encode w p ++ rest) ≡ Ok (p, packet_length w (length p.path))
    front-back =
        let b = encode w p ++ rest in
        let n = packet_length w (length p.path) in
        let low = f.low in
        let high = f.high in
        let long = length-append (encode w p) rest in
        let all = encode-length w p f.as_many in
        let parts = packet_length-is w (length p.path) in
        let count = count-back in
        let used : packet_length w (count_in b) ≡ n = ap (packet_length w) count in
        cond-false _ _ _ (le-ltb (length b) 15 (omega arith)) ∙ cond-false _ _ _ (not_from_true _ (and_from _ _ (le-leb 1 (count_in b) (omega arith)) (le-leb (count_in b) 4 (omega arith)))) ∙ cond-false _ _ _ (le-ltb (length b) (packet_length w (count_in b)) (omega arith)) ∙ ap (λ x. Ok (x, packet_length w (count_in b))) parts-back ∙ ap (λ x. Ok (p, x)) used

-- nothing follows
pub whole_back : (w : ℕ) (p : Parts) → Fits w p → decode w (encode w p) ≡ Ok p
whole_back w p f =
    let b = encode w p in
    let front : decode_front w b ≡ Ok (p, packet_length w (length p.path)) = ap (decode_front w) (sym (append-nil b)) ∙ front-back w p [] f in
    ap (alone (length b)) front ∙ cond-true _ _ _ (eq-eqb _ _ (sym (encode-length w p f.as_many)))

-- The packet that the stations of a path make of a header.

module _ (tag : ℕ → List ℕ → ℕ) (h : Header) (t : List ℕ) where
  pub tags_for-at : (k i : ℕ) → i < k → get_or (tags_for tag h t k) i 0 ≡ tag_for tag h t i
  tags_for-at zero i l = absurd (omega arith)
  tags_for-at (suc k) i l =
      let before = tags_for tag h t k in
      let long = tags_for-length tag h t k in
      ⊎_elim
      (λ (e : i ≡ k). get_or_at before (tag_for tag h t k) [] 0 i (long ∙ sym e) ∙ ap (tag_for tag h t) (sym e))
      (λ (e : i ≡ k → ⊥). get_or_append_left before (tag_for tag h t k ∷ []) 0 i (omega arith) ∙ tags_for-at k i (omega arith))
      (cases_eq i k)

  pub sealed-hold_to : (i : ℕ) → i ≤ length t → hold_to tag (sealed_parts tag h t) i ≡ true
  sealed-hold_to zero l = refl
  sealed-hold_to (suc i) l =
      and_from _ _ (sealed-hold_to i (omega arith)) (eq-eqb _ _ (tags_for-at (length t) i (omega arith)))

  tags_for-fit : (w : ℕ) → ((j : ℕ) (m : List ℕ) → tag j m < 256 ^ w) → (i : ℕ) → AllByRecursion (λ x. x < 256 ^ w) (tags_for tag h t i)
  tags_for-fit w fits zero = tt
  tags_for-fit w fits (suc i) = All-push (λ x. x < 256 ^ w) (tags_for tag h t i) (tag_for tag h t i) (tags_for-fit w fits i) (fits (get_or t i 0) (sealed_bytes h t (i + 1)))

old-tags : (tag : ℕ → List ℕ → ℕ) (h : Header) (t : List ℕ) (q i : ℕ) → i ≤ length t → tags_for tag h (t ++ q ∷ []) i ≡ tags_for tag h t i
old-tags tag h t q zero l = refl
old-tags tag h t q (suc i) l =
    let new = t ++ q ∷ [] in
    let station : get_or new i 0 ≡ get_or t i 0 = get_or_append_left t (q ∷ []) 0 i (omega arith) in
    let front : take (i + 1) new ≡ take (i + 1) t = take-append-le (i + 1) t (q ∷ []) (omega arith) in
    let same : tag_for tag h new i ≡ tag_for tag h t i = ap (λ j. tag j (head_bytes h (i + 1) ++ take (i + 1) new)) station ∙ ap (λ xs. tag (get_or t i 0) (head_bytes h (i + 1) ++ xs)) front in
    ap (λ xs. xs ++ tag_for tag h new i ∷ []) (old-tags tag h t q i (omega arith)) ∙ ap (λ n. tags_for tag h t i ++ n ∷ []) same

relayed : (tag : ℕ → List ℕ → ℕ) (h : Header) (t : List ℕ) (q : ℕ) → tags_for tag h (t ++ q ∷ []) (length t + 1) ≡ tags_for tag h t (length t) ++ tag q (sealed_bytes h (t ++ q ∷ []) (length t + 1)) ∷ []
relayed tag h t q =
    let new = t ++ q ∷ [] in
    let k = length t in
    tags_for-more tag h new k ∙ ap (λ xs. xs ++ tag_for tag h new k ∷ []) (old-tags tag h t q k (omega arith)) ∙ ap (λ j. tags_for tag h t k ++ tag j (sealed_bytes h new (k + 1)) ∷ []) (get_or_at t q [] 0 k refl)

pub reads-back : (w : ℕ) (tag : ℕ → List ℕ → ℕ) → ((j : ℕ) (m : List ℕ) → tag j m < 256 ^ w) → (h : Header) (t : List ℕ) → Fitting h → 1 ≤ length t → length t ≤ 4 → ReadsBack w tag h t
reads-back w tag fits h t f low high =
    let p = sealed_parts tag h t in
    let k = length t in
    let fit : Fits w p = record { header = f; low = low; high = high; as_many = tags_for-length tag h t k; tags = tags_for-fit tag h t w fits k } in
    let hold : tags_hold tag p ≡ true = sealed-hold_to tag h t k (omega arith) in
    record {
      long = encode-length w p fit.as_many;
      front = λ rest. front-back w p rest fit;
      whole = whole_back w p fit;
      tags = hold;
      relayed = relayed tag h t;
    }

-- what was written stands where it was written
pub stands-there : (w : ℕ) (tag : ℕ → List ℕ → ℕ) (h : Header) (t : List ℕ) → ReadsBack w tag h t → (at : ℕ) (old new : List ℕ) → at ≤ length old
    → new ≡ over old at (encode w (sealed_parts tag h t)) → Stands w (sealed_parts tag h t) at new
unfolding Stands over
stands-there w tag h t back at old new room wrote =
    let b = encode w (sealed_parts tag h t) in
    let rest = drop (at + length b) old in
    ap (λ xs. decode_front w (drop at xs)) wrote ∙ ap (decode_front w) (drop_at (take at old) (b ++ rest) at (length-take-le at old room)) ∙ back.front rest
