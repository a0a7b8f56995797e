-- What was read has the bytes that it was read from as its form.
use Rattle.std.proofs.Common.{◌≡◌, ℕ, zero, suc, ◌+◌, ◌*◌, ◌<◌, ◌≤◌, Bool, true, false, cond, not, ◌&&◌, eqb, ltb, leb, List, [], ◌∷◌, ◌++◌, length, get_or, take, drop, Ok, Err, sym, refl, ap, ◌∙◌, zero-mul, add-one, arith, take_all, take-add}
use Rattle.std.specs.Int.Digits.{number_from_digits}
use Rattle.std.proofs.lemmas.List.{length-take-le, length-drop, drop-drop, take-take, drop-take, take_more, get_or-take}
use Rattle.std.proofs.lemmas.Bool.{and_parts, eqb-true}
use Rattle.packets.specs.declared.packet.Malformed.TheVariants.{TooShort, PathLength, WrongLength}
use Rattle.packets.specs.Bytes.{bytes_of, number_at}
use Rattle.packets.specs.Headers.{header_of}
use Rattle.packets.specs.Form.{Parts, parts_of, head_bytes, tag_bytes, encode, packet_length, count_in, header_in, path_in, tag_in, tags_in, parts_in}
use Rattle.packets.specs.Tags.{tag_for, tags_for, sealed_parts, hold_to, tags_hold}
use Rattle.packets.specs.Calls.{decode, alone}
use Rattle.packets.specs.Laws.{Bytes, OneForm}
use Rattle.packets.proofs.Numbers.{bytes_of-at}
use Rattle.packets.proofs.Forms.{parts_more, parts_within, packet_length-is, tag_bytes-push, tags_in-length}

first_two : (b : List ℕ) → 2 ≤ length b → take 2 b ≡ get_or b 0 0 ∷ get_or b 1 0 ∷ []
first_two [] l = absurd (omega arith)
first_two (x ∷ []) l = absurd (omega arith)
first_two (x ∷ y ∷ b) l = refl

module _ (b : List ℕ) (bytes : Bytes b) where
  head-is : 14 ≤ length b → head_bytes (header_in b) (count_in b) ≡ take 14 b
  unfolding head_bytes
  head-is long =
      let s = take 2 (drop 2 b) in
      let l = take 2 (drop 4 b) in
      let v = take 8 (drop 6 b) in
      let two = get_or b 0 0 ∷ get_or b 1 0 ∷ [] in
      let es : bytes_of 2 (number_at 2 2 b) ≡ s = bytes_of-at 2 2 b bytes (omega arith) in
      let el : bytes_of 2 (number_at 2 4 b) ≡ l = bytes_of-at 2 4 b bytes (omega arith) in
      let ev : bytes_of 8 (number_at 8 6 b) ≡ v = bytes_of-at 8 6 b bytes (omega arith) in
      let cut : take 14 b ≡ take 2 b ++ (s ++ (l ++ v)) =
      take-add 2 12 b ∙ ap (λ xs. take 2 b ++ xs) (take-add 2 10 (drop 2 b) ∙ ap (λ xs. s ++ take 10 xs) (drop-drop 2 2 b) ∙ ap (λ xs. s ++ xs) (take-add 2 8 (drop 4 b) ∙ ap (λ xs. l ++ take 8 xs) (drop-drop 2 4 b))) in
      ap (λ xs. two ++ (xs ++ (bytes_of 2 (number_at 2 4 b) ++ bytes_of 8 (number_at 8 6 b)))) es ∙ ap (λ xs. two ++ (s ++ (xs ++ bytes_of 8 (number_at 8 6 b)))) el ∙ ap (λ xs. two ++ (s ++ (l ++ xs))) ev ∙ ap (λ xs. xs ++ (s ++ (l ++ v))) (sym (first_two b (omega arith))) ∙ sym cut

  module _ (w k : ℕ) (count : count_in b ≡ k) (room : 14 + (k + k * w) ≤ length b) where
    tags-are : (i : ℕ) → i ≤ k → tag_bytes w (tags_in w b i) ≡ take (i * w) (drop (14 + k) b)
    tags-are zero l = ap (λ n. take n (drop (14 + k) b)) (sym (zero-mul w))
    tags-are (suc i) l =
        let rest = drop (14 + k) b in
        let within = parts_within i k w (omega arith) in
        let here : bytes_of w (tag_in w b i) ≡ take w (drop (i * w) rest) =
        ap (λ n. bytes_of w (number_at w (14 + n + i * w) b)) count ∙ bytes_of-at w (14 + k + i * w) b bytes (omega arith) ∙ ap (take w) (sym (drop-drop (i * w) (14 + k) b)) in
        let more : i * w + w ≡ suc i * w = sym (parts_more i w) ∙ ap (λ n. n * w) (add-one i) in
        tag_bytes-push w (tags_in w b i) (tag_in w b i) ∙ ap (λ xs. xs ++ bytes_of w (tag_in w b i)) (tags-are i (omega arith)) ∙ ap (λ xs. take (i * w) rest ++ xs) here ∙ sym (take-add (i * w) w rest) ∙ ap (λ n. take n rest) more

    path-long : length (path_in b) ≡ k
    path-long = ap (λ n. length (take n (drop 14 b))) count ∙ length-take-le k (drop 14 b) (simp length-drop (omega arith))

    encode-is : encode w (parts_in w b) ≡ take (14 + (k + k * w)) b
    unfolding encode
    encode-is =
        let h = header_in b in
        let t = path_in b in
        let path : t ≡ take k (drop 14 b) = ap (λ n. take n (drop 14 b)) count in
        let head : head_bytes h (length t) ≡ take 14 b = ap (head_bytes h) (path-long ∙ sym count) ∙ head-is (omega arith) in
        let tags : tag_bytes w (tags_in w b (count_in b)) ≡ take (k * w) (drop k (drop 14 b)) =
        ap (λ n. tag_bytes w (tags_in w b n)) count ∙ tags-are k (omega arith) ∙ ap (take (k * w)) (sym (drop-drop k 14 b)) in
        ap (λ xs. xs ++ (t ++ tag_bytes w (tags_in w b (count_in b)))) head ∙ ap (λ xs. take 14 b ++ (t ++ xs)) tags ∙ ap (λ xs. take 14 b ++ (xs ++ take (k * w) (drop k (drop 14 b)))) path ∙ ap (λ xs. take 14 b ++ xs) (sym (take-add k (k * w) (drop 14 b))) ∙ sym (take-add 14 (k + k * w) b)

-- the packet that stands in bytes has them as its form
pub form_in : (w : ℕ) (b : List ℕ) → Bytes b → packet_length w (count_in b) ≤ length b → encode w (parts_in w b) ≡ take (packet_length w (count_in b)) b
form_in w b bytes room =
    let parts = packet_length-is w (count_in b) in
    encode-is b bytes w (count_in b) refl (omega arith) ∙ ap (λ n. take n b) (sym parts)

pub path-in : (w : ℕ) (b : List ℕ) → Bytes b → packet_length w (count_in b) ≤ length b → length (path_in b) ≡ count_in b
path-in w b bytes room = let parts = packet_length-is w (count_in b) in path-long b bytes w (count_in b) refl (omega arith)

-- What reads as a packet.

was-alone : (n m : ℕ) (q p : Parts) (t : Bool) → eqb m n ≡ t → cond t (Ok q) (Err WrongLength) ≡ Ok p → (q ≡ p) × (m ≡ n)
was-alone n m q p true e r = (cc, eqb-true m n e)
was-alone n m q p false e r = let z : ◌≡◌ {A = ℕ} 0 1 = cc in absurd (omega arith)

was_read : (n m : ℕ) (q p : Parts) (short long other : Bool) → alone n (cond short (Err TooShort) (cond long (Err PathLength) (cond other (Err WrongLength) (Ok (q, m))))) ≡ Ok p → (q ≡ p) × (m ≡ n)
was_read n m q p true long other r = let z : ◌≡◌ {A = ℕ} 0 1 = cc in absurd (omega arith)
was_read n m q p false true other r = let z : ◌≡◌ {A = ℕ} 0 1 = cc in absurd (omega arith)
was_read n m q p false false true r = let z : ◌≡◌ {A = ℕ} 0 1 = cc in absurd (omega arith)
was_read n m q p false false false r = was-alone n m q p (eqb m n) refl r

pub decode_is : (w : ℕ) (b : List ℕ) (p : Parts) → decode w b ≡ Ok p → (parts_in w b ≡ p) × (packet_length w (count_in b) ≡ length b)
decode_is w b p r = was_read (length b) (packet_length w (count_in b)) (parts_in w b) p (ltb (length b) 15) (not (leb 1 (count_in b) && leb (count_in b) 4)) (ltb (length b) (packet_length w (count_in b))) r

pub decode-form : (w : ℕ) (b : List ℕ) (p : Parts) → Bytes b → decode w b ≡ Ok p → encode w p ≡ b
decode-form w b p bytes r =
    let is = decode_is w b p r in
    let all = is.1 in
    ap (encode w) (sym is.0) ∙ form_in w b bytes (omega arith) ∙ take_all (packet_length w (count_in b)) b (omega arith)

-- Tags that hold are those that the stations make.

hold-tags : (tag : ℕ → List ℕ → ℕ) (p : Parts) (i : ℕ) → i ≤ length p.tags → hold_to tag p i ≡ true → take i p.tags ≡ tags_for tag p.header p.path i
hold-tags tag p zero l e = refl
hold-tags tag p (suc i) l e =
    let both = and_parts (hold_to tag p i) (eqb (get_or p.tags i 0) (tag_for tag p.header p.path i)) e in
    let same = eqb-true (get_or p.tags i 0) (tag_for tag p.header p.path i) both.1 in
    ap (λ n. take n p.tags) (sym (add-one i)) ∙ take_more p.tags i 0 (omega arith) ∙ ap (λ xs. xs ++ get_or p.tags i 0 ∷ []) (hold-tags tag p i (omega arith) both.0) ∙ ap (λ x. tags_for tag p.header p.path i ++ x ∷ []) same

pub made_by : (tag : ℕ → List ℕ → ℕ) (p : Parts) → length p.tags ≡ length p.path → tags_hold tag p ≡ true → p ≡ sealed_parts tag p.header p.path
made_by tag p many e =
    ap (parts_of p.header p.path) (sym (take_all (length p.path) p.tags (omega arith)) ∙ hold-tags tag p (length p.path) (omega arith) e)

-- Bytes that begin alike have the same header and path.

front_same : (n m : ℕ) (xs ys : List ℕ) → m ≤ n → take n xs ≡ take n ys → take m xs ≡ take m ys
front_same n m xs ys l e = sym (take-take m n xs l) ∙ ap (take m) e ∙ take-take m n ys l

part_same : (n a m : ℕ) (xs ys : List ℕ) → a + m ≤ n → take n xs ≡ take n ys → take m (drop a xs) ≡ take m (drop a ys)
part_same n a m xs ys l e = sym (drop-take a m xs) ∙ ap (drop a) (front_same n (a + m) xs ys l e) ∙ drop-take a m ys

byte-same : (n i : ℕ) (xs ys : List ℕ) → i < n → take n xs ≡ take n ys → get_or xs i 0 ≡ get_or ys i 0
byte-same n i xs ys l e = sym (get_or-take n xs i 0 l) ∙ ap (λ us. get_or us i 0) e ∙ get_or-take n ys i 0 l

module _ (k : ℕ) (xs ys : List ℕ) (e : take (14 + k) xs ≡ take (14 + k) ys) where
  header-same : header_in xs ≡ header_in ys
  header-same =
      let n = 14 + k in
      let kind = byte-same n 0 xs ys (omega arith) e in
      let s = ap (number_from_digits 256) (part_same n 2 2 xs ys (omega arith) e) in
      let l = ap (number_from_digits 256) (part_same n 4 2 xs ys (omega arith) e) in
      let v = ap (number_from_digits 256) (part_same n 6 8 xs ys (omega arith) e) in
      ap (λ x. header_of x (number_at 2 2 xs) (number_at 2 4 xs) (number_at 8 6 xs)) kind ∙ ap (λ x. header_of (get_or ys 0 0) x (number_at 2 4 xs) (number_at 8 6 xs)) s ∙ ap (λ x. header_of (get_or ys 0 0) (number_at 2 2 ys) x (number_at 8 6 xs)) l ∙ ap (header_of (get_or ys 0 0) (number_at 2 2 ys) (number_at 2 4 ys)) v

  path-same : count_in ys ≡ k → path_in xs ≡ path_in ys
  path-same count =
      let same : count_in xs ≡ count_in ys = byte-same (14 + k) 1 xs ys (omega arith) e in
      ap (λ n. take n (drop 14 xs)) same ∙ part_same (14 + k) 14 (count_in ys) xs ys (omega arith) e

-- The packet that stands in bytes, where these are all.

module _ (w : ℕ) (b : List ℕ) (bytes : Bytes b) (all : packet_length w (count_in b) ≡ length b) where
  path-many : length (path_in b) ≡ count_in b
  path-many = path-in w b bytes (omega arith)

  form-whole : encode w (parts_in w b) ≡ b
  form-whole = form_in w b bytes (omega arith) ∙ take_all (packet_length w (count_in b)) b (omega arith)

  made-whole : (tag : ℕ → List ℕ → ℕ) → tags_hold tag (parts_in w b) ≡ true → b ≡ encode w (sealed_parts tag (header_in b) (path_in b))
  made-whole tag hold = sym form-whole ∙ ap (encode w) (made_by tag (parts_in w b) (tags_in-length w b (count_in b) ∙ sym path-many) hold)

only-tags : (w : ℕ) (b other : List ℕ) (q : Parts) (tag : ℕ → List ℕ → ℕ) → Bytes b → Bytes other → packet_length w (count_in b) ≡ length b → tags_hold tag (parts_in w b) ≡ true
    → decode w other ≡ Ok q → take (14 + length (path_in b)) other ≡ take (14 + length (path_in b)) b → tags_hold tag q ≡ true → other ≡ b
only-tags w b other q tag bytes bytes' all hold read same hold' =
    let is = decode_is w other q read in
    let k = length (path_in b) in
    let hold'' : tags_hold tag (parts_in w other) ≡ true = ap (tags_hold tag) is.0 ∙ hold' in
    made-whole w other bytes' is.1 tag hold'' ∙ ap (λ h. encode w (sealed_parts tag h (path_in other))) (header-same k other b same) ∙ ap (λ t. encode w (sealed_parts tag (header_in b) t)) (path-same k other b same (sym (path-many w b bytes all))) ∙ sym (made-whole w b bytes all tag hold)

pub one_form : (w : ℕ) (b : List ℕ) → Bytes b → packet_length w (count_in b) ≡ length b → OneForm w b (parts_in w b)
one_form w b bytes all =
    record {
      form = form-whole w b bytes all;
      only = λ other bytes' read. sym (decode-form w other (parts_in w b) bytes' read) ∙ form-whole w b bytes all;
      made = made-whole w b bytes all;
      tampered = λ tag other q hold bytes' read same hold'. only-tags w b other q tag bytes bytes' all hold read same hold';
    }
