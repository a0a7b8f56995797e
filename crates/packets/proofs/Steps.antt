-- What one turn and the end of each loop come to, and what a call answers.
use borrow.Rule.Slice.PartMut.{put_mid}
use Rattle.std.proofs.Common.{◌≡◌, ℕ, ◌+◌, ◌*◌, ◌<◌, ◌≤◌, List, ◌++◌, length, take, drop, sym, ap, ◌∙◌, arith}
use Rattle.paths.specs.Paths.{row_stations}
use Rattle.paths.specs.declared.row.Row.{Row}
use Rattle.std.proofs.lemmas.List.{append_assoc, length-append}
use Rattle.packets.specs.declared.header.Header.{Header}
use Rattle.packets.specs.Bytes.{bytes_of, over}
use Rattle.packets.specs.Form.{parts_of, head_bytes, tag_bytes, encode, packet_length, count_in, header_in, path_in, tags_in, parts_in}
use Rattle.packets.specs.Calls.{parts}
use Rattle.packets.specs.Tags.{tag_for, tags_for, sealed_parts}
use Rattle.packets.proofs.Writes.{over-part, over-more, over-whole}
use Rattle.packets.proofs.Forms.{parts_more, parts_within, packet_length-is, head_bytes-length, tag_bytes-push, tag_bytes-length, encode-length, tags_for-more, tags_for-length}

-- Writing.

module _ (w : ℕ) (tag : ℕ → List ℕ → ℕ) (h : Header) (t : List ℕ) where
  -- one more tag
  pub put-turn : (i at : ℕ) (old out new : List ℕ) (n : ℕ) → packet_length w (length t) ≤ length old → i < length t → n ≡ tag_for tag h t i
      → at ≡ 14 + length t + i * w → out ≡ over old (14 + length t) (tag_bytes w (tags_for tag h t i)) → new ≡ over out at (bytes_of w n)
      → (at + w ≡ 14 + length t + (i + 1) * w) × (new ≡ over old (14 + length t) (tag_bytes w (tags_for tag h t (i + 1))))
  put-turn i at old out new n room in' is place before wrote =
      let k = length t in
      let done = tag_bytes w (tags_for tag h t i) in
      let long : length done ≡ i * w = tag_bytes-length w (tags_for tag h t i) ∙ ap (λ m. m * w) (tags_for-length tag h t i) in
      let all = packet_length-is w k in
      let within = parts_within i k w in' in
      let more : tag_bytes w (tags_for tag h t (i + 1)) ≡ done ++ bytes_of w (tag_for tag h t i) =
      ap (tag_bytes w) (tags_for-more tag h t i) ∙ tag_bytes-push w (tags_for tag h t i) (tag_for tag h t i) in
      let next : at + w ≡ 14 + k + (i + 1) * w = omega (arith, parts_more i w) in
      (next, wrote ∙ ap (λ m. over out at (bytes_of w m)) is ∙ over-more old out (14 + k) done (bytes_of w (tag_for tag h t i)) at before (omega arith) (omega arith) ∙ ap (over old (14 + k)) (sym more))

  -- header and path
  pub put-front : (m : ℕ) (old head path : List ℕ) → length old ≡ packet_length w (length t) → m ≡ length t → head ≡ head_bytes h (length t) → path ≡ t
      → put_mid 14 m (head ++ drop 14 old) path ≡ over old 0 (head_bytes h (length t) ++ t)
  unfolding over
  put-front m old head path room part to-head to-path =
      let k = length t in
      let H = head_bytes h k in
      let one = head ++ drop 14 old in
      let long = head_bytes-length h k in
      let all = packet_length-is w k in
      let first : one ≡ over old 0 H = ap (λ us. us ++ drop 14 old) to-head ∙ ap (λ n. H ++ drop (0 + n) old) (sym long) in
      over-part one 14 m path t to-path part ∙ over-more old one 0 H t 14 first (omega arith) (omega arith)

  -- and all tags
  pub put_all : (i : ℕ) (old two out : List ℕ) → length old ≡ packet_length w (length t) → i ≡ length t
      → two ≡ over old 0 (head_bytes h (length t) ++ t) → out ≡ over two (14 + length t) (tag_bytes w (tags_for tag h t i))
      → out ≡ encode w (sealed_parts tag h t)
  unfolding encode
  put_all i old two out room end front to-tags =
      let k = length t in
      let head = head_bytes h k in
      let tags = tag_bytes w (tags_for tag h t k) in
      let long = head_bytes-length h k in
      let all = packet_length-is w k in
      let long-both = length-append head t in
      let whole = encode-length w (sealed_parts tag h t) (tags_for-length tag h t k) in
      to-tags ∙ ap (λ n. over two (14 + k) (tag_bytes w (tags_for tag h t n))) end ∙ over-more old two 0 (head ++ t) tags (14 + k) front (omega arith) (omega arith) ∙ ap (over old 0) (append_assoc head t tags)
      ∙ over-whole old (encode w (sealed_parts tag h t)) (omega arith)

-- The packet from its parts.

pub packet-is : (w : ℕ) (b : List ℕ) (h : Header) (row : Row) (tags : List ℕ) → h ≡ header_in b → row.len ≡ count_in b → row_stations row ≡ path_in b → take (count_in b) tags ≡ tags_in w b (count_in b)
    → parts (record { header = h; row = row; tags = tags }) ≡ parts_in w b
packet-is w b h row tags header count path read =
    ap (λ x. parts_of x (row_stations row) (take row.len tags)) header ∙ ap (λ x. parts_of (header_in b) x (take row.len tags)) path ∙ ap (parts_of (header_in b) (path_in b)) (ap (λ n. take n tags) count ∙ read)
