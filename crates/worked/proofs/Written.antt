-- The packets of the worked example.
use Rattle.std.proofs.Common.{◌≡◌, ℕ, ◌+◌, List, length, Option, refl, ap, ◌∙◌, arith}
use Rattle.seals.specs.CodeBooks.{book_tag}
use Rattle.seals.specs.Worked.{counting_words}
use Rattle.std.proofs.lemmas.Bool.{cond-true, le-leb}
use Rattle.packets.specs.Form.{head_bytes, encode, packet_length}
use Rattle.packets.specs.Tags.{sealed_parts}
use Rattle.packets.specs.Calls.{placed}
use Rattle.worked.specs.Notices.{books, notice, notice_by, WorkedPackets}
use Rattle.packets.proofs.Forms.{encode-length, tags_for-length}
use Rattle.packets.proofs.Writes.{over-whole}

pub worked : WorkedPackets
unfolding head_bytes encode
worked = record { sent = refl; relayed = refl; sent_read = refl; relayed_read = refl; sent_held = refl; relayed_held = refl; damaged_read = refl; damaged_not_held = refl }

-- the notice fills its buffer
pub notice-written : (words t out new : List ℕ) (r : Option ℕ) → words ≡ counting_words → length out ≡ packet_length 2 (length t)
    → (r, new) ≡ placed 2 (sealed_parts (λ j m. book_tag words j m) notice t) 0 out → new ≡ encode 2 (notice_by t)
notice-written words t out new r counting room wrote =
    let p = notice_by t in
    let long = encode-length 2 p (tags_for-length books notice t (length t)) in
    let here : (r, new) ≡ placed 2 p 0 out = wrote ∙ ap (λ ws. placed 2 (sealed_parts (λ j m. book_tag ws j m) notice t) 0 out) counting in
    ap (λ q. q.1) (here ∙ cond-true _ _ _ (le-leb (0 + packet_length 2 (length t)) (length out) (omega arith))) ∙ over-whole out (encode 2 p) (omega arith)
