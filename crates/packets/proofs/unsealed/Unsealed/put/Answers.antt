use Rattle.std.proofs.Common.{◌≡◌, ◌+◌, ◌-◌, ◌++◌, length, get_or, take, drop, refl, sym, ap, ◌∙◌, arith, zero-mul}
use Rattle.std.proofs.lemmas.List.{length-append, length-take-le, length-drop}
use Rattle.packets.specs.Bytes.{bytes_of, over}
use Rattle.packets.specs.Form.{head_bytes}
use Rattle.packets.proofs.Forms.{parts_within, packet_length-is, head_bytes-length, tags_for-length}
use Rattle.packets.proofs.Writes.{bytes_of-length, over_none, over-part, over-length}
use Rattle.packets.proofs.Steps.{put-front, put-turn, put_all}
use Rattle.packets.proofs.RoundTrip.{tags_for-at}
use Rattle.packets.proofs.unsealed.Unsealed.put.Goals as goal

pub loop-tag-init : goal.loop-tag-init
loop-tag-init g c =
    (omega (arith, zero-mul g.S.Seal.WIDTH), sym (over_none _ (14 + length c.args.self.now.stations.now)))

pub slice_bounds-put_number-end : goal.slice_bounds-put_number-end
slice_bounds-put_number-end g c =
    let w = g.S.Seal.WIDTH in
    let t = c.args.self.now.stations.now in
    let k = length t in
    let i = c.loop-tag.tag-index in
    let many = ap length (c.as_slice-tag-items.ensures.value ∙ c.tags-tags.ensures) ∙ tags_for-length (g.S.Seal.meaning c.args.seal.now) c.args.self.now.header t k in
    omega (arith, many, parts_within i k w (omega (arith, many)), packet_length-is w k, c.WIDTH.ensures)

pub loop-tag-preserved : goal.loop-tag-preserved
loop-tag-preserved g c =
    let w = g.S.Seal.WIDTH in
    let tag = g.S.Seal.meaning c.args.seal.now in
    let h = c.args.self.now.header in
    let t = c.args.self.now.stations.now in
    let k = length t in
    let old = c.args.place.now in
    let i = c.loop-tag.tag-index in
    let tags = c.as_slice-tag-items.ensures.value ∙ c.tags-tags.ensures in
    let many = ap length tags ∙ tags_for-length tag h t k in
    let n = get_or c.as_slice-tag-items.result.now i 0 in
    let is = ap (λ xs. get_or xs i 0) tags ∙ tags_for-at tag h t k i (omega (arith, many)) in
    let front = put-front w tag h t (14 + k - 14) old c.copy_from_slice.new.self c.copy_from_slice-2.new.self c.requires (omega arith) (c.copy_from_slice.ensures.after ∙ c.bytes.ensures) c.copy_from_slice-2.ensures.after in
    let long = ap length front ∙ over-length old 0 (head_bytes h k ++ t) (omega (arith, packet_length-is w k, head_bytes-length h k, length-append (head_bytes h k) t)) in
    let turn =
    put-turn w tag h t i c.loop-tag.at _ c.loop-tag.place (over c.loop-tag.place c.loop-tag.at (bytes_of w n)) n
    (omega (arith, long)) (omega (arith, many)) is c.loop-tag.invariant.0 c.loop-tag.invariant.1 refl in
    let room = c.loop-tag.at + c.WIDTH.result - c.loop-tag.at in
    let rest = length-drop c.loop-tag.at c.loop-tag.place in
    let part : length (take room (drop c.loop-tag.at c.loop-tag.place)) ≡ w =
    length-take-le room (drop c.loop-tag.at c.loop-tag.place) (omega (arith, rest, turn.0, parts_within i k w (omega (arith, many)), packet_length-is w k, c.WIDTH.ensures)) ∙ omega (arith, c.WIDTH.ensures) in
    let wrote = c.put_number.ensures ∙ ap (λ v. bytes_of v n) part in (
      omega (arith, turn.0, c.WIDTH-at.ensures),
      over-part c.loop-tag.place c.loop-tag.at room c.put_number.new.place (bytes_of w n) wrote (omega (arith, bytes_of-length w n, c.WIDTH.ensures)) ∙ turn.1,
    )

pub returns : goal.returns
returns g c =
    let tag = g.S.Seal.meaning c.args.seal.now in
    let h = c.args.self.now.header in
    let t = c.args.self.now.stations.now in
    let many = ap length (c.as_slice-tag-items.ensures.value ∙ c.tags-tags.ensures) ∙ tags_for-length tag h t (length t) in
    let front = put-front g.S.Seal.WIDTH tag h t (14 + length t - 14) c.args.place.now c.copy_from_slice.new.self c.copy_from_slice-2.new.self c.requires (omega arith) (c.copy_from_slice.ensures.after ∙ c.bytes.ensures) c.copy_from_slice-2.ensures.after in
    put_all g.S.Seal.WIDTH tag h t c.loop-tag.tag-index c.args.place.now _ c.loop-tag.place c.requires (omega (arith, many)) front c.loop-tag.invariant.1
