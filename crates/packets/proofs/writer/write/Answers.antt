use Rattle.std.proofs.Common.{◌≡◌, ◌+◌, ◌-◌, ◌≤◌, Some, ap, ap₂, sym, ◌∙◌, arith, rules, length}
use Rattle.std.proofs.lemmas.Bool.{cond-true, le-leb}
use borrow.Rule.Slice.PartMut.{put_mid}
use Rattle.paths.specs.Paths.{stations}
use Rattle.packets.specs.Form.{encode, packet_length}
use Rattle.packets.specs.Tags.{sealed_parts}
use Rattle.packets.proofs.Forms.{tags_for-length, encode-length}
use Rattle.packets.proofs.Writes.{over-part}
use Rattle.packets.proofs.RoundTrip.{reads-back, stands-there}
use Rattle.packets.proofs.writer.write.Goals as goal

pub returns : goal.returns
returns g c =
    let w = g.S.Seal.WIDTH in
    let tag = g.S.Seal.meaning c.args.seal.now in
    let h = c.args.header in
    let t = stations c.args.path.now in
    let path = c.stations-stations.ensures.is in
    let few = c.stations-stations.ensures.few in
    let long = ap length path in
    let back = reads-back w tag (g.met.S.Seal.fits c.args.seal.now) h t (search rules) (omega arith) (omega arith) in
    let wrote = c.put.ensures ∙ ap (λ xs. encode w (sealed_parts tag h xs)) path in
    let n = c.length_with-n.result in
    let is : n ≡ packet_length w (length t) = c.length_with-n.ensures ∙ ap (packet_length w) long in
    let all = encode-length w (sealed_parts tag h t) (tags_for-length tag h t (length t)) in
    let there = over-part c.args.out.now c.args.at (c.args.at + n - c.args.at) c.put.new.place (encode w (sealed_parts tag h t)) wrote (omega arith) in
    let room : c.args.at + packet_length w (length t) ≤ length c.args.out.now = omega arith in
    record {
      placed = ap₂ (λ x y. (Some x, y)) is there ∙ sym (cond-true _ _ _ (le-leb _ _ room));
      back = (back, stands-there w tag h t back c.args.at c.args.out.now (put_mid c.args.at (c.args.at + n - c.args.at) c.args.out.now c.put.new.place) (omega arith) there);
      within = omega arith;
    }
