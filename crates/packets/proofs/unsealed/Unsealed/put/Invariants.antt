use Rattle.std.proofs.Common.{◌≡◌, ◌+◌, ◌*◌}
use Rattle.packets.specs.Bytes.{over}
use Rattle.packets.specs.Form.{tag_bytes}
use Rattle.packets.specs.Tags.{tags_for}
use Rattle.packets.proofs.unsealed.Unsealed.put.Given as goal

-- the tags so far stand after the header and the path, and the next one's place is behind them
abbrev pub invariant-loop-tag : goal.invariant-loop-tag
invariant-loop-tag g l =
    (l.at ≡ 14 + l.k + l.tag-index * g.S.Seal.WIDTH)
    × (l.place ≡ over l.initial.place (14 + l.k) (tag_bytes g.S.Seal.WIDTH (tags_for (g.S.Seal.meaning l.seal) l.self.header l.self.stations.now l.tag-index)))
