use Rattle.std.proofs.Common.{◌≡◌}
use Rattle.packets.specs.Tags.{tags_for}
use Rattle.packets.proofs.unsealed.Unsealed.tags.Given as goal

-- the tags so far
abbrev pub invariant-loop-i : goal.invariant-loop-i
invariant-loop-i g l = l.tags.items ≡ tags_for (g.S.Seal.meaning l.seal) l.self.header l.self.stations.now l.i
