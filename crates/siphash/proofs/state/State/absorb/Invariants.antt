use Rattle.std.proofs.Common.{◌≡◌}
use Rattle.siphash.specs.SipHash.{absorbed}
use Rattle.siphash.proofs.state.State.absorb.Given as goal

-- the words before this one are absorbed
abbrev pub invariant-loop-bytes : goal.invariant-loop-bytes
invariant-loop-bytes l = l.state ≡ absorbed l.initial.state l.message l.bytes-index
