use Rattle.std.proofs.Common.{◌<◌, ◌/◌, [], length, get_or, ap, ◌∙◌, ap₂, add-one, arith}
use Rattle.siphash.specs.SipHash.{compress, little}
use Rattle.siphash.proofs.Places.{get_or-first_chunks}
use Rattle.siphash.proofs.state.State.absorb.Goals as goal

pub loop-bytes-preserved : goal.loop-bytes-preserved
loop-bytes-preserved c =
    let i = c.loop-bytes.bytes-index in
    let m = c.args.message.now in
    let below : i < length m / 8 = omega (arith, c.as_chunks.ensures.front_len) in
    let bytes = ap (λ ws. get_or ws i []) c.as_chunks.ensures.front ∙ get_or-first_chunks (length m / 8) i m [] below in
    rw add-one (c.compress-state.ensures ∙ ap₂ compress c.loop-bytes.invariant (c.word.ensures ∙ ap little bytes))
