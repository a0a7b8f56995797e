use Rattle.std.proofs.Common.{◌^◌, ◌<◌, arith, rules}
use lib.Bits.{bit_xor, xor_lt}
use Rattle.siphash.proofs.state.State.combine.Goals as goal

-- the words fit 64 bits, so what they combine to does
pub returns : goal.returns
returns c =
    let s = c.args.self in
    let h0 : s.v0 < 2 ^ 64 = search rules in
    let h1 : s.v1 < 2 ^ 64 = search rules in
    let h2 : s.v2 < 2 ^ 64 = search rules in
    let h3 : s.v3 < 2 ^ 64 = search rules in
    let two = xor_lt 64 s.v0 s.v1 h0 h1 in
    let three = xor_lt 64 (bit_xor s.v0 s.v1) s.v2 two h2 in
    let four = xor_lt 64 (bit_xor (bit_xor s.v0 s.v1) s.v2) s.v3 three h3 in
    omega (arith, four)
