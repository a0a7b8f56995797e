use Rattle.std.proofs.Common.{◌-◌, ◌^◌, ◌<◌, length, sym, subst, arith}
use Rattle.std.proofs.ByRecursion.{All-from_get_or}
use Rattle.std.proofs.lemmas.Int.Digits.{number_lt}
use Rattle.packets.proofs.Numbers.{number-padded}
use Rattle.packets.proofs.bytes.number.Goals as goal

pub returns : goal.returns
returns c =
    let b = c.args.bytes.now in
    let is = number-padded b c.copy_from_slice.new.self (8 - (8 - length b)) c.from_be_bytes.result c.requires (omega arith) c.copy_from_slice.ensures.after c.from_be_bytes.ensures in
    let below = number_lt 256 b (All-from_get_or (λ x. x < 256) b 0 (λ i l. (c.type_inv.bytes i).fits)) in
    record { is = is; fits = subst (λ x. x < 256 ^ length b) (sym is) below }
