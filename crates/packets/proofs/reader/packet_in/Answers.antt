use Rattle.std.proofs.Common.{◌<◌, sym, ap, ◌∙◌, subst, arith}
use Rattle.std.proofs.ByRecursion.{All-from_get_or}
use Rattle.packets.specs.Form.{encode}
use Rattle.packets.specs.Laws.{Bytes, OneForm}
use Rattle.packets.specs.Calls.{RowRead}
use Rattle.packets.proofs.OneForm.{form_in, one_form}
use Rattle.packets.proofs.Steps.{packet-is}
use Rattle.packets.proofs.reader.packet_in.Goals as goal

pub returns : goal.returns
unfolding RowRead
returns g c =
    let b = c.args.bytes.now in
    let w = g.S.Seal.WIDTH in
    let bytes : Bytes b = All-from_get_or (λ x. x < 256) b 0 (λ i l. (c.type_inv.bytes i).fits) in
    let count = ap (λ r. r.len) c.row_in.ensures.is in
    let is = packet-is w b c.read.result c.row_in.result c.tags_in.result c.read.ensures count c.row_in.ensures.path c.tags_in.ensures in
    record { is = is; row = c.row_in.ensures.is; len = omega (arith, c.requires, count); form = ap (encode w) is ∙ form_in w b bytes c.requires.1; alone = λ all. subst (OneForm w b) (sym is) (one_form w b bytes all) }
