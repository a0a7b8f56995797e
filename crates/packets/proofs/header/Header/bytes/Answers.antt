use Rattle.packets.specs.Form.{head_bytes}
use Rattle.packets.proofs.header.Header.bytes.Goals as goal

pub returns : goal.returns
unfolding head_bytes
returns c = simp (c.to_be_bytes.ensures, c.to_be_bytes-2.ensures, c.number_bytes.ensures)
