use Rattle.std.proofs.Common.{take, refl, ap, ◌∙◌, ap₂}
use native.Mathlib.Nat.{sub-zero}
use Rattle.siphash.specs.SipHash.{round, compress, sip_hash}
use Rattle.siphash.specs.Worked.{first_bytes}
use Rattle.siphash.proofs.worked.hash_of_first.Goals as goal

pub returns : goal.returns
unfolding round compress
returns c = record {
  rules = refl;
  value = c.hash.ensures ∙ ap₂ sip_hash c.new.ensures (ap (λ n. take n first_bytes) (sub-zero c.args.len));
}
