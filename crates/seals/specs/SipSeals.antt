-- The tag of the long seal.
use Rattle.std.specs.Prelude.{ℕ, ◌^◌, ◌<◌, true, false, cond, List, nat_lt, slice_index_or}
use Rattle.std.proofs.Common.{lit<}
use Rattle.siphash.specs.declared.key.Key.{Key}
use Rattle.siphash.specs.SipHash.{sip_hash, finish-fits}

-- the tag of station j over the message m under the list of the stations' keys: a number above 6 has the tag 0
abbrev pub sip_tag : List Key → ℕ → List ℕ → ℕ
sip_tag keys j m = cond (nat_lt 6 j) 0 (sip_hash (slice_index_or keys j (record { k0 = 0; k1 = 0 })) m)

-- A tag has 64 bits.
pub sip_tag-fits : (keys : List Key) (j : ℕ) (m : List ℕ) → sip_tag keys j m < 256 ^ 8
sip_tag-fits keys j m =
    elim (nat_lt 6 j) as (λ v. cond v 0 (sip_hash (slice_index_or keys j (record { k0 = 0; k1 = 0 })) m) < 256 ^ 8)
    [ true ↦ lit< tt | false ↦ finish-fits _ ]
