-- What the sole rule gives, in the parts that the check applies to the clause `exact` of `choose`.
use Rattle.std.proofs.Common.{◌≡◌, ℕ, List, Some, Option, refl}
use Rattle.values.specs.Reports.{Reported, sole}
use Rattle.values.specs.Soles.{only-sole, sole-exact}

pub sole-reported : (rs : List (Option ℕ)) (v : ℕ) → sole rs ≡ Some v → Reported v rs
sole-reported rs v e = ((sole-exact rs (sole rs) refl v).0 e).0

pub sole-alone : (rs : List (Option ℕ)) (v w : ℕ) → sole rs ≡ Some v → Reported w rs → w ≡ v
sole-alone rs v w e k = ((sole-exact rs (sole rs) refl v).0 e).1 w k

pub ruleset exactness = (sole-reported, sole-alone, only-sole)
