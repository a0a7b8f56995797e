-- The laws of a choice rule, of the function that the rule means.
use Rattle.std.specs.Prelude.{◌≡◌, ℕ, List, Some, None, Option}
use Rattle.values.specs.Reports.{Reported, Only}

-- a list without a value gives none
abbrev pub NoneWithoutValue : (List (Option ℕ) → Option ℕ) → Type 0
NoneWithoutValue choose = (rs : List (Option ℕ)) → ((v : ℕ) → Reported v rs → ⊥) → choose rs ≡ None

-- if all values in the list are equal, and there is at least one, that value is given
abbrev pub UnanimousValueGiven : (List (Option ℕ) → Option ℕ) → Type 0
UnanimousValueGiven choose = (rs : List (Option ℕ)) (v : ℕ) → Only v rs → choose rs ≡ Some v
