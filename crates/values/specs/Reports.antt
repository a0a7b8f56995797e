-- Lists of reports, each a value or none, and what the rules make of them.
use Rattle.std.specs.Prelude.{◌≡◌, ℕ, ◌*◌, ◌<◌, Bool, List, ◌∷◌, length, Some, None, Option, ◌==◌, nat_eq, nat_lt, if◌then◌else◌}
use Rattle.std.specs.Prelude.{slice_get, option_and_then, count_by, find}
use Rattle.std.specs.List.{flat_map, list_all}
use Rattle.std.specs.Option.{option_eq, option_to_list}

-- the value v stands in the list
pub data Reported (v : ℕ) : List (Option ℕ) → Type 0 where
  first : {rs : List (Option ℕ)} → Reported v (Some v ∷ rs)
  later : {r : Option ℕ} {rs : List (Option ℕ)} → Reported v rs → Reported v (r ∷ rs)

-- what is given is v exactly if P holds of v
abbrev pub Exactly : Option ℕ → (ℕ → Type 0) → Type 0
Exactly r P = (v : ℕ) → (r ≡ Some v → P v) × (P v → r ≡ Some v)

-- the reports that are values, in their order
abbrev pub reported_values : List (Option ℕ) → List ℕ
reported_values rs = flat_map option_to_list rs

-- Sole.

-- v stands in the list, and no other value does
abbrev pub Only : ℕ → List (Option ℕ) → Type 0
Only v rs = Reported v rs × ((w : ℕ) → Reported w rs → w ≡ v)

-- the first report that is a value
abbrev pub first_value : List (Option ℕ) → Option ℕ
first_value rs = slice_get (reported_values rs) 0

-- whether every report that is a value is v
abbrev pub agree : ℕ → List (Option ℕ) → Bool
agree v rs = list_all (λ w. w == v) (reported_values rs)

-- the first value, if every value is that one
abbrev pub sole : List (Option ℕ) → Option ℕ
sole rs = option_and_then (λ v. if agree v rs then Some v else None) (first_value rs)

-- Majority.

-- how many reports are values
abbrev pub values : List (Option ℕ) → ℕ
values rs = length (reported_values rs)

-- how many reports are the value v
abbrev pub votes : ℕ → List (Option ℕ) → ℕ
votes v rs = count_by (λ r. option_eq nat_eq r (Some v)) rs

-- v makes up more than half of the reports that are values
abbrev pub Most : ℕ → List (Option ℕ) → Type 0
Most v rs = values rs < 2 * votes v rs

abbrev pub leading : ℕ → List (Option ℕ) → Bool
leading v rs = nat_lt (values rs) (2 * votes v rs)

-- the first value of the list rs that makes up more than half of the values of all
abbrev pub leader : List (Option ℕ) → List (Option ℕ) → Option ℕ
leader all rs = find (λ v. leading v all) (reported_values rs)

abbrev pub majority : List (Option ℕ) → Option ℕ
majority rs = leader rs rs
