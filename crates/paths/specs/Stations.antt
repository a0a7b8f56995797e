-- Lists of station numbers.
use Rattle.std.specs.Prelude.{ℕ, ◌-◌, ◌≤◌, Bool, true, cond, not, ◌&&◌, List, [], ◌∷◌, ◌++◌, length, Some, None, Option, ◌==◌, nat_le, slice_index, codes}
use Rattle.std.specs.Cmp.Lexicographic.{slice_cmp}
use Rattle.std.specs.Fmt.{decimal}
use Rattle.std.specs.List.{list_any, flat_map}
use Rattle.std.specs.Ordering.{nat_cmp}
use Rattle.std.specs.declared.cmp.Ordering.{Ordering}

-- whether station q is named
abbrev pub names : List ℕ → ℕ → Bool
names t q = list_any (λ x. x == q) t

-- whether no station is named twice
abbrev pub distinct : List ℕ → Bool
distinct [] = true
distinct (x ∷ xs) = not (names xs x) && distinct xs

-- how many stations a path names
abbrev pub IsPathLength : ℕ → Type 0
IsPathLength n = (1 ≤ n) × (n ≤ 4)

-- whether the stations are those of a path: one to four, none named twice
abbrev pub is_path : List ℕ → Bool
is_path t = (nat_le 1 (length t) && nat_le (length t) 4) && distinct t

abbrev pub first_of : List ℕ → ℕ
first_of t = slice_index t 0

abbrev pub last_of : List ℕ → ℕ
last_of t = slice_index t (length t - 1)

-- the path with station q added, where that is a path
abbrev pub extended : List ℕ → ℕ → Option (List ℕ)
extended t q = cond (is_path (t ++ q ∷ [])) (Some (t ++ q ∷ [])) None

-- the order of paths, station by station; where one begins with the other, the shorter comes first
abbrev pub compared : List ℕ → List ℕ → Ordering
compared = slice_cmp nat_cmp

-- the stations' numbers as text, parted by spaces
abbrev pub stations_text : List ℕ → List ℕ
stations_text [] = []
stations_text (x ∷ xs) = decimal x ++ flat_map (λ y. codes " " ++ decimal y) xs
