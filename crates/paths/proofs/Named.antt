-- Laws of the tests on station numbers.
use Rattle.std.proofs.Common.{◌≡◌, ℕ, zero, suc, ◌+◌, ◌<◌, Bool, not, ◌&&◌, ◌||◌, eqb, ◌==◌, List, [], ◌∷◌, ◌++◌, length, get_or, take, sym, refl, ap, ◌∙◌, arith, take_all}
use Rattle.std.proofs.Math.Bool.{and-true, and_assoc, or-false}
use Rattle.std.proofs.lemmas.List.{take_more}
use Rattle.std.proofs.lemmas.List.Folds.{list_any-append}
use Rattle.std.proofs.lemmas.Bool.Decides.{nat_tests}
use Rattle.std.specs.List.{list_all, range_with_len}
use Rattle.paths.specs.Stations.{names, distinct}

pub names-push : (xs : List ℕ) (x q : ℕ) → names (xs ++ x ∷ []) q ≡ (names xs q || eqb x q)
names-push xs x q = list_any-append (λ y. y == q) xs (x ∷ []) ∙ ap (λ b. names xs q || b) (or-false (eqb x q))

pub distinct_push : (xs : List ℕ) (q : ℕ) → distinct (xs ++ q ∷ []) ≡ (distinct xs && not (names xs q))
distinct_push [] q = refl
distinct_push (x ∷ xs) q = let e = names-push xs q x in let f = distinct_push xs q in grind (arith, nat_tests)

pub distinct_more : (xs : List ℕ) (i : ℕ) → i < length xs → distinct (take (i + 1) xs) ≡ (distinct (take i xs) && not (names (take i xs) (get_or xs i 0)))
distinct_more xs i h = ap distinct (take_more xs i 0 h) ∙ distinct_push (take i xs) (get_or xs i 0)

-- Stations that are looked for, in turn, among those before them.

module _ (t : List ℕ) where
  -- whether the station at a place is not named before it
  abbrev pub is_first : ℕ → Bool
  is_first i = not (names (take i t) (get_or t i 0))

  -- the n stations after the first i are looked for
  distinct-from : (n i : ℕ) → i + n ≡ length t → (distinct (take i t) && list_all is_first (range_with_len i n)) ≡ distinct t
  distinct-from zero i end = and-true (distinct (take i t)) ∙ ap distinct (take_all i t (omega arith))
  distinct-from (suc n) i end =
      let rest = list_all is_first (range_with_len (i + 1) n) in
      sym (and_assoc (distinct (take i t)) (is_first i) rest) ∙ ap (λ b. b && rest) (sym (distinct_more t i (omega arith))) ∙ distinct-from n (i + 1) (omega arith)

  pub distinct-all : list_all is_first (range_with_len 0 (length t)) ≡ distinct t
  distinct-all = distinct-from (length t) 0 (omega arith)
