-- Which values stand in a list of reports.
use Rattle.std.specs.Prelude.{◌≡◌, ℕ, ◌⊎◌, Bool, true, List, [], ◌∷◌, Some, None, Option, find, refl}
use Rattle.std.proofs.Common.{inl, inr, ap, ◌∙◌, ⊎_elim, arith}
use Rattle.std.proofs.lemmas.Bool.{cases_Bool, both_ways}
use Rattle.values.specs.Reports.{Reported, first, later, reported_values}

-- none is no value
pub none-given : {A : Type 0} (v : ℕ) → ◌≡◌ {A = Option ℕ} None (Some v) → A
none-given v e = let z : ◌≡◌ {A = ℕ} 0 1 = cc in absurd (omega arith)

-- what stands in a list is its first value, or stands behind it
pub here-or-later : (v x : ℕ) (rs : List (Option ℕ)) → Reported v (Some x ∷ rs) → (x ≡ v) ⊎ Reported v rs
here-or-later v x rs first = inl refl
here-or-later v x rs (later k) = inr k

-- where no value is reported there is none
pub reported_values-silent : (rs : List (Option ℕ)) → ((v : ℕ) → Reported v rs → ⊥) → reported_values rs ≡ []
reported_values-silent [] h = refl
reported_values-silent (None ∷ rs) h = reported_values-silent rs (λ v k. h v (later k))
reported_values-silent (Some v ∷ rs) h = absurd (h v first)

-- what is found passes the test
pub find_passes : (p : ℕ → Bool) (xs : List ℕ) (v : ℕ) → find p xs ≡ Some v → p v ≡ true
find_passes p [] v e = none-given v e
find_passes p (x ∷ xs) v e =
    ⊎_elim (λ yes. let same : x ≡ v = cc in cc) (λ no. find_passes p xs v (rw no at e)) (cases_Bool (p x))

-- the one value that passes the test is found where it is reported
pub find_only : (p : ℕ → Bool) (rs : List (Option ℕ)) (v : ℕ) → p v ≡ true → ((w : ℕ) → p w ≡ true → w ≡ v) →
    Reported v rs → find p (reported_values rs) ≡ Some v
find_only p [] v pass only k = elim k [ ]
find_only p (None ∷ rs) v pass only (later k) = find_only p rs v pass only k
find_only p (Some x ∷ rs) v pass only k =
    ⊎_elim (λ yes. rw yes (ap Some (only x yes)))
    (λ no. rw no (⊎_elim (λ here. absurd (both_ways (p x) no (ap p here ∙ pass))) (find_only p rs v pass only)
    (here-or-later v x rs k))) (cases_Bool (p x))
