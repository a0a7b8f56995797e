-- The sole rule: its laws, and that it gives v exactly if v stands in the list and no other value does.
use Rattle.std.specs.Prelude.{◌≡◌, ℕ, true, List, [], ◌∷◌, Some, None, Option, ◌==◌, if◌then◌else◌, refl}
use Rattle.std.proofs.Common.{sym, ap, subst, ◌∙◌, ⊎_elim}
use Rattle.std.proofs.lemmas.Bool.{eq-eqb, eqb-true, and_parts}
use Rattle.std.proofs.lemmas.Option.{same_Some, cond_some, option_and_then_some}
use Rattle.values.specs.Reports.{Reported, first, later, Only, Exactly, first_value, agree, sole}
use Rattle.values.specs.Laws.{NoneWithoutValue, UnanimousValueGiven}
use Rattle.values.specs.Members.{none-given, here-or-later, reported_values-silent}

-- the first value is reported
first-reported : (rs : List (Option ℕ)) (v : ℕ) → first_value rs ≡ Some v → Reported v rs
first-reported [] v e = none-given v e
first-reported (None ∷ rs) v e = later (first-reported rs v e)
first-reported (Some w ∷ rs) v e = subst (λ x. Reported v (Some x ∷ rs)) (sym (same_Some w v e)) first

-- where no value is reported there is no first one
silent-first : (rs : List (Option ℕ)) → ((v : ℕ) → Reported v rs → ⊥) → first_value rs ≡ None
silent-first rs h = rw (reported_values-silent rs h)

-- where v alone is reported it is the first value
only-first : (rs : List (Option ℕ)) (v : ℕ) → Reported v rs → ((w : ℕ) → Reported w rs → w ≡ v) → first_value rs ≡ Some v
only-first [] v k h = elim k [ ]
only-first (None ∷ rs) v (later k) h = only-first rs v k (λ w j. h w (later j))
only-first (Some x ∷ rs) v k h = ap Some (h x first)

-- the test whether all values are v
agree-all : (v : ℕ) (rs : List (Option ℕ)) → ((w : ℕ) → Reported w rs → w ≡ v) → agree v rs ≡ true
agree-all v [] h = refl
agree-all v (None ∷ rs) h = agree-all v rs (λ w k. h w (later k))
agree-all v (Some x ∷ rs) h = rw (eq-eqb x v (h x first)) (agree-all v rs (λ w k. h w (later k)))

all-agree : (v : ℕ) (rs : List (Option ℕ)) → agree v rs ≡ true → (w : ℕ) → Reported w rs → w ≡ v
all-agree v [] e w k = elim k [ ]
all-agree v (None ∷ rs) e w (later k) = all-agree v rs e w k
all-agree v (Some x ∷ rs) e w k =
    let both = and_parts (x == v) (agree v rs) e in
    ⊎_elim (λ here. sym here ∙ eqb-true x v both.0) (all-agree v rs both.1 w) (here-or-later w x rs k)

-- the two laws
pub sole-silent : NoneWithoutValue sole
sole-silent rs h = rw (silent-first rs h)

pub only-sole : UnanimousValueGiven sole
only-sole rs v o = rw (only-first rs v o.0 o.1, agree-all v rs o.1)

-- what is given stands alone in the list
sole-only : (rs : List (Option ℕ)) (v : ℕ) → sole rs ≡ Some v → Only v rs
sole-only rs v e =
    option_and_then_some (λ w. if agree w rs then Some w else None) (first_value rs) v e (λ w f c.
    let both = cond_some (agree w rs) w v c in
    subst (λ x. Only x rs) both.1 (first-reported rs w f, all-agree w rs both.0))

-- what the rule gives, in its own words
pub sole-exact : (rs : List (Option ℕ)) (r : Option ℕ) → r ≡ sole rs → Exactly r (λ v. Only v rs)
sole-exact rs r is v = (λ e. sole-only rs v (sym is ∙ e), λ o. is ∙ only-sole rs v o)
