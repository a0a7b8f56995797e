-- The majority rule: its laws, and that it gives v exactly if v makes up more than half of the values.
use Rattle.std.specs.Prelude.{◌≡◌, ℕ, ◌+◌, ◌<◌, ◌≤◌, cond, List, [], ◌∷◌, Some, None, Option, ◌==◌, ◌≢◌, nat_eq, refl}
use Rattle.std.specs.Option.{option_eq}
use Rattle.std.proofs.Common.{sym, ap, subst, ◌∙◌, ⊎_elim, arith}
use Rattle.std.proofs.lemmas.Bool.{ltb-true, lt-ltb, eq-eqb, ne_eqb, cases_eq}
use Rattle.std.proofs.lemmas.Bool.Decides.{nat_tests}
use Rattle.std.proofs.lemmas.List.Sums.{sum_by-cons}
use Rattle.values.specs.Reports.{Reported, first, later, reported_values, values, votes, leading, Most, Exactly, leader, majority}
use Rattle.values.specs.Laws.{NoneWithoutValue, UnanimousValueGiven}
use Rattle.values.specs.Members.{reported_values-silent, find_passes, find_only}

-- one more report: its value's votes are one more, and the others' are as many
votes-cons : (v x : ℕ) (rs : List (Option ℕ)) → votes v (Some x ∷ rs) ≡ cond (x == v) 1 0 + votes v rs
votes-cons v x rs = sum_by-cons (λ r. cond (option_eq nat_eq r (Some v)) 1 0) (Some x) rs

-- a report is a vote for one value at most
one-vote : (x v w : ℕ) → (w ≢ v) → cond (x == v) 1 0 + cond (x == w) 1 0 ≤ 1
one-vote x v w ne = grind (arith, nat_tests)

-- a value with votes is reported
voted-reported : (v : ℕ) (rs : List (Option ℕ)) → 0 < votes v rs → Reported v rs
voted-reported v [] h = absurd (omega arith)
voted-reported v (None ∷ rs) h = later (voted-reported v rs h)
voted-reported v (Some x ∷ rs) h =
    ⊎_elim (λ same. subst (λ y. Reported v (Some y ∷ rs)) (sym same) first)
    (λ other. later (voted-reported v rs (omega (arith, votes-cons v x rs, ap {B = ℕ} (λ b. cond b 1 0) (ne_eqb x v other)))))
    (cases_eq x v)

-- two different values share the values among them
votes-apart : (v w : ℕ) (rs : List (Option ℕ)) → (w ≢ v) → votes v rs + votes w rs ≤ values rs
votes-apart v w [] ne = omega arith
votes-apart v w (None ∷ rs) ne = votes-apart v w rs ne
votes-apart v w (Some x ∷ rs) ne =
    omega (arith, votes-cons v x rs, votes-cons w x rs, one-vote x v w ne, votes-apart v w rs ne)

-- at most one value makes up more than half
one-most : (v w : ℕ) (rs : List (Option ℕ)) → Most v rs → Most w rs → w ≡ v
one-most v w rs mv mw =
    ⊎_elim (λ same. same) (λ other. absurd (omega (arith, votes-apart v w rs other))) (cases_eq w v)

-- what is given makes up more than half
leader-most : (all rs : List (Option ℕ)) (v : ℕ) → leader all rs ≡ Some v → Most v all
leader-most all rs v e = ltb-true _ _ (find_passes (λ w. leading w all) (reported_values rs) v e)

-- what makes up more than half of all, and is reported here, is given
most-leader : (all rs : List (Option ℕ)) (v : ℕ) → Most v all → Reported v rs → leader all rs ≡ Some v
most-leader all rs v m =
    find_only (λ w. leading w all) rs v (lt-ltb _ _ m) (λ w t. one-most v w all m (ltb-true _ _ t))

-- where no value is reported none is given
silent-leader : (all rs : List (Option ℕ)) → ((v : ℕ) → Reported v rs → ⊥) → leader all rs ≡ None
silent-leader all rs h = rw (reported_values-silent rs h)

-- where v alone is reported, every value is v
only-votes : (v : ℕ) (rs : List (Option ℕ)) → ((w : ℕ) → Reported w rs → w ≡ v) → votes v rs ≡ values rs
only-votes v [] h = refl
only-votes v (None ∷ rs) h = only-votes v rs (λ w k. h w (later k))
only-votes v (Some x ∷ rs) h =
    let below = only-votes v rs (λ w k. h w (later k)) in
    omega (arith, below, votes-cons v x rs, ap {B = ℕ} (λ b. cond b 1 0) (eq-eqb x v (h x first)))

-- where a value is reported there is one
some-values : (v : ℕ) (rs : List (Option ℕ)) → Reported v rs → 0 < values rs
some-values v [] k = elim k [ ]
some-values v (None ∷ rs) (later k) = some-values v rs k
some-values v (Some x ∷ rs) k = omega arith

-- the two laws
pub majority-silent : NoneWithoutValue majority
majority-silent rs h = silent-leader rs rs h

-- what makes up more than half is given
most-majority : (rs : List (Option ℕ)) (v : ℕ) → Most v rs → majority rs ≡ Some v
most-majority rs v m = most-leader rs rs v m (voted-reported v rs (omega arith))

pub only-majority : UnanimousValueGiven majority
only-majority rs v o = most-majority rs v (omega (arith, only-votes v rs o.1, some-values v rs o.0))

-- what the rule gives, in its own words
pub majority-exact : (rs : List (Option ℕ)) (r : Option ℕ) → r ≡ majority rs → Exactly r (λ v. Most v rs)
majority-exact rs r is v = (λ e. leader-most rs rs v (sym is ∙ e), λ m. is ∙ most-majority rs v m)
