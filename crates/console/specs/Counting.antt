-- Counting cases.
use Rattle.std.specs.Prelude.{ℕ, ◌+◌, ◌-◌, ◌^◌, min, Bool, cond}
use Rattle.console.specs.declared.counts.Counts.{Counts}

-- one more, up to the largest number of 32 bits
abbrev pub one_more : ℕ → ℕ
one_more n = min (n + 1) (2 ^ 32 - 1)

-- one case more, and one that differs more if this one does
abbrev pub counted : Counts → Bool → Counts
counted c differs = record { cases = one_more c.cases; differing = cond differs (one_more c.differing) c.differing }

-- before the first case
abbrev pub no_cases : Counts
no_cases = record { cases = 0; differing = 0 }
