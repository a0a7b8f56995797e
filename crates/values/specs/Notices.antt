-- Notices: their numbers, and which values stand for one.
use Rattle.std.specs.Prelude.{◌≡◌, ℕ, Bool, false, if◌then◌else◌, is_some, Some, None, Option, ◌==◌}
use Rattle.values.specs.declared.notice.Notice.{Notice}
use Rattle.values.specs.declared.notice.Notice.TheVariants.{Released, Burst, Landed, Lost}

abbrev pub notice_bits : Notice → ℕ
notice_bits Released = 1
notice_bits Burst = 2
notice_bits Landed = 3
notice_bits Lost = 4

-- the notice that a value stands for
abbrev pub notice_of : ℕ → Option Notice
notice_of v =
    if v == 1 then Some Released
    else if v == 2 then Some Burst
    else if v == 3 then Some Landed
    else if v == 4 then Some Lost
    else None

-- the kind allows the values that stand for a notice
abbrev pub notice_allowed : ℕ → Bool
notice_allowed v = is_some (notice_of v)

-- the value is that of the notice, or stands for none
abbrev pub IsNotice : ℕ → Option Notice → Type 0
IsNotice v None = notice_allowed v ≡ false
IsNotice v (Some n) = notice_bits n ≡ v
