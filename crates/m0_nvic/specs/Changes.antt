-- How exceptions become pending and active (ARMv6-M Architecture Reference Manual, B1.5.6 and B1.5.8).
use Rattle.std.specs.Prelude.{ℕ, Bool, ◌^◌, not, ◌||◌, ◌==◌, if◌then◌else◌, bit_or}
use Rattle.m0_nvic.specs.State.{State}
use Rattle.m0_nvic.specs.Numbers.{is_number, minus}

-- the exceptions of a set become pending; one that was not pending arrives
abbrev pub with_pending : ℕ → State → State
with_pending set s =
    record s { pending = bit_or s.pending set; arrived = s.arrived || not (minus set s.pending == 0) }

-- the exceptions of a set are not pending any more
abbrev pub without_pending : ℕ → State → State
without_pending set s = record s { pending = minus s.pending set }

-- an exception becomes pending
abbrev pub pended : ℕ → State → State
pended n s = if is_number n then with_pending (2 ^ n) s else s

-- it is taken: it is not pending any more, and active
abbrev pub entered : ℕ → State → State
entered n s =
    if is_number n
    then record s { pending = minus s.pending (2 ^ n); active = bit_or s.active (2 ^ n) }
    else s

-- it has returned
abbrev pub left : ℕ → State → State
left n s = if is_number n then record s { active = minus s.active (2 ^ n) } else s

-- no exception but this one is active
abbrev pub is_alone : ℕ → State → Bool
is_alone n s = (left n s).active == 0
