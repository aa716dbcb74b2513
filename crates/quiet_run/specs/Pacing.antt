-- When a way over many cycles is tried (the project's own): behind a try that went over none, after one, three, seven and then always
-- fifteen cycles; behind one that went over some, at once, and then after one again.
use Rattle.std.specs.Prelude.{ℕ, ◌+◌, ◌*◌, ◌-◌, ◌%◌, ◌^◌, ◌==◌, if◌then◌else◌, min}
use Rattle.quiet_run.specs.declared.ways.Pace.{Pace}

-- how far the next try is behind one that went over none, where that one was so far behind the one before
abbrev pub farther : ℕ → ℕ
farther apart = apart % 8 * 2 + 1

-- the pace behind a try at a cycle that went over so many
abbrev pub paced : ℕ → ℕ → Pace → Pace
paced at done pace =
    if done == 0
    then record { next = min (at + farther pace.apart) (2 ^ 64 - 1); apart = farther pace.apart }
    else record pace { apart = 0 }
