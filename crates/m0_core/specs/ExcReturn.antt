-- What an entry leaves in LR (ARMv6-M Architecture Reference Manual, B1.5.8, Exception return behavior), and how many beats an entry
-- and a return have (the project's own).
use Rattle.std.specs.Prelude.{ℕ}

-- EXC_RETURN of a return to Handler mode
abbrev pub TO_HANDLER : ℕ
TO_HANDLER = 0xfffffff1

-- EXC_RETURN of a return to Thread mode on the main stack
abbrev pub TO_MAIN : ℕ
TO_MAIN = 0xfffffff9

-- EXC_RETURN of a return to Thread mode on the process stack
abbrev pub TO_PROCESS : ℕ
TO_PROCESS = 0xfffffffd

-- how many beats an entry has: it takes the exception, stacks eight words, reads the vector, and has five inner ones
abbrev pub ENTRY_BEATS : ℕ
ENTRY_BEATS = 15

-- how many beats a return has: an inner one, eight reads, and four inner ones
abbrev pub RETURN_BEATS : ℕ
RETURN_BEATS = 13
