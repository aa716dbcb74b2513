-- What a register block does that its bit of RESETS holds in its reset state (RP2040 Datasheet, 2.14, Subsystem Resets; that it
-- reads 0 and ignores accesses meanwhile is the project's own).
use Rattle.std.specs.Prelude.{ℕ, Bool, if◌then◌else◌, Option, Some, None}

-- a word reads 0 while its block is held; there is no other word then
abbrev pub unless_held : Bool → Option ℕ → Option ℕ
unless_held held None = None
unless_held held (Some word) = Some (if held then 0 else word)

-- a block that is held stays as it is
abbrev pub stays_if : {S : Type 0} → Bool → S → S → S
stays_if held s after = if held then s else after

-- what an access does: nothing where it is not allowed, and nothing to a block that is held
abbrev pub after_access : {S : Type 0} → Bool → Bool → S → S → S
after_access allowed held s after = if allowed then stays_if held s after else s

-- setting the bit puts a block in its reset state
abbrev pub reset_if : {S : Type 0} → Bool → S → S → S
reset_if held first s = if held then first else s
