-- Where the program of a source goes in the 32 addresses of an instruction memory, as a number (RP2040 Datasheet, 3.2.1; `.origin`:
-- 3.3, Directives). That a program without an origin takes the least free offset is the project's own.
use Rattle.std.specs.Prelude.{ℕ, zero, suc, ◌+◌, ◌/◌, ◌%◌, ◌^◌, bit_or, Bool, true, ◌&&◌, ◌==◌, nat_lt, if◌then◌else◌, Option, None, Some, Result, Ok, Err}
use Rattle.pio_parse.specs.declared.fault.PioFault.{PioFault}
use Rattle.pio_parse.specs.declared.fault.PioFault.TheVariants.{NoRoom}

-- an address is free where its bit is 0; one above 31 is never free
abbrev pub is_free : ℕ → ℕ → Bool
is_free used address = nat_lt address 32 && (used / 2 ^ address % 2 == 0)

-- so many addresses from an offset on are free
abbrev pub are_free : ℕ → ℕ → ℕ → Bool
are_free used offset zero = true
are_free used offset (suc count) = is_free used (offset + count) && are_free used offset count

-- the least offset from this one on, of so many, from which so many addresses are free
abbrev pub least_free : ℕ → ℕ → ℕ → ℕ → Option ℕ
least_free used count zero offset = None
least_free used count (suc tries) offset =
    if are_free used offset count then Some offset else least_free used count tries (offset + 1)

-- the origin, or the least offset whose run of addresses is free; none where these are not free
unfoldable pub offset_for : ℕ → Option ℕ → ℕ → Option ℕ
offset_for used None count = least_free used count 32 0
offset_for used (Some origin) count = if are_free used origin count then Some origin else None

abbrev pub or_no_room : ℕ → Option ℕ → Result ℕ PioFault
or_no_room count None = Err (NoRoom count)
or_no_room count (Some offset) = Ok offset

-- the offset of a program, or NoRoom with its length
abbrev pub placed : ℕ → Option ℕ → ℕ → Result ℕ PioFault
placed used origin count = or_no_room count (offset_for used origin count)

-- the addresses that are taken, one bit each, once so many from an offset on are taken too
abbrev pub with_addresses : ℕ → ℕ → ℕ → ℕ
with_addresses used offset zero = used
with_addresses used offset (suc count) = bit_or (with_addresses used offset count) (2 ^ (offset + count))
