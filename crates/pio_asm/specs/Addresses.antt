-- Where a program goes in the 32 addresses of the instruction memory (RP2040 Datasheet, 3.2.1; `.origin`: 3.3, Directives). That a
-- program without an origin takes the least free address is the project's own.
use Rattle.std.specs.Prelude.{◌≡◌, ℕ, ◌+◌, ◌/◌, ◌%◌, ◌^◌, ◌<◌, Option, None, Some}

-- an address of the instruction memory is free where its bit is 0; one above 31 is never free
abbrev pub IsFree : ℕ → ℕ → Type 0
IsFree used address = (address < 32) × (used / 2 ^ address % 2 ≡ 0)

-- a run of addresses is free
abbrev pub AreFree : ℕ → ℕ → ℕ → Type 0
AreFree used offset count = (index : ℕ) → index < count → IsFree used (offset + index)

-- where a program goes: to its origin, or to the least address from which enough are free
abbrev pub IsAddressFor : ℕ → Option ℕ → ℕ → ℕ → Type 0
IsAddressFor used None count address = AreFree used address count × ((lower : ℕ) → lower < address → ¬ AreFree used lower count)
IsAddressFor used (Some origin) count address = (address ≡ origin) × AreFree used origin count

-- a program finds no room
abbrev pub HasNoAddress : ℕ → Option ℕ → ℕ → Type 0
HasNoAddress used None count = (address : ℕ) → address < 32 → ¬ AreFree used address count
HasNoAddress used (Some origin) count = ¬ AreFree used origin count
