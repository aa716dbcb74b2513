-- Products (ARMv6-M Architecture Reference Manual, A6.7.44, MUL).
use Rattle.std.specs.Prelude.{ℕ, ◌*◌, ◌%◌, ◌^◌}

-- the low word of the product, which is the same for signed and for unsigned numbers
abbrev pub product_of : ℕ → ℕ → ℕ
product_of x y = x * y % 2 ^ 32
