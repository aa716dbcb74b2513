-- Parts of a word as words, and its bytes in another order (ARMv6-M Architecture Reference Manual, A6.7.51 to A6.7.53,
-- A6.7.69, A6.7.70, A6.7.73 and A6.7.74).
use Rattle.std.specs.Prelude.{ℕ, ◌+◌, ◌*◌, ◌%◌, ◌^◌}
use Rattle.std.specs.Int.{w8, w16, cast_signed}
use Rattle.rp_base.specs.Word.{word_of, byte_of, joined}
use Rattle.m0_alu.specs.declared.ExtendKind.{ExtendKind}
use Rattle.m0_alu.specs.declared.ExtendKind.TheVariants.{Sxth, Sxtb, Uxth, Uxtb, Rev, Rev16, Revsh}

-- the word of a signed halfword, and of a signed byte
abbrev pub signed_half : ℕ → ℕ
signed_half half = word_of (cast_signed w16 half)

abbrev pub signed_byte : ℕ → ℕ
signed_byte byte = word_of (cast_signed w8 byte)

abbrev pub extended : ExtendKind → ℕ → ℕ
extended Sxth x = signed_half (x % 2 ^ 16)
extended Sxtb x = signed_byte (x % 2 ^ 8)
extended Uxth x = x % 2 ^ 16
extended Uxtb x = x % 2 ^ 8
extended Rev x = joined (byte_of x 0) (byte_of x 1) (byte_of x 2) (byte_of x 3)
extended Rev16 x = joined (byte_of x 2) (byte_of x 3) (byte_of x 0) (byte_of x 1)
extended Revsh x = signed_half (byte_of x 0 * 2 ^ 8 + byte_of x 1)
