-- The bits of a halfword that the patterns ask for which are left out.
use Rattle.std.proofs.Common.{◌≡◌, ℕ, ◌*◌, ◌/◌, ◌<◌, refl}
use Rattle.std.specs.Prelude.{bit_and}
use Rattle.thumb_rows.proofs.Laws.{high_bits, list_bits, whole}

pub high_byte : (w : ℕ) → w < 65536 → bit_and w 0xFF00 ≡ w / 256 * 256
high_byte w small = high_bits 8 w refl small

pub ruleset left_out = (whole, high_byte, list_bits)
