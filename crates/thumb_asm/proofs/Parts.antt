-- The image of some bytes can be written.
use Rattle.std.proofs.Common.{◌≡◌, ◌≤◌, ◌<◌, ℕ, zero, suc, ◌+◌, ◌-◌, ◌*◌, ◌/◌, min, List, [], ◌∷◌, ◌++◌, length, drop, refl, sym, ap, ◌∙◌, arith, length-drop, length-take}
use Rattle.std.specs.Prelude.{map}
use Rattle.std.specs.List.{range_with_len, AllByRecursion}
use Rattle.std.proofs.lemmas.List.FromFn.{length-map-range_with_len, map-range_with_len_more}
use Rattle.uf2_image.specs.declared.parts.Part.{Part}
use Rattle.uf2_image.specs.Uf2.{LieFrom}
use Rattle.uf2_image.specs.Writing.{IsSized, IsWritable}
use Rattle.thumb_asm.specs.Source.{image_with, part_at, parts_of}

part_length : (bytes : List ℕ) (k : ℕ) → length (part_at bytes k).bytes ≡ min 256 (length bytes - 256 * k)
part_length bytes k = length-take 256 (drop (256 * k) bytes) ∙ ap (min 256) (length-drop (256 * k) bytes)

lie : (bytes : List ℕ) (low k n : ℕ) → length bytes ≤ 0x42000 → low ≤ 0x2000_0000 + length bytes → low ≤ 0x2000_0000 + 256 * k →
    256 * (k + n) < length bytes + 256 → LieFrom low (map (part_at bytes) (range_with_len k n))
lie bytes low k zero fits end here last = omega (arith, fits, end)
lie bytes low k (suc n) fits end here last =
    let size = part_length bytes k in
    (here, lie bytes (0x2000_0000 + 256 * k + length (part_at bytes k).bytes) (k + 1) n fits (omega (arith, size, last)) (omega (arith, size)) (omega (arith, last)))

sized : (bytes : List ℕ) (k n : ℕ) → 256 * (k + n) < length bytes + 256 → AllByRecursion IsSized (map (part_at bytes) (range_with_len k n))
sized bytes k zero last = tt
sized bytes k (suc n) last =
    let size = part_length bytes k in
    (record { some = omega (arith, size, last); room = omega (arith, size) }, sized bytes (k + 1) n (omega (arith, last)))

of_count : (bytes : List ℕ) (n : ℕ) → length bytes ≤ 0x42000 → 0 < n → 256 * n < length bytes + 256 →
    IsWritable (record { parts = map (part_at bytes) (range_with_len 0 n); entry = 0x2000_0000 })
of_count bytes zero fits some last = absurd (omega (arith, some))
of_count bytes (suc n) fits some last = record {
  some = rw (length-map-range_with_len (part_at bytes) 0 (suc n)) some;
  few = rw (length-map-range_with_len (part_at bytes) 0 (suc n)) (omega (arith, fits, last));
  sizes = sized bytes 0 (suc n) (omega (arith, last));
  lies = lie bytes 0x2000_0000 0 (suc n) fits (omega arith) (omega arith) (omega (arith, last));
  entry = refl;
}

pub writable : (bytes : List ℕ) → 0 < length bytes → length bytes ≤ 0x42000 → IsWritable (image_with bytes)
unfolding parts_of
writable bytes some fits = of_count bytes ((length bytes + 255) / 256) fits (omega (arith, some)) (omega arith)

-- one part more
pub part_more : (bytes : List ℕ) (k : ℕ) (ys zs : List Part) (p : Part) → zs ≡ ys ++ p ∷ [] → ys ≡ map (part_at bytes) (range_with_len 0 k) →
    p ≡ part_at bytes k → zs ≡ map (part_at bytes) (range_with_len 0 (k + 1))
part_more bytes k ys zs p h i j =
    h ∙ ap (λ l. l ++ p ∷ []) i ∙ ap (λ p. map (part_at bytes) (range_with_len 0 k) ++ p ∷ []) j
    ∙ sym (map-range_with_len_more (part_at bytes) 0 k k (omega arith))
