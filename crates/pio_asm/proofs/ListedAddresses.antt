-- Addresses of an instruction memory that are free.
use Rattle.std.proofs.Common.{◌≡◌, ℕ, zero, suc, ◌+◌, ◌-◌, ◌<◌, ◌≤◌, true, false, Option, None, Some, Result, Ok, Err, IfOk, IfErr, refl, sym, ap, subst, arith, inl, inr, ◌∙◌}
use Rattle.pio_asm.proofs.Shared.{both, eqb_tells, PioFault, NoRoom}
use Rattle.pio_asm.specs.Addresses.{IsFree, AreFree, IsAddressFor, HasNoAddress}
use Rattle.pio_asm.specs.Placing.{is_free, are_free, least_free, offset_for, or_no_room, placed}

is_free_of : (used address : ℕ) → IsFree used address → is_free used address ≡ true
is_free_of used address h = grind (arith, h.0, h.1)

free_of : (used address : ℕ) → is_free used address ≡ true → IsFree used address
free_of used address h = grind (arith, h)

are_free_of : (used offset count : ℕ) → AreFree used offset count → are_free used offset count ≡ true
are_free_of used offset zero h = refl
are_free_of used offset (suc count) h =
    rw (is_free_of used (offset + count) (h count (omega arith))) (are_free_of used offset count (λ index lt. h index (omega (arith, lt))))

free_runs : (used offset count : ℕ) → are_free used offset count ≡ true → AreFree used offset count
free_runs used offset zero h index lt = absurd (omega (arith, lt))
free_runs used offset (suc count) h index lt =
    let parts = both (is_free used (offset + count)) (are_free used offset count) h in
    elim (eqb_tells index count) [
      | inl e ↦ subst (λ (i : ℕ). IsFree used (offset + i)) (sym e.1) (free_of used (offset + count) parts.0)
      | inr e ↦ let ne = e.1 in free_runs used offset count parts.1 index (omega (arith, lt, ne))
    ]

not_free : (used offset count : ℕ) → (AreFree used offset count → ⊥) → are_free used offset count ≡ false
not_free used offset count taken = elim (are_free used offset count) as (λ b. are_free used offset count ≡ b → b ≡ false) [
  | true ↦ λ e. absurd (taken (free_runs used offset count e))
  | false ↦ λ e. refl
] refl

least_is : (used count tries offset address : ℕ) → AreFree used address count → ((lower : ℕ) → lower < address → AreFree used lower count → ⊥) → offset ≤ address → address < offset + tries → least_free used count tries offset ≡ Some address
least_is used count zero offset address free least le lt = absurd (omega (arith, le, lt))
least_is used count (suc tries) offset address free least le lt = elim (eqb_tells offset address) [
  | inl e ↦ let here : are_free used offset count ≡ true = subst (λ (o : ℕ). are_free used o count ≡ true) (sym e.1) (are_free_of used address count free) in rw here (ap Some e.1)
  | inr e ↦
      let ne = e.1 in
      let here : are_free used offset count ≡ false = not_free used offset count (least offset (omega (arith, le, ne))) in
      rw here (least_is used count tries (offset + 1) address free least (omega (arith, le, ne)) (omega (arith, lt)))
]

-- an address from which so many are free is below 32, if it is the least one
low_address : (used count address : ℕ) → AreFree used address count → ((lower : ℕ) → lower < address → AreFree used lower count → ⊥) → address < 32
low_address used zero zero free least = omega arith
low_address used zero (suc address) free least = absurd (least 0 (omega arith) (λ index lt. absurd (omega (arith, lt))))
low_address used (suc count) address free least = let at : address + 0 < 32 = (free 0 (omega arith)).0 in omega (arith, at)

none_is : (used count tries offset : ℕ) → ((address : ℕ) → address < 32 → AreFree used address count → ⊥) → offset + tries ≤ 32 → least_free used count tries offset ≡ None
none_is used count zero offset none le = refl
none_is used count (suc tries) offset none le =
    let here : are_free used offset count ≡ false = not_free used offset count (none offset (omega (arith, le))) in
    rw here (none_is used count tries (offset + 1) none (omega (arith, le)))

-- the address for a program is its offset
pub offset_of_address : (used : ℕ) (origin : Option ℕ) (count address : ℕ) → IsAddressFor used origin count address → offset_for used origin count ≡ Some address
unfolding offset_for
offset_of_address used None count address h = least_is used count 32 0 address h.0 h.1 (omega arith) (low_address used count address h.0 h.1)
offset_of_address used (Some origin) count address h = rw (are_free_of used origin count h.1) (ap Some (sym h.0))

-- where there is no address, there is no offset
pub no_offset : (used : ℕ) (origin : Option ℕ) (count : ℕ) → HasNoAddress used origin count → offset_for used origin count ≡ None
unfolding offset_for
no_offset used None count h = none_is used count 32 0 h (omega arith)
no_offset used (Some origin) count h = rw (not_free used origin count h) refl

-- so many addresses that are free, at least one, end within the 32
pub address_within : (used : ℕ) (origin : Option ℕ) (count address : ℕ) → IsAddressFor used origin count address → 0 < count → address + count ≤ 32
address_within used None count address h some = let at : address + (count - 1) < 32 = (h.0 (count - 1) (omega (arith, some))).0 in omega (arith, at, some)
address_within used (Some origin) count address h some =
    let at : origin + (count - 1) < 32 = (h.1 (count - 1) (omega (arith, some))).0 in let same : address ≡ origin = h.0 in omega (arith, at, some, same)

-- ---- the answer of a placing

pub placed_ok : (used : ℕ) (origin : Option ℕ) (count : ℕ) (result : Result ℕ PioFault) → IfOk result (IsAddressFor used origin count) → IfOk result (λ offset. placed used origin count ≡ Ok offset)
placed_ok used origin count (Ok offset) h = ap (or_no_room count) (offset_of_address used origin count offset h)
placed_ok used origin count (Err fault) h = tt

pub placed_room : (used : ℕ) (origin : Option ℕ) (count : ℕ) (result : Result ℕ PioFault) → 0 < count → IfOk result (IsAddressFor used origin count) → IfOk result (λ offset. offset + count ≤ 32)
placed_room used origin count (Ok offset) some h = address_within used origin count offset h some
placed_room used origin count (Err fault) some h = tt

pub placed_err : (used : ℕ) (origin : Option ℕ) (count : ℕ) (result : Result ℕ PioFault) → IfErr result (λ fault. (fault ≡ NoRoom count) × HasNoAddress used origin count) → IfErr result (λ fault. placed used origin count ≡ Err fault)
placed_err used origin count (Ok offset) h = tt
placed_err used origin count (Err fault) h = ap (or_no_room count) (no_offset used origin count h.1) ∙ ap Err (sym h.0)
