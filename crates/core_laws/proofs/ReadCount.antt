-- No instruction reads more than 16 values.
use Rattle.std.proofs.Common.{◌≡◌, ℕ, suc, ◌+◌, ◌≤◌, ◌*◌, ◌%◌, ◌^◌, Bool, true, false, cond, List, [], ◌∷◌, ◌++◌, length, refl, ap, arith}
use Rattle.core_laws.proofs.Shared.{Option, Some, None, map, filter, bit_number, has_bit, Op, Regs, Beat, Inner, Access, registers_of, accesses, pop_end, beats_of, register_of, sp_of}
use Rattle.rp_base.specs.declared.op.Op.TheVariants as op

-- how many of these beats read
abbrev pub is_read : Option ℕ → ℕ
is_read None = 1
is_read (Some write) = 0

abbrev pub reads_one : Beat → ℕ
reads_one Inner = 0
reads_one (Access request) = is_read request.write

abbrev pub reading : List Beat → ℕ
reading [] = 0
reading (beat ∷ beats) = reads_one beat + reading beats

is_read-le : (w : Option ℕ) → is_read w ≤ 1
is_read-le None = omega arith
is_read-le (Some write) = omega arith

reading-accesses : (writes : List (Option ℕ)) (address : ℕ) → reading (accesses address writes) ≤ length writes
reading-accesses [] address = omega arith
reading-accesses (w ∷ ws) address = omega (arith, is_read-le w, reading-accesses ws ((address + 4) % 2 ^ 32))

reading-append : (xs ys : List Beat) → reading (xs ++ ys) ≡ reading xs + reading ys
reading-append [] ys = omega arith
reading-append (x ∷ xs) ys = omega (arith, reading-append xs ys)

map-length : (f : ℕ → Option ℕ) (ks : List ℕ) → length (map f ks) ≡ length ks
map-length f [] = refl
map-length f (k ∷ ks) = ap suc (map-length f ks)

filter-le : (p : ℕ → Bool) (ks : List ℕ) → length (filter p ks) ≤ length ks
filter-le p [] = omega arith
filter-le p (k ∷ ks) =
    let rest = filter-le p ks in
    elim (p k) as (λ b. length (cond b (k ∷ filter p ks) (filter p ks)) ≤ length (k ∷ ks)) [
      | true ↦ omega (arith, rest)
      | false ↦ omega (arith, rest)
    ]

registers-le : (list : ℕ) → length (registers_of list) ≤ 16
unfolding registers_of
registers-le list = filter-le (has_bit list) (0 ∷ 1 ∷ 2 ∷ 3 ∷ 4 ∷ 5 ∷ 6 ∷ 7 ∷ 8 ∷ 9 ∷ 10 ∷ 11 ∷ 12 ∷ 13 ∷ 14 ∷ 15 ∷ [])

reading-list : (f : ℕ → Option ℕ) (list address : ℕ) → reading (accesses address (map f (registers_of list))) ≤ 16
reading-list f list address =
    omega (arith, reading-accesses (map f (registers_of list)) address, map-length f (registers_of list), registers-le list)

-- one inner beat, and the accesses of a list
reading-many : (f : ℕ → Option ℕ) (list address : ℕ) → reading (Inner ∷ accesses address (map f (registers_of list))) ≤ 16
reading-many f list address = omega (arith, reading-list f list address)

reading-end : (b : Bool) → reading (cond b (Inner ∷ Inner ∷ []) []) ≡ 0
reading-end true = refl
reading-end false = refl

reading-pop : (address list : ℕ) → reading (Inner ∷ (accesses address (map (λ k. None) (registers_of list)) ++ pop_end list)) ≤ 16
reading-pop address list =
    omega (arith, reading-append (accesses address (map (λ k. None) (registers_of list))) (pop_end list), reading-list (λ k. None) list address, reading-end (has_bit list 15))

pub reading-le : (op : Op) (s : Regs) → reading (beats_of op s) ≤ 16
unfolding beats_of
reading-le (op.Push r l) s = reading-many (λ k. Some (register_of s k)) (bit_number r * 2 ^ 14 + l) _
reading-le (op.Pop r l) s = reading-pop (sp_of s) (bit_number r * 2 ^ 15 + l)
reading-le (op.Stm n l) s = reading-many (λ k. Some (register_of s k)) l (register_of s n)
reading-le (op.Ldm n l) s = reading-many (λ k. None) l (register_of s n)
reading-le _ s = search arith
