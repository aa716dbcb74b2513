-- Registers of a list, one after the other.
use Rattle.std.proofs.Common.{◌≡◌, ◌≤◌, ◌<◌, ℕ, suc, ◌+◌, ◌-◌, nat_lt, Bool, true, false, ◌&&◌, List, [], ◌∷◌, ◌++◌, refl, ap, ◌∙◌, arith}
use Rattle.std.specs.Prelude.{nat_le}
use Rattle.std.specs.List.{range_with_len}
use Rattle.std.proofs.lemmas.Bool.Decides.{nat_tests}
use Rattle.thumb_parse.specs.declared.operands.RegisterList.{RegisterList}
use Rattle.thumb_parse.specs.Lists.{ascend_from, bits_with}
use Rattle.thumb_parse.specs.descent.Operands.{no_registers, with_range, with_register, with_registers}

pub range_down : (list : RegisterList) (first last : ℕ) → last < first → with_range list first last ≡ with_register (with_register list first) last
unfolding with_registers
range_down list first last h =
    let down : nat_lt last first ≡ true = grind (arith, nat_tests) in rw down refl

-- the registers above this one, up to the last
abbrev pub rest_of : ℕ → ℕ → List ℕ
rest_of r last = range_with_len (r + 1) (last - r)

pub range_up : (list : RegisterList) (first last : ℕ) → first ≤ last → with_range list first last ≡ with_registers (with_register list first) (rest_of first last)
unfolding with_registers
range_up list first last h =
    let up : nat_lt last first ≡ false = grind (arith, nat_tests) in
    let one : last - first + 1 ≡ suc (last - first) = omega arith in
    rw up (ap (λ count. with_registers list (range_with_len first count)) one)

pub registers_more : (list : RegisterList) (r last : ℕ) → r < last →
    with_registers list (rest_of r last) ≡ with_registers (with_register list (r + 1)) (rest_of (r + 1) last)
unfolding with_registers
registers_more list r last h =
    let one : last - r ≡ suc (last - (r + 1)) = omega (arith, h) in rw one refl

pub registers_none : (list : RegisterList) (r last : ℕ) → last ≤ r → with_registers list (rest_of r last) ≡ list
unfolding with_registers
registers_none list r last h = let none : last - r ≡ 0 = omega (arith, h) in rw none refl

-- ---- a list by its registers

pub registers_append : (list : RegisterList) (rs more : List ℕ) → with_registers list (rs ++ more) ≡ with_registers (with_registers list rs) more
unfolding with_registers
registers_append list [] more = refl
registers_append list (r ∷ rs) more = registers_append (with_register list r) rs more

bits_of : (list : RegisterList) (rs : List ℕ) → (with_registers list rs).mask ≡ bits_with list.mask rs
unfolding with_registers
bits_of list [] = refl
bits_of list (r ∷ rs) = bits_of (with_register list r) rs

and_true : (a : Bool) → a ≡ (a && true)
and_true true = refl
and_true false = refl

and_assoc : (a b c : Bool) → ((a && b) && c) ≡ (a && (b && c))
and_assoc true b c = refl
and_assoc false b c = refl

ascends_of : (list : RegisterList) (rs : List ℕ) → (with_registers list rs).ascends ≡ (list.ascends && ascend_from list.next rs)
unfolding with_registers
ascends_of list [] = and_true list.ascends
ascends_of list (r ∷ rs) = ascends_of (with_register list r) rs ∙ and_assoc list.ascends (nat_le list.next r) (ascend_from (r + 1) rs)

-- what is made of a list's fields is made of its registers
pub by_registers : {X : Type 0} (f : Bool → ℕ → X) (rs : List ℕ) →
    f (with_registers no_registers rs).ascends (with_registers no_registers rs).mask ≡ f (ascend_from 0 rs) (bits_with 0 rs)
by_registers f rs =
    ap (λ ascends. f ascends (with_registers no_registers rs).mask) (ascends_of no_registers rs)
    ∙ ap (f (ascend_from 0 rs)) (bits_of no_registers rs)
