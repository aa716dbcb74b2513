-- Numbers, and sets of exceptions as numbers.
use Rattle.std.proofs.Common.{◌≡◌, ◌∙◌, ℕ, zero, suc, ◌-◌, ◌*◌, ◌^◌, ◌≤◌, ◌==◌, Bool, true, false, cond, refl, ap, ap₂, arith, true≢false}
use Rattle.core_laws.proofs.Shared.{Option, max, bit_or, bit_at, ne_eqb, bit_at_and, bit_at_or, bit_at-lt, Op, has_bit, SVCALL, Exceptions, is_number, is_member, minus, of_interrupts, with_pending, without_pending, pended, pended_if, cleared_if, is_call, called}
use Rattle.rp_base.proofs.Rows.{Kept, keeps}
use Rattle.m0_nvic.specs.Cycle as nvic
use Rattle.m0_nvic.specs.Words as words
use Rattle.core_laws.proofs.GivenBack.{bit_clear}
use Rattle.core_laws.proofs.Taken.{keeps_cycle}

-- ---- numbers

pub positive_by : (k : ℕ) → (k == 0) ≡ false → 1 ≤ k
positive_by zero e = absurd (true≢false e)
positive_by (suc k) e = omega arith

pub not_zero : (k : ℕ) → 1 ≤ k → (k == 0) ≡ false
not_zero k h = ne_eqb k 0 (λ e. absurd (omega (arith, h, e)))

-- ---- sets of exceptions

-- the active exceptions stay, and no exception 0 is enabled
pub record Leaves (e f : Exceptions) : Type 0 where
  pub active : f.active ≡ e.active
  pub numbered : is_member 0 e.enabled ≡ false → is_member 0 f.enabled ≡ false

pub leaves_then : (a b c : Exceptions) → Leaves a b → Leaves b c → Leaves a c
leaves_then a b c x y = record { active = y.active ∙ x.active; numbered = λ h. y.numbered (x.numbered h) }

pub leaves_either : (b : Bool) (e x y : Exceptions) → Leaves e x → Leaves e y → Leaves e (cond b x y)
leaves_either true e x y h k = h
leaves_either false e x y h k = k

pub leaves_self : (e : Exceptions) → Leaves e e
leaves_self e = record { active = refl; numbered = λ h. h }

pub leaves_pending : (set : ℕ) (e : Exceptions) → Leaves e (with_pending set e)
leaves_pending set e = record { active = refl; numbered = λ h. h }

pub leaves_clear : (set : ℕ) (e : Exceptions) → Leaves e (without_pending set e)
leaves_clear set e = record { active = refl; numbered = λ h. h }

pub leaves_pended : (n : ℕ) (e : Exceptions) → Leaves e (pended n e)
leaves_pended n e = leaves_either (is_number n) e _ _ (leaves_pending (2 ^ n) e) (leaves_self e)

pub leaves_called : (op : Op) (e : Exceptions) → Leaves e (called op e)
leaves_called op e = leaves_either (is_call op) e _ _ (leaves_pended SVCALL e) (leaves_self e)

pub leaves_cycle : (lines cycle : ℕ) (e : Exceptions) → Leaves e (nvic.after_cycle lines cycle e)
leaves_cycle lines cycle e = let k = keeps_cycle lines cycle e in record { active = k.active; numbered = λ h. ap (is_member 0) k.enabled ∙ h }

pub clear_of : (set : ℕ) → is_member 0 set ≡ false → bit_at set 0 ≡ 0
clear_of set h = bit_clear (bit_at set 0) (bit_at-lt set 0) h

pub none_or : (set w : ℕ) → is_member 0 set ≡ false → is_member 0 (bit_or set (of_interrupts w)) ≡ false
none_or set w h =
    let clear = clear_of set h in
    let other : bit_at (w * 2 ^ 16) 0 ≡ 0 = omega arith in
    ap (λ (x : ℕ). x == 1) (bit_at_or set (w * 2 ^ 16) 0 ∙ ap₂ (λ (x y : ℕ). max x y) clear other)

pub none_minus : (set other : ℕ) → is_member 0 set ≡ false → is_member 0 (minus set other) ≡ false
none_minus set other h =
    let none : bit_at (minus set other) 0 ≡ 0 = omega (arith, bit_at_and set (2 ^ 64 - 1 - other) 0, clear_of set h) in
    ap (λ (x : ℕ). x == 1) none

pub leaves_pended_if : (b : Bool) (n : ℕ) (e : Exceptions) → Leaves e (pended_if b n e)
leaves_pended_if b n e = leaves_either b e _ _ (leaves_pended n e) (leaves_self e)

pub leaves_cleared_if : (b : Bool) (n : ℕ) (e : Exceptions) → Leaves e (cleared_if b n e)
leaves_cleared_if b n e = leaves_either b e _ _ (leaves_clear (2 ^ n) e) (leaves_self e)

pub leaves_icsr : (w : ℕ) (e : Exceptions) → Leaves e (words.icsr_written w e)
leaves_icsr w e =
    let a = pended_if (has_bit w 31) 2 e in
    let b = pended_if (has_bit w 28) 14 a in
    let c = pended_if (has_bit w 26) 15 b in
    let d = cleared_if (has_bit w 27) 14 c in
    leaves_then e d _
    (leaves_then e c d (leaves_then e b c (leaves_then e a b (leaves_pended_if (has_bit w 31) 2 e) (leaves_pended_if (has_bit w 28) 14 a)) (leaves_pended_if (has_bit w 26) 15 b)) (leaves_cleared_if (has_bit w 27) 14 c))
    (leaves_cleared_if (has_bit w 25) 15 d)

-- the same as a pair
abbrev Left : Exceptions → Exceptions → Type 0
Left e f = (f.active ≡ e.active) × (is_member 0 e.enabled ≡ false → is_member 0 f.enabled ≡ false)

rows_leave : (e : Exceptions) → Kept (Left e) e words.bus_rows
rows_leave e =
    let k : (n : ℕ) → Left e e × (ℕ → Left e e) = λ n. ((refl, λ h. h), λ w. (refl, λ h. h)) in
    let iser : (n : ℕ) → Left e e × ((w : ℕ) → Left e (record e { enabled = bit_or e.enabled (of_interrupts w) })) =
    λ n. ((refl, λ h. h), λ w. (refl, none_or e.enabled w)) in
    let icer : (n : ℕ) → Left e e × ((w : ℕ) → Left e (record e { enabled = minus e.enabled (of_interrupts w) })) =
    λ n. ((refl, λ h. h), λ w. (refl, none_minus e.enabled (of_interrupts w))) in
    let icsr : (n : ℕ) → Left e e × ((w : ℕ) → Left e (words.icsr_written w e)) =
    λ n. ((refl, λ h. h), λ w. ((leaves_icsr w e).active, (leaves_icsr w e).numbered)) in
    (k, (k, (k, (k, (iser, (icer, (k, (k, (k, (k, (icsr, (k, (k, (k, (k, (k, (k, tt)))))))))))))))))

leaves_access : (offset : ℕ) (w : Option ℕ) (e : Exceptions) → Leaves e (words.after_access offset w e)
unfolding words.after_access
leaves_access offset w e =
    let left = keeps (Left e) words.bus_rows offset w e (refl, λ h. h) (rows_leave e) in
    record { active = left.0; numbered = left.1 }

pub leaves_effect : (offset : ℕ) (w : Option ℕ) (e : Exceptions) → Leaves e (words.effect_of offset w e)
leaves_effect offset w e = leaves_either (words.is_allowed offset w) e _ _ (leaves_access offset w e) (leaves_self e)
