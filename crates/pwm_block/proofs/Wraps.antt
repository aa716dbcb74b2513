-- What a slice keeps, and what a wrap takes over.
use Rattle.std.proofs.Common.{◌∙◌, ap, sym, ◌≡◌, ℕ, zero, suc, ◌+◌, ◌%◌, ◌^◌, Bool, true, false, ◌&&◌, cond, refl, arith}
use Rattle.std.specs.Prelude.{◌==◌, if◌then◌else◌}
use Rattle.std.proofs.lemmas.Grind.{common_steps}
use Rattle.std.proofs.lemmas.Bool.Decides.{nat_tests}
use Rattle.rp_base.specs.Word.{bit_number}
use Rattle.pwm_block.specs.State.{Slice}
use Rattle.pwm_block.specs.Step.{wraps, is_full, after_event, acts, after_slice, has_wrap}
use Rattle.pwm_block.specs.Words.{with_cc, with_top}
use Rattle.pwm_block.specs.Laws.{after_cycles, wraps_in, ADisabledSliceKeepsStill, AWriteShowsAtTheWrap}

pub a_disabled_slice_keeps_still : ADisabledSliceKeepsStill
a_disabled_slice_keeps_still = λ input was s h. record { slice = rw h refl; wrap = rw h refl }

-- ---- what a cycle does to CC and TOP as they were written and as they count

record Takes (s t : Slice) (b : Bool) : Type 0 where
  cc : t.cc ≡ s.cc
  top : t.top ≡ s.top
  live_cc : t.live_cc ≡ (if b then s.cc else s.live_cc)
  live_top : t.live_top ≡ (if b then s.top else s.live_top)

takes-event : (s : Slice) (b : Bool) → is_full s ≡ b → Takes s (after_event s) (b && wraps s)
takes-event s true e = rw e (record { cc = refl; top = refl; live_cc = refl; live_top = refl })
takes-event s false e = rw e (record { cc = refl; top = refl; live_cc = refl; live_top = refl })

takes-cycle : (input was : Bool) (s : Slice) (b : Bool) → acts input was s ≡ b → Takes s (after_slice input was s) (has_wrap input was s)
takes-cycle input was s true e = rw e (takes-event s (is_full s) refl)
takes-cycle input was s false e = rw e (record { cc = refl; top = refl; live_cc = refl; live_top = refl })

takes : (input was : Bool) (s : Slice) → Takes s (after_slice input was s) (has_wrap input was s)
takes input was s = takes-cycle input was s (acts input was s) refl

-- ---- so many cycles

record Keeps (s t : Slice) (n : ℕ) : Type 0 where
  cc : t.cc ≡ s.cc
  top : t.top ≡ s.top
  live_cc : t.live_cc ≡ (if n == 0 then s.live_cc else s.cc)
  live_top : t.live_top ≡ (if n == 0 then s.live_top else s.top)

not-zero : (n : ℕ) → (n + 1 == 0) ≡ false
not-zero n = grind (arith, nat_tests, common_steps)

-- one more cycle: the count of wraps stays, or rises
chosen : (n : ℕ) (b : Bool) (old new x y : ℕ) → x ≡ (if n == 0 then old else new) → y ≡ (if b then new else x)
    → y ≡ (if n + bit_number b == 0 then old else new)
chosen n true old new x y h i = i ∙ sym (ap (λ b. if b then old else new) (not-zero n))
chosen n false old new x y h i = i ∙ h ∙ ap (λ k. if k == 0 then old else new) (none n)
  where
    none : (n : ℕ) → n ≡ n + 0
    none n = omega arith

keeps-more : (s t u : Slice) (n : ℕ) (b : Bool) → Keeps s t n → Takes t u b → Keeps s u (n + bit_number b)
keeps-more s t u n b h i = record {
  cc = i.cc ∙ h.cc;
  top = i.top ∙ h.top;
  live_cc = chosen n b s.live_cc s.cc t.live_cc u.live_cc h.live_cc (i.live_cc ∙ ap (λ x. if b then x else t.live_cc) h.cc);
  live_top = chosen n b s.live_top s.top t.live_top u.live_top h.live_top (i.live_top ∙ ap (λ x. if b then x else t.live_top) h.top);
}

keeps-cycles : (input : ℕ → Bool) (n : ℕ) (s : Slice) → Keeps s (after_cycles input n s) (wraps_in input n s)
keeps-cycles input zero s = record { cc = refl; top = refl; live_cc = refl; live_top = refl }
keeps-cycles input (suc n) s =
    keeps-more s (after_cycles input n s) _ (wraps_in input n s) _ (keeps-cycles input n s)
    (takes (input (suc n)) (input n) (after_cycles input n s))

pub a_write_shows_at_the_wrap : AWriteShowsAtTheWrap
a_write_shows_at_the_wrap = λ input n w s h. record {
  cc =
      (keeps-cycles input n (with_cc w s)).live_cc
      ∙ ap (λ x. if wraps_in input n (with_cc w s) == 0 then x else w) (ap (λ b. cond b s.live_cc w) h);
  top =
      (keeps-cycles input n (with_top w s)).live_top
      ∙ ap (λ x. if wraps_in input n (with_top w s) == 0 then x else w % 2 ^ 16) (ap (λ b. cond b s.live_top (w % 2 ^ 16)) h);
}
