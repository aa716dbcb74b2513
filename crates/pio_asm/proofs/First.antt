-- The first program of a file.
use Rattle.std.proofs.Common.{◌≡◌, ℕ, ◌+◌, ◌<◌, ◌≤◌, List, [], ◌∷◌, length, Some, Result, Ok, Err, slice_index_or, refl, sym, subst, arith}
use Rattle.pio_asm.proofs.Shared.{PioFault, Program, Plan, IsProgram, ArePrograms, Assembles, bit_number, SideConfig, plans_of, IsWhole, AreWhole}
use Rattle.pio_asm.proofs.Wholeness.{words_length}
use Rattle.pio_asm.specs.Fitting.{IsRunnable, IsFirst}
use Rattle.pio_asm.proofs.Fitting.{plans_whole}

runnable : (plan : Plan) (program : Program) → IsWhole plan → IsProgram plan program → IsRunnable program
runnable plan program h is =
    let long : length program.words.items ≡ length plan.members = words_length plan.members program.words.items is.words in
    record {
      target = let lt : plan.target < length plan.members = h.target in omega (arith, lt, long, is.target);
      wrap = let lt : plan.wrap < length plan.members = h.wrap in omega (arith, lt, long, is.wrap);
      side = subst (λ (c : SideConfig). c.count + bit_number c.opt ≤ 5) (sym is.side) h.side;
    }

first_of_list : (plans : List Plan) (programs : List Program) → AreWhole plans → ArePrograms plans programs → (first : Program) → 0 < length programs → first ≡ slice_index_or programs 0 first → IsFirst (Some first) (Ok plans)
first_of_list [] [] h is first some e = absurd (omega (arith, some))
first_of_list [] (p ∷ ps) h is first some e = absurd is
first_of_list (plan ∷ plans) [] h is first some e = absurd is
first_of_list (plan ∷ plans) (p ∷ ps) h is first some e =
    let here : IsProgram plan first = subst (λ (x : Program). IsProgram plan x) (sym e) is.0 in (here, runnable plan first h.0 here)

first_from : (outcome : Result (List Plan) PioFault) (programs : List Program) (first : Program) → ((plans : List Plan) → outcome ≡ Ok plans → AreWhole plans) → Assembles programs outcome → 0 < length programs → first ≡ slice_index_or programs 0 first → IsFirst (Some first) outcome
first_from (Ok plans) programs first h is some e = first_of_list plans programs (h plans refl) is first some e
first_from (Err fault) programs first h is some e = absurd is

pub first_is : (bytes : List ℕ) (programs : List Program) (first : Program) → Assembles programs (plans_of bytes) → 0 < length programs → first ≡ slice_index_or programs 0 first → IsFirst (Some first) (plans_of bytes)
first_is bytes programs first is some e = first_from (plans_of bytes) programs first (plans_whole bytes) is some e
