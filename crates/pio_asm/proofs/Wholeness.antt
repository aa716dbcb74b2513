-- Every program of a source is whole: by the lines that make it, one after another.
use Rattle.std.proofs.Common.{◌≡◌, ℕ, suc, ◌+◌, ◌-◌, ◌<◌, ◌≤◌, List, [], ◌∷◌, ◌++◌, length, Bool, true, false, Option, None, Some, refl, sym, ap, subst, ◌∙◌, arith, inl, inr}
use Rattle.pio_asm.proofs.Shared.{Result, Ok, Err, if◌then◌else◌, is_some, unwrap_or, ◌==◌, nat_tests, bit_number, SideConfig, PioFault, Source, SourceProgram, map_ok, Member, Building, found, put, Names, config_of, names_of, Plan, lines_of, nothing_built, plan_of, program_lines, program_plan, programs_from, assembled, AreWordsOf, IsWhole, AreWhole}
use Rattle.pio_asm.proofs.Accepted.{result_cases}
use Rattle.pio_asm.proofs.Keeping.{IsBounded, built}

nothing_bounded : (total : ℕ) → IsBounded total nothing_built
nothing_bounded total = record { target = λ x e. absurd (cc e); wrap = λ x e. absurd (cc e); side = λ x e. absurd (cc e) }

target_within : (target : Option ℕ) (total : ℕ) → 0 < total → ((t : ℕ) → target ≡ Some t → t < total) → unwrap_or target 0 < total
target_within None total some h = some
target_within (Some t) total some h = h t refl

wrap_within : (wrap : Option ℕ) (count : ℕ) → 0 < count → ((w : ℕ) → wrap ≡ Some w → w < count) → unwrap_or wrap (count - 1) < count
wrap_within None count some h = omega (arith, some)
wrap_within (Some w) count some h = h w refl

side_within : (side : Option SideConfig) → ((c : SideConfig) → side ≡ Some c → c.count + bit_number c.opt ≤ 5) → (config_of side).count + bit_number (config_of side).opt ≤ 5
side_within None h = omega arith
side_within (Some c) h = h c refl

whole : (name : List ℕ) (total : ℕ) (b : Building) → IsBounded total b → length b.code ≡ total → 0 < total → IsWhole (plan_of name b)
whole name total b k count some =
    let positive : 0 < length b.code = omega (arith, count, some) in
    record {
      target = target_within b.target (length b.code) positive (λ t e. let lt : t < total = k.target t e in omega (arith, lt, count));
      wrap = wrap_within b.wrap (length b.code) positive k.wrap;
      side = side_within b.side k.side;
    }

positive_of : (n : ℕ) → (n == 0) ≡ false → 0 < n
positive_of n h = grind (arith, nat_tests, h)

mapped_whole : (name : List ℕ) (total : ℕ) (outcome : Result Building PioFault) (plan : Plan) → ((b : Building) → outcome ≡ Ok b → IsWhole (plan_of name b)) → map_ok (plan_of name) outcome ≡ Ok plan → IsWhole plan
mapped_whole name total (Ok b) plan h e = let same : plan_of name b ≡ plan = cc in subst IsWhole same (h b refl)
mapped_whole name total (Err fault) plan h e = absurd (cc e)

lines_whole : (empty : Bool) (fault : PioFault) (outcome : Result Plan PioFault) (plan : Plan) → (empty ≡ false → outcome ≡ Ok plan → IsWhole plan) → (if empty then Err fault else outcome) ≡ Ok plan → IsWhole plan
lines_whole true fault outcome plan h e = absurd (cc e)
lines_whole false fault outcome plan h e = h refl e

program_whole : (globals taken : Names) (program : SourceProgram) (plan : Plan) → program_plan globals taken program ≡ Ok plan → IsWhole plan
program_whole globals taken program plan h =
    let names = names_of globals [] 0 program.lines in
    lines_whole (is_some (found program.name taken)) _ (program_lines globals program names) plan (λ new e.
    lines_whole (names.1 == 0) _ (map_ok (plan_of program.name) (lines_of globals program.lines names)) plan (λ some f.
    mapped_whole program.name names.1 (lines_of globals program.lines names) plan (λ b is.
    let made = built names.0 globals names.1 program.lines nothing_built b is in
    whole program.name names.1 b (made.bounded (nothing_bounded names.1)) (ap (λ (both : Names × ℕ). both.1) (sym made.names)) (positive_of names.1 some)) f) e) h

whole_push : (plans : List Plan) (plan : Plan) → AreWhole plans → IsWhole plan → AreWhole (plans ++ plan ∷ [])
whole_push [] plan h k = (k, tt)
whole_push (p ∷ plans) plan h k = (h.0, whole_push plans plan h.1 k)

programs_whole : (globals taken : Names) (plans : List Plan) (programs : List SourceProgram) (all : List Plan) → AreWhole plans → programs_from globals taken plans programs ≡ Ok all → AreWhole all
programs_whole globals taken plans [] all h e = let same : plans ≡ all = cc in subst AreWhole same h
programs_whole globals taken plans (program ∷ programs) all h e = elim (result_cases (program_plan globals taken program)) [
  | inl ok ↦
      let g : programs_from globals taken plans (program ∷ programs) ≡ programs_from globals (put program.name None taken) (plans ++ ok.0 ∷ []) programs = rw ok.1 refl in
      programs_whole globals (put program.name None taken) (plans ++ ok.0 ∷ []) programs all (whole_push plans ok.0 h (program_whole globals taken program ok.0 ok.1)) (sym g ∙ e)
  | inr bad ↦ let g : programs_from globals taken plans (program ∷ programs) ≡ Err bad.0 = rw bad.1 refl in let i : Err bad.0 ≡ Ok all = sym g ∙ e in cc
]

pub source_whole : (source : Source) (all : List Plan) → assembled source ≡ Ok all → AreWhole all
source_whole source all e = elim (result_cases (lines_of [] source.globals (names_of [] [] 0 source.globals))) [
  | inl ok ↦
      let g : assembled source ≡ programs_from ok.0.seen [] [] source.programs = rw ok.1 refl in
      programs_whole ok.0.seen [] [] source.programs all tt (sym g ∙ e)
  | inr bad ↦ let g : assembled source ≡ Err bad.0 = rw bad.1 refl in let i : Err bad.0 ≡ Ok all = sym g ∙ e in cc
]

-- a program has as many words as members
pub words_length : (members : List Member) (words : List ℕ) → AreWordsOf members words → length words ≡ length members
words_length [] [] h = refl
words_length [] (w ∷ ws) h = absurd h
words_length (m ∷ ms) [] h = absurd h
words_length (m ∷ ms) (w ∷ ws) h = ap suc (words_length ms ws h.1)
