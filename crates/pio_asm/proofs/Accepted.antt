-- A line that is accepted has no fault, and leaves what its statement makes of the program.
use Rattle.std.proofs.Common.{◌≡◌, ◌⊎◌, ℕ, ◌-◌, ◌++◌, [], ◌∷◌, length, Bool, true, false, Option, Some, refl, sym, ◌∙◌, ◌||◌, inl, inr}
use Rattle.pio_asm.proofs.Shared.{Result, Ok, Err, if◌then◌else◌, is_some, nat_le, nat_lt, unwrap_or, ◌==◌, bit, Unknown, Twice, Range, Delay, Side, TooLong, WrapFault, OriginFault, Statement, ProgramStatement as Program, Define, Origin, SideSetStatement as SideSet, WrapTarget, Wrap, WordStatement as Word, InstructionStatement, Building, Names, evaluated, instruction_in, checked, definition_value, fitting, instruction_verdict, is_origin_fault, is_seen, misfits, statement_step, with_name, word_member}
use Rattle.pio_asm.specs.declared.building.Verdict.{Verdict}
use Rattle.pio_asm.specs.Verdict.{no_fault, verdict_result}

pub result_cases : {X E : Type 0} (r : Result X E) → ((x : X) × (r ≡ Ok x)) ⊎ ((e : E) × (r ≡ Err e))
result_cases (Ok x) = inl (x, refl)
result_cases (Err e) = inr (e, refl)

pub same_ok : {X E : Type 0} (x y : X) (r : Result X E) → r ≡ Ok x → r ≡ Ok y → y ≡ x
same_ok x y (Ok z) h k = cc
same_ok x y (Err e) h k = cc

-- a line without the faults that are looked at below
pub record IsSound (verdict : Verdict) : Type 0 where
  pub unknown : verdict.unknown ≡ false
  pub range : verdict.range ≡ false
  pub too_long : verdict.too_long ≡ false
  pub wrap : verdict.wrap ≡ false

flags : (u t r d s l w o : Bool) (line : ℕ) (x : Unit {0}) → (if u then Err (Unknown line) else if t then Err (Twice line) else if r then Err (Range line) else if d then Err (Delay line) else if s then Err (Side line) else if l then Err (TooLong line) else if w then Err (WrapFault line) else if o then Err (OriginFault line) else Ok tt) ≡ Ok x
    → (u ≡ false) × (r ≡ false) × (l ≡ false) × (w ≡ false)
flags true t r d s l w o line x h = cc
flags false true r d s l w o line x h = cc
flags false false true d s l w o line x h = cc
flags false false false true s l w o line x h = cc
flags false false false false true l w o line x h = cc
flags false false false false false true w o line x h = cc
flags false false false false false false true o line x h = cc
flags false false false false false false false o line x h = (refl, refl, refl, refl)

passed : (number : ℕ) (verdict : Verdict) (next got : Building) → checked number verdict next ≡ Ok got → IsSound verdict × (got ≡ next)
passed number verdict next got h = elim (result_cases (verdict_result number verdict)) [
  | inl ok ↦
      let f = flags verdict.unknown verdict.twice verdict.range verdict.delay verdict.side verdict.too_long verdict.wrap verdict.origin number ok.0 ok.1 in
      let g : checked number verdict next ≡ Ok next = rw ok.1 refl in
      (record { unknown = f.0; range = f.1; too_long = f.2; wrap = f.3 }, same_ok next got (checked number verdict next) g h)
  | inr bad ↦ let g : checked number verdict next ≡ Err bad.0 = rw bad.1 refl in let i : Err bad.0 ≡ Ok got = sym g ∙ h in cc
]

module _ (whole globals : Names) where
  -- what a statement makes of a program
  abbrev pub made : Option Statement → Building → Building
  made (Some (Define name value)) b = record b { seen = with_name globals b.seen name (definition_value (evaluated b.seen globals value)) }
  made (Some (Origin value)) b = record b { origin = fitting 0 31 (evaluated b.seen globals value).value }
  made (Some (SideSet count opt pindirs)) b = record b { side = Some (record { count = unwrap_or (fitting 0 (5 - bit opt) (evaluated b.seen globals count).value) 0; opt = opt; pindirs = pindirs }) }
  made (Some WrapTarget) b = record b { target = Some (length b.code) }
  made (Some Wrap) b = record b { wrap = Some (length b.code - 1) }
  made (Some (Word value)) b = record b { code = b.code ++ word_member (fitting 0 65535 (evaluated b.seen globals value).value) ∷ [] }
  made (Some (InstructionStatement instruction)) b = record b { code = b.code ++ (instruction_in whole globals b.side instruction).member ∷ [] }
  made statement b = b

  -- the faults of its line
  abbrev pub faults : ℕ → Bool → Option Statement → Building → Verdict
  faults total twice (Some (Define name value)) b =
      let e = evaluated b.seen globals value in record no_fault { unknown = e.unknown; twice = twice || is_seen b.seen globals name; range = e.outside }
  faults total twice (Some (Origin value)) b =
      let e = evaluated b.seen globals value in record no_fault { unknown = e.unknown; twice = twice; range = e.outside; origin = is_origin_fault total e.value b }
  faults total twice (Some (SideSet count opt pindirs)) b =
      let e = evaluated b.seen globals count in
      record no_fault { unknown = e.unknown; twice = twice; range = e.outside; side = is_some b.side || nat_lt 0 (length b.code) || misfits 0 (5 - bit opt) e.value }
  faults total twice (Some WrapTarget) b = record no_fault { twice = twice; wrap = is_some b.target || nat_le total (length b.code) }
  faults total twice (Some Wrap) b = record no_fault { twice = twice; wrap = is_some b.wrap || length b.code == 0 }
  faults total twice (Some (Word value)) b =
      let e = evaluated b.seen globals value in record no_fault { unknown = e.unknown; twice = twice; range = e.outside || misfits 0 65535 e.value; too_long = nat_le 32 (length b.code) }
  faults total twice (Some (InstructionStatement instruction)) b = instruction_verdict twice (nat_le 32 (length b.code)) (instruction_in whole globals b.side instruction)
  faults total twice statement b = record no_fault { twice = twice }

  is_checked : (total number : ℕ) (twice : Bool) (statement : Option Statement) (b : Building) → statement_step whole globals total number twice statement b ≡ checked number (faults total twice statement b) (made statement b)
  is_checked total number twice (Some (Program name)) b = refl
  is_checked total number twice statement b = refl

  pub accepted : (total number : ℕ) (twice : Bool) (statement : Option Statement) (b next : Building) → statement_step whole globals total number twice statement b ≡ Ok next
      → IsSound (faults total twice statement b) × (next ≡ made statement b)
  accepted total number twice statement b next h = passed number (faults total twice statement b) (made statement b) next (sym (is_checked total number twice statement b) ∙ h)
