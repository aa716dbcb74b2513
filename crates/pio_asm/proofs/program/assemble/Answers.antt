use Rattle.std.proofs.Common.{◌≡◌, ℕ, List, [], ap, subst}
use Rattle.pio_asm.proofs.Shared.{Result, Ok, Err, MatchResult, IfOk, PioFault, Memory, and_then, Line, Source, Building, Names, names_of, assembled, lines_of, programs_from}
use Rattle.pio_asm.proofs.program.assemble.Goals as goal

-- what a call that may want memory gave is known where its answer is Ok
known : {T E : Type 0} (P : T → Type 0) (outcome : Result T E) (result : Result T PioFault) (x : T) → MatchResult outcome (λ y. result ≡ Ok y) (λ e. result ≡ Err Memory)
    → result ≡ Ok x → IfOk outcome P → P x
known P (Ok y) result x h is p = let e : y ≡ x = cc in subst P e p
known P (Err e) result x h is p = absurd cc

-- after the lines before the first program come the programs
assembled_at : (source : Source) (nothing : Names) (first lines : List Line) (names : Names × ℕ) (building : Building) → nothing ≡ [] → first ≡ source.globals → lines ≡ source.globals
    → names ≡ names_of nothing [] 0 first → lines_of nothing lines names ≡ Ok building → assembled source ≡ programs_from building.seen [] [] source.programs
assembled_at source nothing first lines names building none f l is h =
    ap (λ outcome. and_then (λ (globals : Building). programs_from globals.seen [] [] source.programs) outcome) (rw (is, none, f, l) at h)

after_globals : (c : goal.After-drop-nothing-inside-2) → assembled c.args.source.now ≡ programs_from c.in_ok-building.building.seen [] [] c.args.source.now.programs
after_globals c =
    let names = known (λ (names : Names × ℕ). names ≡ names_of c.new-nothing.result [] 0 c.as_slice.result.now) c.read_names.result c.or_memory.result (c.in_ok-whole.whole, c.in_ok-whole.total)
    c.or_memory.ensures c.in_ok-whole.was c.read_names.ensures in
    assembled_at c.args.source.now c.new-nothing.result c.as_slice.result.now c.as_slice-2.result.now (c.in_ok-whole.whole, c.in_ok-whole.total) c.in_ok-building.building
    c.new-nothing.ensures c.as_slice.ensures c.as_slice-2.ensures names c.in_ok-building.ensures.ok

pub returns-clause-ok : goal.returns-clause-ok
returns-clause-ok c = rw (after_globals c, ← c.as_slice-3.ensures) c.take_programs.ensures.ok

pub returns-clause-err : goal.returns-clause-err
returns-clause-err c = rw (after_globals c, ← c.as_slice-3.ensures) c.take_programs.ensures.err
