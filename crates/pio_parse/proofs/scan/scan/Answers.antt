use Rattle.std.proofs.Common.{◌≡◌, ◌==◌, ℕ, ◌+◌, ◌<◌, ◌≤◌, Bool, true, false, List, [], ◌∷◌, ◌++◌, length, drop, get_or, Option, Ok, Err, option_to_list, arith, refl, sym, ◌∙◌}
use Rattle.pio_parse.proofs.Shared.{drop_all, SourcePosition, Token, FileEnd, Mode, Step, finishes, scanned_from, steps, position_behind, IsPositionBelow}
use Rattle.pio_parse.proofs.SourceLines.{drop_next}
use Rattle.pio_parse.proofs.scan.scan.Goals as goal

below_next : (c index : ℕ) (here : SourcePosition) (b : Bool) → (c == 10) ≡ b → here.line < index + 2 → here.column < index + 2 → IsPositionBelow (position_behind c here) (index + 1 + 2)
below_next c index here true h line column = rw h (omega arith, omega arith)
below_next c index here false h line column = rw h (omega arith, omega arith)

-- the scan after one more character
scan_next : (text : List ℕ) (index : ℕ) (mode : Mode) (here next after : SourcePosition) (tokens one two : List Token) (step : Step) → index < length text
    → steps text index mode (get_or text index 0) here ≡ Ok step → next ≡ position_behind (get_or text index 0) here
    → one ≡ tokens ++ option_to_list step.first → two ≡ one ++ option_to_list step.second
    → scanned_from text (drop index text) index mode here after tokens
    ≡ scanned_from text (drop (index + 1) text) (index + 1) step.mode next (record { line = here.line; column = here.column + 1 }) two
scan_next text index mode here next after tokens one two step inside h e first second = rw (drop_next text index 0 inside, h, second, first, e) refl

pub loop-index-preserved : goal.loop-index-preserved
loop-index-preserved c =
    let loop = c.loop-index.invariant in
    let here = c.loop-index.here in
    let byte = get_or c.args.text.now c.loop-index.index 0 in
    record {
      started = c.in-Ok.ensures.started;
      inside = rw c.position_after-here.ensures (below_next byte c.loop-index.index here (byte == 10) refl loop.inside.0 loop.inside.1);
      scan = loop.scan ∙ scan_next c.args.text.now c.loop-index.index c.loop-index.mode here c.position_after-here.result c.loop-index.after
          c.loop-index.tokens.items c.add.new.tokens.items c.add-in-loop-index.new.tokens.items c.in-Ok.done
          c.loop-index-test.true (sym c.in-Ok.ensures.value) c.position_after-here.ensures c.in_ok-add.ensures.ok c.in_ok-add-2.ensures.ok;
    }

-- the scan that stops at the next character
scan_stops : (text : List ℕ) (index : ℕ) (mode : Mode) (here after position : SourcePosition) (tokens : List Token) → index < length text
    → steps text index mode (get_or text index 0) here ≡ Err position → scanned_from text (drop index text) index mode here after tokens ≡ Err position
scan_stops text index mode here after position tokens inside h = rw (drop_next text index 0 inside, h) refl

-- the scan at the end of the file
scan_ends : (text : List ℕ) (index : ℕ) (mode : Mode) (here after : SourcePosition) (tokens one two : List Token) (last : Option Token) → length text ≤ index
    → finishes text mode ≡ Ok last → one ≡ tokens ++ option_to_list last → two ≡ one ++ record { kind = FileEnd; position = after } ∷ []
    → scanned_from text (drop index text) index mode here after tokens ≡ Ok two
scan_ends text index mode here after tokens one two last end h first second = rw (drop_all index text end, h, second, first) refl

scan_ends_badly : (text : List ℕ) (index : ℕ) (mode : Mode) (here after position : SourcePosition) (tokens : List Token) → length text ≤ index
    → finishes text mode ≡ Err position → scanned_from text (drop index text) index mode here after tokens ≡ Err position
scan_ends_badly text index mode here after position tokens end h = rw (drop_all index text end, h) refl

pub returns-in-Err-clause-err : goal.returns-in-Err-clause-err
returns-in-Err-clause-err c =
    let loop = c.loop-index in
    rw c.char_fault.ensures (loop.invariant.scan
    ∙ scan_stops c.args.text.now loop.index loop.mode loop.here loop.after c.in-Err.position loop.tokens.items c.loop-index-test.true (sym c.in-Err.ensures.value))

pub returns-in-Err-finish-clause-err : goal.returns-in-Err-finish-clause-err
returns-in-Err-finish-clause-err c =
    let loop = c.loop-index in
    rw c.char_fault-in-Err-finish.ensures (loop.invariant.scan
    ∙ scan_ends_badly c.args.text.now loop.index loop.mode loop.here loop.after c.in-Err-finish.position loop.tokens.items c.loop-index-test.false (sym c.in-Err-finish.ensures))

pub returns-clause-ok : goal.returns-clause-ok
returns-clause-ok c =
    let loop = c.loop-index in
    loop.invariant.scan
    ∙ scan_ends c.args.text.now loop.index loop.mode loop.here loop.after loop.tokens.items c.add-in-Ok-finish.new.tokens.items c.add-2.new.tokens.items c.in-Ok-finish.last
    c.loop-index-test.false (sym c.in-Ok-finish.ensures) c.in_ok-add-in-Ok-finish.ensures.ok c.in_ok-add-3.ensures.ok
