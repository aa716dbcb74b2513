-- A talk: lines, and the answer to each. The project's own.
use Rattle.std.specs.Prelude.{◌≡◌, ℕ, ◌+◌, ◌≤◌, Bool, List, [], ◌∷◌, ◌++◌, length, Option, Result, IfOk, OnOk}
use Rattle.trace_text.specs.Sent.{Sends}
use Rattle.trace_text.specs.declared.writer.SinkFault.{SinkFault}
use Rattle.reverse_debug.specs.declared.way.Way.{Way}
use Rattle.reverse_debug.specs.Lines.{closes}
use Rattle.reverse_debug.specs.Hearing.{MayEnd, IsTaken, lines_heard, status_by}

-- Who answers stands at a cycle. To a line there it has a reply, goes to a next cycle, and takes at most so many steps.
-- A last line ends the talk and has no reply.
pub record Talk : Type 0 where
  pub reply : ℕ → List ℕ → List ℕ
  pub next : ℕ → List ℕ → ℕ
  pub cost : ℕ → List ℕ → ℕ
  pub last : List ℕ → Bool

-- the replies to lines, one after another
abbrev pub text_from : Talk → ℕ → List (List ℕ) → List ℕ
text_from t cycle [] = []
text_from t cycle (line ∷ lines) = t.reply cycle line ++ text_from t (t.next cycle line) lines

-- the cycle after them
abbrev pub cycle_after : Talk → ℕ → List (List ℕ) → ℕ
cycle_after t cycle [] = cycle
cycle_after t cycle (line ∷ lines) = cycle_after t (t.next cycle line) lines

-- the steps of all of them, at most
abbrev pub cost_from : Talk → ℕ → List (List ℕ) → ℕ
cost_from t cycle [] = 0
cost_from t cycle (line ∷ lines) = t.cost cycle line + cost_from t (t.next cycle line) lines

-- Lines of a source were heard and answered from a cycle on: some bytes were taken, at most so many, and the taking ended so; the
-- replies to the lines were sent, no put failed, and who answers stands at the cycle after them; or the sink failed and a part of the
-- replies was sent. Where the sink failed the taking counts as ended after the bytes taken.
pub record Hears (t : Talk) (cycle limit : ℕ) (left left' : Option (List ℕ)) (lost lost' : ℕ) (old new : Option (List ℕ)) (before now : ℕ) (steps steps' at : ℕ) (result : Result Way SinkFault) : Type 0 where
  pub bytes : List ℕ
  pub way : Way
  pub within : length bytes ≤ limit
  pub may : MayEnd limit (closes t.last bytes) (length bytes) way
  pub taken : IsTaken left left' lost lost' (status_by result) bytes way
  pub is : IfOk result (λ w. w ≡ way)
  pub sends : Sends old new before now (text_from t cycle (lines_heard t.last way bytes)) result
  pub stands : OnOk result (at ≡ cycle_after t cycle (lines_heard t.last way bytes))
  pub forward : steps ≤ steps'
  pub most : steps' ≤ steps + cost_from t cycle (lines_heard t.last way bytes)
