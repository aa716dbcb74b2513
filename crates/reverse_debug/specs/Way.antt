-- A talk that goes on.
use Rattle.std.specs.Prelude.{◌≡◌, ℕ, ◌+◌, ◌<◌, ◌≤◌, Bool, false, not, if◌then◌else◌, List, [], ◌++◌, length, Option, None, Some, Result, Ok, Err, IfOk, OnOk}
use Rattle.rp_ports.specs.Source.{Consumes}
use Rattle.trace_text.specs.Sent.{Sends}
use Rattle.trace_text.specs.declared.writer.SinkFault.{SinkFault}
use Rattle.reverse_debug.specs.declared.way.Way.{Way}
use Rattle.reverse_debug.specs.Lines.{complete_lines, open_line, closes}
use Rattle.reverse_debug.specs.NextLine.{Ahead, behind}
use Rattle.reverse_debug.specs.Talk.{Talk, text_from, cycle_after, cost_from, Hears}

-- The replies to these lines were sent, no put failed, and who answers stands behind them; or the sink failed, and a part of the replies
-- was sent.
pub record AnswersLines {T : Type 0} (t : Talk) (cycle : ℕ) (lines : List (List ℕ)) (old new : Option (List ℕ)) (before now steps steps' at : ℕ) (result : Result T SinkFault) : Type 0 where
  pub sends : Sends old new before now (text_from t cycle lines) result
  pub stands : OnOk result (at ≡ cycle_after t cycle lines)
  pub forward : steps ≤ steps'
  pub most : steps' ≤ steps + cost_from t cycle lines

-- So it was with one line: a last one has no reply, costs nothing, and who answers stays at the cycle; behind another one it stands at
-- the next cycle, also where the sink failed. At Ok it is told whether the line was no last one.
pub record Replies (last : Bool) (reply : List ℕ) (cycle next cost : ℕ) (old new : Option (List ℕ)) (before now steps steps' at : ℕ) (result : Result Bool SinkFault) : Type 0 where
  pub sends : Sends old new before now (if last then [] else reply) result
  pub stands : at ≡ (if last then cycle else next)
  pub forward : steps ≤ steps'
  pub most : steps' ≤ steps + (if last then 0 else cost)
  pub more : IfOk result (λ m. last ≡ not m)

-- so it was with this line at a cycle of the talk
abbrev pub RepliesTo : Talk → ℕ → List ℕ → Option (List ℕ) → Option (List ℕ) → ℕ → ℕ → ℕ → ℕ → ℕ → Result Bool SinkFault → Type 0
RepliesTo t cycle line old new before now steps steps' at result =
    Replies (t.last line) (t.reply cycle line) cycle (t.next cycle line) (t.cost cycle line) old new before now steps steps' at result

-- of what was taken of a source the lines were answered, up to what is left over; no take failed, and the talk goes on
pub record Taking (t : Talk) (cycle limit : ℕ) (left left' : Option (List ℕ)) (lost lost' : ℕ) (old new : Option (List ℕ)) (before now steps steps' : ℕ) (at : ℕ) (ahead : Ahead) : Type 0 where
  pub bytes : List ℕ
  pub long : length (bytes ++ ahead.rest) ≡ ahead.taken
  pub within : ahead.taken ≤ limit
  pub consumed : Consumes left left' (bytes ++ ahead.rest)
  pub steady : lost' ≡ lost
  pub none : closes t.last bytes ≡ false
  pub whole : open_line bytes ≡ []
  pub tells : AnswersLines {T = Bool} t cycle (complete_lines bytes) old new before now steps steps' at (Ok false)

-- what came of the next line: it was answered, and fewer bytes stand in no line yet; or the hearing has ended
abbrev pub IsAfterLine : Talk → ℕ → ℕ → Option (List ℕ) → Option (List ℕ) → ℕ → ℕ → Option (List ℕ) → Option (List ℕ) → ℕ → ℕ → ℕ → ℕ → ℕ → Ahead → ℕ → Result (Option Way) SinkFault → Type 0
IsAfterLine t cycle limit left left' lost lost' old new before now steps steps' at ahead more (Ok None) =
    (behind limit ahead < more) × Taking t cycle limit left left' lost lost' old new before now steps steps' at ahead
IsAfterLine t cycle limit left left' lost lost' old new before now steps steps' at ahead more (Ok (Some way)) =
    Hears t cycle limit left left' lost lost' old new before now steps steps' at (Ok way)
IsAfterLine t cycle limit left left' lost lost' old new before now steps steps' at ahead more (Err fault) =
    Hears t cycle limit left left' lost lost' old new before now steps steps' at (Err fault)
