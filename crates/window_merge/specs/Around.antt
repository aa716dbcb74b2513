-- What a lane that runs alone can ask of the rest, copied from a state. The project's own.
use Rattle.std.specs.Prelude.{ℕ, ◌==◌, if◌then◌else◌, List, Option, Some, None}
use Rattle.rp_base.specs.declared.Request.{Request}
use Rattle.rp_base.specs.Map.{place_of}
use Rattle.lane_look.specs.declared.lane.Ask.{Ask}
use Rattle.lane_look.specs.declared.lane.Ask.TheVariants as ask
use Rattle.lane_look.specs.declared.lane.Want.{Want}
use Rattle.lane_look.specs.declared.lane.Want.TheVariants as want
use Rattle.lane_look.specs.Alone.{Surroundings, surroundings}
use Rattle.rp_machine.specs.State.{State}
use Rattle.rp_machine.specs.Sram.{half_of}
use Rattle.rp_machine.specs.Answers.{word_in, lines_of, pacing_of, inputs_of, outs_of}
use Rattle.rp_machine.specs.Cycle.{stored}
use Rattle.rp_machine.specs.Deeds.{stored_at}
use Rattle.window_merge.specs.declared.copies.Copies.{Copies}
use Rattle.window_merge.specs.Kinds.{asks_sram}

-- the copies that a lane of that number has of a state; of SRAM where it asks for words of it
abbrev pub copies_of : ℕ → State → Copies
copies_of lane s = record {
  ram = if asks_sram lane then Some s.sram else None;
  lines = lines_of lane s;
  pacing = pacing_of s;
  inputs = inputs_of s;
  pio0 = outs_of 0 s;
  pio1 = outs_of 1 s;
}

-- the word of a copy of SRAM that holds an address
abbrev pub copied_word : Option (List ℕ) → ℕ → ℕ
copied_word None address = 0
copied_word (Some ram) address = word_in ram address

-- what they answer
abbrev pub copied_answer : Copies → Ask → ℕ
copied_answer c ask.Lines = c.lines
copied_answer c (ask.Half address) = half_of (copied_word c.ram address) address
copied_answer c (ask.Word address) = copied_word c.ram address
copied_answer c ask.Pacing = c.pacing
copied_answer c ask.Inputs = c.inputs
copied_answer c (ask.Outs block) = if block == 0 then c.pio0 else c.pio1

-- what an access to SRAM leaves of a copy
abbrev pub stored_in : Request → Option (List ℕ) → Option (List ℕ)
stored_in request None = None
stored_in request (Some ram) = Some (stored (stored_at request request.write (place_of request.address)) ram)

-- what it leaves of them
abbrev pub copied_store : Copies → Want → Copies
copied_store c (want.Ram request) = record c { ram = stored_in request c.ram }
copied_store c _ = c

-- around a lane that runs alone by them
abbrev pub copied : Surroundings Copies
copied = surroundings copied_answer copied_store
