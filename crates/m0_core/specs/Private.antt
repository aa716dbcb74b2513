-- Accesses to the core's private bus, which are done at once (ARMv6-M Architecture Reference Manual, B3.1; RP2040 Datasheet,
-- 2.1.4, narrow IO register writes).
use Rattle.std.specs.Prelude.{ℕ, Option, Some, None, unwrap_or}
use Rattle.rp_base.specs.declared.Request.{Request}
use Rattle.m0_nvic.specs.Words.{word_of, effect_of}
use Rattle.rp_base.specs.Access.{lanes_of, word_written}
use Rattle.m0_core.specs.State.{State}

-- the word at an offset
abbrev pub private_word : ℕ → State → ℕ
private_word offset s = unwrap_or (word_of offset s.regs.ipsr s.nvic) 0

-- a read has its lanes of the word, and a write has no value
abbrev pub private_value : Request → Option ℕ → ℕ → State → Option ℕ
private_value request None offset s = Some (lanes_of request.size request.address (private_word offset s))
private_value request (Some write) offset s = None

-- what the access does to the exceptions
abbrev pub accessed : Request → ℕ → State → State
accessed request offset s =
    record s { nvic = effect_of offset (word_written request.size request.write) s.nvic }
