-- Core 1, the DMA engine and both PIO blocks, which are quiet.
use Rattle.rp_machine.proofs.Shared.{AreBlocksQuiet, IsCore1Quiet, State, ap, arith, block_none, blocks_after, core1_after, refl, subst, sym, true, with_block, with_blocks, ℕ, ◌∙◌, ◌≡◌, ◌≤◌}
use Rattle.dma_engine.specs.State.{State as Engine}
use Rattle.dma_engine.specs.Quiet as dma
use Rattle.dma_engine.proofs.Lasting.{engine_none, none_quiet}
use Rattle.dma_engine.proofs.Lasting as dma_proofs
use Rattle.pio_block.specs.State.{State as Pio}
use Rattle.pio_block.specs.declared.inputs.Inputs.{Inputs}
use Rattle.pio_block.specs.Cycle.{inputs_of as pins_of}
use Rattle.pio_block.specs.Quiet as pio
use Rattle.pio_block.proofs.Between as pio_proofs
use Rattle.m0_core.specs.State.{State as Core}
use Rattle.m0_core.specs.Quiet as core
use Rattle.m0_core.proofs.Lasting.{quiet_asleep, stays_asleep}
use Rattle.rp_machine.specs.Answers.{lines_of, pacing_of, inputs_of}

pub none_after : (s : State) → blocks_after 0 s ≡ record { dma = s.dma.block; pio0 = s.pio0.block; pio1 = s.pio1.block }
none_after s = rw (engine_none s.dma.block, block_none s.pio0.block, block_none s.pio1.block) refl

pub fewer_cycles : (s : State) (n k : ℕ) → AreBlocksQuiet s n → k ≤ n → AreBlocksQuiet s k
fewer_cycles s n k h le = record {
  dma = dma_proofs.fewer (pacing_of s) s.dma.block n k h.dma le;
  pio0 = pio_proofs.fewer (pins_of (inputs_of s)) s.pio0.block n k h.pio0 le;
  pio1 = pio_proofs.fewer (pins_of (inputs_of s)) s.pio1.block n k h.pio1 le;
}

-- by what the calls of each say
pub quiet_by : (i s : State) (x : Inputs) (a b c n : ℕ) → i ≡ s → x ≡ pins_of (inputs_of s) → dma.IsQuiet (pacing_of s) i.dma.block a → pio.IsQuiet x i.pio0.block b → pio.IsQuiet x i.pio1.block c
    → n ≤ a → n ≤ b → n ≤ c → AreBlocksQuiet s n
quiet_by i s x a b c n e told d p q la lb lc =
    let pins = pins_of (inputs_of s) in
    record {
      dma = dma_proofs.fewer (pacing_of s) s.dma.block a n (subst (λ (t : State). dma.IsQuiet (pacing_of s) t.dma.block a) e d) la;
      pio0 = pio_proofs.fewer pins s.pio0.block b n (subst (λ (t : State). pio.IsQuiet pins t.pio0.block b) e (subst (λ (y : Inputs). pio.IsQuiet y i.pio0.block b) told p)) lb;
      pio1 = pio_proofs.fewer pins s.pio1.block c n (subst (λ (t : State). pio.IsQuiet pins t.pio1.block c) e (subst (λ (y : Inputs). pio.IsQuiet y i.pio1.block c) told q)) lc;
    }

-- by what they are after these
pub passed_by : (i s : State) (n : ℕ) (d : Engine) (p q : Pio) → i ≡ s → d ≡ dma.engine_after n i.dma.block → p ≡ pio.block_after n i.pio0.block → q ≡ pio.block_after n i.pio1.block
    → record i { dma = with_block i.dma d; pio0 = with_block i.pio0 p; pio1 = with_block i.pio1 q } ≡ with_blocks (blocks_after n s) s
passed_by i s n d p q same e f g = rw (e, f, g) (ap (λ (x : State). with_blocks (blocks_after n x) x) same)

-- where one is quiet in none
pub none_by : (i s : State) (x : Inputs) (b c : ℕ) → i ≡ s → x ≡ pins_of (inputs_of s) → pio.IsQuiet x i.pio0.block b → pio.IsQuiet x i.pio1.block c → AreBlocksQuiet s 0
none_by i s x b c e told p q = quiet_by i s x 0 b c 0 e told (none_quiet (pacing_of s) i.dma.block) p q (omega arith) (omega arith) (omega arith)

-- ---- core 1

pub core_fewer : (lines : ℕ) (c : Core) (first n k : ℕ) → core.IsQuiet lines c first n → k ≤ n → core.IsQuiet lines c first k
core_fewer lines c first n k q le = record {
  begins = λ j lt. q.begins j (omega arith);
  wants = λ j lt. q.wants j (omega arith);
  offer = λ j lt. q.offer j (omega arith);
}

-- where it is asleep
asleep_as : (i s : State) → i ≡ s → i.core1.asleep ≡ true → s.core1.asleep ≡ true
asleep_as i s e sleeps = ap (λ (x : State). x.core1.asleep) (sym e) ∙ sleeps

pub core1_sleeps : (i s : State) (n : ℕ) → i ≡ s → i.core1.asleep ≡ true → IsCore1Quiet s n
core1_sleeps i s n e sleeps = quiet_asleep s.core1 (lines_of 1 s) s.cycle n (asleep_as i s e sleeps)

pub core1_stays : (i s : State) (first n : ℕ) → i ≡ s → i.core1.asleep ≡ true → s ≡ record s { core1 = core1_after first n s }
core1_stays i s first n e sleeps = ap (λ (x : Core). record s { core1 = x }) (sym (stays_asleep s.core1 (lines_of 1 s) first n (asleep_as i s e sleeps)))

-- by what the calls say
pub core1_quiet_by : (i s : State) (lines n : ℕ) → i ≡ s → lines ≡ lines_of 1 s → core.IsQuiet lines i.core1 i.cycle n → IsCore1Quiet s n
core1_quiet_by i s lines n e told q =
    subst (λ (x : State). core.IsQuiet (lines_of 1 s) x.core1 x.cycle n) e (subst (λ (x : ℕ). core.IsQuiet x i.core1 i.cycle n) told q)
