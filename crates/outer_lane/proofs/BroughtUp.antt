-- The timer and the UARTs that lie behind.
use Rattle.std.proofs.Common.{◌≡◌, ℕ, ◌+◌, ◌≤◌, Bool, true, false, None, refl, sym, ap, ◌∙◌, arith}
use Rattle.rp_base.specs.declared.map.Block.{Block}
use Rattle.rp_base.specs.declared.map.Block.TheVariants as block
use Rattle.rp_base.specs.Held.{stays_if}
use Rattle.rp_base.specs.declared.resettable.Resettable.{Resettable}
use Rattle.lane_look.specs.Times.{times}
use Rattle.lane_look.proofs.Times.{times_more, times_add}
use Rattle.rp_timer.specs.State.{State as TimerState, lines_of}
use Rattle.rp_uart.specs.State.{State as SerialPort}
use Rattle.rp_uart.specs.Step.{output_of, pacing_of}
use Rattle.rp_uart.specs.Interrupts.{is_line_high}
use Rattle.rp_uart.specs.Quiet.{IsLater}
use Rattle.rp_uart.proofs.PureReads.{pure_later, pure_still}
use Rattle.rp_timer.proofs.PureReads.{read_still}
use Rattle.outer_lane.specs.declared.blocks.Blocks.{Blocks}
use Rattle.outer_lane.specs.BroughtUp.{blocks_step, blocks_after, blocks_accessed, blocks_pure, AreBlocksQuiet}
use Rattle.outer_lane.specs.Quiet.{uart_cycle, uart_word, is_lasting_read, IsTimerQuiet, IsUartQuiet}
use Rattle.outer_lane.specs.Setting.{Setting}
use Rattle.outer_lane.specs.State.{State}
use Rattle.outer_lane.specs.declared.world.SeenOutputs.{SeenOutputs}
use Rattle.outer_lane.specs.Step.{timer_after, byte_of}
use Rattle.outer_lane.specs.Words.{outer_accessed, outer_word, own_word}

three : (a b : Resettable TimerState) (c d e f : Resettable SerialPort) → a ≡ b → c ≡ d → e ≡ f →
    ◌≡◌ {A = Blocks} (record { timer = a; uart0 = c; uart1 = e }) (record { timer = b; uart0 = d; uart1 = f })
three a b c d e f p q r = rw (p, q, r) refl

-- one cycle more, and more of them
pub after_more : (line0 line1 : Bool) (first n : ℕ) (b : Blocks) →
    blocks_after line0 line1 first (n + 1) b ≡ blocks_step line0 line1 (first + n) (blocks_after line0 line1 first n b)
after_more line0 line1 first n b =
    three _ _ _ _ _ _ (times_more timer_after first n (n + 1) b.timer refl) (times_more (uart_cycle line0) first n (n + 1) b.uart0 refl)
    (times_more (uart_cycle line1) first n (n + 1) b.uart1 refl)

pub after_add : (line0 line1 : Bool) (first n m : ℕ) (b : Blocks) →
    blocks_after line0 line1 first (n + m) b ≡ blocks_after line0 line1 (first + n) m (blocks_after line0 line1 first n b)
after_add line0 line1 first n m b =
    three _ _ _ _ _ _ (times_add timer_after first n m b.timer) (times_add (uart_cycle line0) first n m b.uart0)
    (times_add (uart_cycle line1) first n m b.uart1)

-- the same, where the first of them is the next cycle
pub from_next : (line0 line1 : Bool) (first n m cycle : ℕ) (b : Blocks) → cycle ≡ first + n →
    blocks_after line0 line1 first (n + m) b ≡ blocks_after line0 line1 cycle m (blocks_after line0 line1 first n b)
from_next line0 line1 first n m cycle b at =
    after_add line0 line1 first n m b ∙ ap (λ (c : ℕ). blocks_after line0 line1 c m (blocks_after line0 line1 first n b)) (sym at)

pub next_one : (line0 line1 : Bool) (first n cycle : ℕ) (b : Blocks) → cycle ≡ first + n →
    blocks_after line0 line1 first (n + 1) b ≡ blocks_step line0 line1 cycle (blocks_after line0 line1 first n b)
next_one line0 line1 first n cycle b at =
    after_more line0 line1 first n b ∙ ap (λ (c : ℕ). blocks_step line0 line1 c (blocks_after line0 line1 first n b)) (sym at)

-- what stays for so long stays from a later cycle on
later : {S A : Type 0} (step : ℕ → S → S) (f : S → A) (first n : ℕ) (s : S) → ((k : ℕ) → k ≤ n → f (times step first k s) ≡ f s) → (k j : ℕ) → k + j ≤ n →
    f (times step (first + k) j (times step first k s)) ≡ f (times step first k s)
later step f first n s same k j le = ap f (sym (times_add step first k j s)) ∙ same (k + j) le ∙ sym (same k (omega arith))

timer_later : (t : Resettable TimerState) (first n k m : ℕ) → IsTimerQuiet t first n → k + m ≤ n → IsTimerQuiet (times timer_after first k t) (first + k) m
timer_later t first n k m q le = record {
  lines = λ j lj. later timer_after (λ (x : Resettable TimerState). lines_of x.block) first n t q.lines k j (omega arith);
  held = λ j lj. later timer_after (λ (x : Resettable TimerState). x.held) first n t q.held k j (omega arith);
}

still_later : (s t u : SerialPort) → IsLater s t → IsLater s u → IsLater t u
still_later s t u p q = q ∙ sym (ap (λ (x : SerialPort). record x { sender = u.sender; receiver = u.receiver; waited = u.waited }) p)

uart_later : (line : Bool) (u : Resettable SerialPort) (first n k m : ℕ) → IsUartQuiet line u first n → k + m ≤ n →
    IsUartQuiet line (times (uart_cycle line) first k u) (first + k) m
uart_later line u first n k m q le = record {
  silent = λ j lj. ap byte_of (sym (times_add (uart_cycle line) first k j u)) ∙ q.silent (k + j) (omega arith);
  output = λ j lj. later (uart_cycle line) (λ (x : Resettable SerialPort). output_of x.block) first n u q.output k j (omega arith);
  interrupt = λ j lj. later (uart_cycle line) (λ (x : Resettable SerialPort). is_line_high x.block) first n u q.interrupt k j (omega arith);
  pacing = λ j lj. later (uart_cycle line) (λ (x : Resettable SerialPort). pacing_of x.block) first n u q.pacing k j (omega arith);
  held = λ j lj. later (uart_cycle line) (λ (x : Resettable SerialPort). x.held) first n u q.held k j (omega arith);
  words = λ j lj offset. later (uart_cycle line) (uart_word offset) first n u (λ i li. q.words i li offset) k j (omega arith);
  later = λ j lj. still_later u.block _ _ (q.later k (omega arith)) (rw (← times_add (uart_cycle line) first k j u) (q.later (k + j) (omega arith)));
}

still_by : {S : Type 0} (r : Resettable S) (held : Bool) (after : S) → after ≡ r.block → record r { block = stays_if held r.block after } ≡ r
still_by r true after e = refl
still_by r false after e = ap (λ s. record r { block = s }) e

-- the same reads change nothing as long as they are quiet
pub pure_after : (line0 line1 : Bool) (b : Blocks) (first n k : ℕ) (block : Block) (offset : ℕ) → AreBlocksQuiet line0 line1 b first n → k ≤ n →
    blocks_pure block offset (blocks_after line0 line1 first k b) ≡ blocks_pure block offset b
pure_after line0 line1 b first n k block.Uart0 offset q le = pure_later b.uart0.block _ offset (q.uart0.later k le)
pure_after line0 line1 b first n k block.Uart1 offset q le = pure_later b.uart1.block _ offset (q.uart1.later k le)
pure_after line0 line1 b first n k block.Timer offset q le = refl
pure_after line0 line1 b first n k other offset q le = refl

-- such a read, by each of the blocks
pub read_stays : (b : Blocks) (block : Block) (offset : ℕ) → blocks_pure block offset b ≡ true → blocks_accessed block offset None b ≡ b
unfolding outer_accessed
read_stays b block.IoBank0 offset e = cc e
read_stays b block.PadsBank0 offset e = cc e
read_stays b block.Uart0 offset e = three _ _ _ _ _ _ refl (still_by b.uart0 b.uart0.held _ (pure_still offset b.uart0.block e)) refl
read_stays b block.Uart1 offset e = three _ _ _ _ _ _ refl refl (still_by b.uart1 b.uart1.held _ (pure_still offset b.uart1.block e))
read_stays b block.Timer offset e = three _ _ _ _ _ _ (still_by b.timer b.timer.held _ (read_still offset b.timer.block e)) refl refl
read_stays b other offset e = cc e

-- the same of the peripherals, where the read lasts; and what it is told
pub lasting_stays : (block : Block) (offset : ℕ) (s : State) → is_lasting_read block offset s ≡ true → outer_accessed block offset None s ≡ s
unfolding outer_accessed
lasting_stays block.Uart0 offset s e = ap (λ (u : Resettable SerialPort). record s { uart0 = u }) (still_by s.uart0 s.uart0.held _ (pure_still offset s.uart0.block e))
lasting_stays block.Uart1 offset s e = ap (λ (u : Resettable SerialPort). record s { uart1 = u }) (still_by s.uart1 s.uart1.held _ (pure_still offset s.uart1.block e))
lasting_stays block.Timer offset s e = cc e
lasting_stays block.IoBank0 offset s e = cc e
lasting_stays block.PadsBank0 offset s e = cc e
lasting_stays other offset s e = cc e

pub lasting_word : (w : Setting) (seen : SeenOutputs) (block : Block) (offset : ℕ) (s o : State) → is_lasting_read block offset s ≡ true → outer_word block offset w seen o ≡ own_word block offset o
unfolding outer_word
lasting_word w seen block.IoBank0 offset s o e = cc e
lasting_word w seen block.PadsBank0 offset s o e = cc e
lasting_word w seen other offset s o e = refl

pub quiet_later : (line0 line1 : Bool) (b : Blocks) (first n k m cycle : ℕ) → AreBlocksQuiet line0 line1 b first n → k + m ≤ n →
    cycle ≡ first + k → AreBlocksQuiet line0 line1 (blocks_after line0 line1 first k b) cycle m
quiet_later line0 line1 b first n k m cycle q le at = rw at (record {
  timer = timer_later b.timer first n k m q.timer le;
  uart0 = uart_later line0 b.uart0 first n k m q.uart0 le;
  uart1 = uart_later line1 b.uart1 first n k m q.uart1 le;
})

-- for fewer cycles
pub quiet_less : (line0 line1 : Bool) (b : Blocks) (first n m : ℕ) → AreBlocksQuiet line0 line1 b first n → m ≤ n →
    AreBlocksQuiet line0 line1 b first m
unfolding times
quiet_less line0 line1 b first n m q le = quiet_later line0 line1 b first n 0 m first q (omega (arith, le)) (omega arith)
