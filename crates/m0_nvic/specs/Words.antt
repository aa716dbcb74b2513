-- The registers of the private bus, by their offsets after E000E000 (ARMv6-M Architecture Reference Manual, B3.2 System Control
-- Block, B3.3 SysTick, B3.4 NVIC; CPUID: RP2040 Datasheet, 2.4.8). What is seen is IPSR.
use Rattle.std.specs.Prelude.{ℕ, ◌+◌, ◌*◌, ◌/◌, ◌%◌, ◌^◌, Bool, false, not, ◌&&◌, ◌==◌, if◌then◌else◌, List, [], ◌∷◌, ◌++◌, Option, Some, None, bit_and, bit_or, slice_index, slice_set}
use Rattle.rp_base.specs.Rows.{Row, register, read_only, read_write, repeated, word_at, has_row, effect_at, offset_in, IsListed}
use Rattle.rp_base.specs.Word.{has_bit, bit_number, byte_of}
use Rattle.m0_nvic.specs.Exceptions.{NMI, SVCALL, PENDSV, SYSTICK, INTERRUPT_0}
use Rattle.m0_nvic.specs.declared.systick.SysTick.{SysTick}
use Rattle.m0_nvic.specs.State.{State}
use Rattle.m0_nvic.specs.Numbers.{is_member, minus, interrupts, of_interrupts}
use Rattle.m0_nvic.specs.Priority.{best_of}
use Rattle.m0_nvic.specs.Changes.{with_pending, without_pending, pended}

-- ---- SysTick

abbrev pub csr_of : SysTick → ℕ
csr_of t =
    bit_number t.enable + bit_number t.interrupt * 2 + bit_number t.core_clock * 4 + bit_number t.counted * 2 ^ 16

abbrev pub of_timer : (SysTick → SysTick) → State → State
of_timer f s = record s { systick = f s.systick }

-- a read of CSR clears COUNTFLAG; a write to CVR clears it and COUNTFLAG, whatever it writes
abbrev pub timer_rows : {V : Type 0} → List (Row V State)
timer_rows =
    register 0x010 "SYST_CSR" (λ seen s. csr_of s.systick) (of_timer (λ t. record t { counted = false }))
    (λ w. of_timer (λ t. record t { enable = has_bit w 0; interrupt = has_bit w 1; core_clock = has_bit w 2 }))
    ∷ read_write 0x014 "SYST_RVR" (λ s. s.systick.reload) (λ w. of_timer (λ t. record t { reload = w % 2 ^ 24 }))
    ∷ read_write 0x018 "SYST_CVR" (λ s. s.systick.current) (λ w. of_timer (λ t. record t { current = 0; counted = false }))
    ∷ read_only 0x01c "SYST_CALIB" (λ s. 0)
    ∷ []

-- ---- interrupts

-- a 1 sets or clears
abbrev pub interrupt_rows : {V : Type 0} → List (Row V State)
interrupt_rows =
    read_write 0x100 "NVIC_ISER" (λ s. interrupts s.enabled) (λ w s. record s { enabled = bit_or s.enabled (of_interrupts w) })
    ∷ read_write 0x180 "NVIC_ICER" (λ s. interrupts s.enabled) (λ w s. record s { enabled = minus s.enabled (of_interrupts w) })
    ∷ read_write 0x200 "NVIC_ISPR" (λ s. interrupts s.pending) (λ w. with_pending (of_interrupts w))
    ∷ read_write 0x280 "NVIC_ICPR" (λ s. interrupts s.pending) (λ w. without_pending (of_interrupts w))
    ∷ []

abbrev pub four_priorities : List ℕ → ℕ → ℕ
four_priorities priorities n =
    slice_index priorities n + slice_index priorities (n + 1) * 2 ^ 8 + slice_index priorities (n + 2) * 2 ^ 16
    + slice_index priorities (n + 3) * 2 ^ 24

-- exception n takes its priority from byte k of a word
abbrev pub with_priority : ℕ → ℕ → ℕ → List ℕ → List ℕ
with_priority n k w priorities = slice_set priorities n (byte_of w k / 2 ^ 6 * 2 ^ 6)

abbrev pub with_four : ℕ → ℕ → List ℕ → List ℕ
with_four n w priorities =
    with_priority (n + 3) 3 w (with_priority (n + 2) 2 w (with_priority (n + 1) 1 w (with_priority n 0 w priorities)))

abbrev pub with_priorities : List ℕ → State → State
with_priorities priorities s = record s { priorities = priorities }

-- one byte for each interrupt, of which the two high bits count
abbrev pub priority_rows : {V : Type 0} → List (Row V State)
priority_rows =
    repeated 8 4 (λ n. read_write 0x400 "NVIC_IPRn" (λ s. four_priorities s.priorities (INTERRUPT_0 + 4 * n))
    (λ w s. with_priorities (with_four (INTERRUPT_0 + 4 * n) w s.priorities) s))
    ∷ []

-- ---- the system control block

abbrev pub number_or_zero : Option ℕ → ℕ
number_or_zero None = 0
number_or_zero (Some n) = n

abbrev pub flag_of : ℕ → State → ℕ
flag_of n s = bit_number (is_member n s.pending)

-- ISRPENDING tells whether any interrupt is pending, enabled or not
abbrev pub is_interrupt_pending : State → Bool
is_interrupt_pending s = not (interrupts s.pending == 0)

-- NMI, PendSV and SysTick pending, ISRPENDING, VECTPENDING and VECTACTIVE
abbrev pub icsr_of : State → ℕ → ℕ
icsr_of s ipsr =
    flag_of NMI s * 2 ^ 31 + flag_of PENDSV s * 2 ^ 28 + flag_of SYSTICK s * 2 ^ 26 + bit_number (is_interrupt_pending s) * 2 ^ 22
    + number_or_zero (best_of s) * 2 ^ 12 + ipsr

abbrev pub pended_if : Bool → ℕ → State → State
pended_if asked n s = if asked then pended n s else s

abbrev pub cleared_if : Bool → ℕ → State → State
cleared_if asked n s = if asked then without_pending (2 ^ n) s else s

-- PENDSVCLR and PENDSTCLR come after NMIPENDSET, PENDSVSET and PENDSTSET
abbrev pub icsr_written : ℕ → State → State
icsr_written w s =
    cleared_if (has_bit w 25) SYSTICK (cleared_if (has_bit w 27) PENDSV
    (pended_if (has_bit w 26) SYSTICK (pended_if (has_bit w 28) PENDSV (pended_if (has_bit w 31) NMI s))))

abbrev pub shpr2_of : List ℕ → ℕ
shpr2_of priorities = slice_index priorities SVCALL * 2 ^ 24

abbrev pub shpr3_of : List ℕ → ℕ
shpr3_of priorities = slice_index priorities SYSTICK * 2 ^ 24 + slice_index priorities PENDSV * 2 ^ 16

abbrev pub with_shpr3 : ℕ → List ℕ → List ℕ
with_shpr3 w priorities = with_priority PENDSV 2 w (with_priority SYSTICK 3 w priorities)

abbrev pub control_rows : List (Row ℕ State)
control_rows =
    read_only 0xd00 "CPUID" (λ s. 0x410CC601)
    ∷ register 0xd04 "ICSR" (λ ipsr s. icsr_of s ipsr) (λ s. s) icsr_written
    ∷ read_write 0xd08 "VTOR" (λ s. s.vtor) (λ w s. record s { vtor = w / 2 ^ 8 * 2 ^ 8 })
    ∷ read_only 0xd0c "AIRCR" (λ s. 0xFA050000)
    ∷ read_write 0xd10 "SCR" (λ s. s.scr) (λ w s. record s { scr = bit_and w 0x16 })
    ∷ read_only 0xd14 "CCR" (λ s. 0x00000208)
    ∷ read_write 0xd1c "SHPR2" (λ s. shpr2_of s.priorities) (λ w s. with_priorities (with_priority SVCALL 3 w s.priorities) s)
    ∷ read_write 0xd20 "SHPR3" (λ s. shpr3_of s.priorities) (λ w s. with_priorities (with_shpr3 w s.priorities) s)
    ∷ []

-- ---- all words

abbrev pub bus_rows : List (Row ℕ State)
bus_rows = timer_rows ++ interrupt_rows ++ priority_rows ++ control_rows

-- what a word reads as; None where there is none
unfoldable pub word_of : ℕ → ℕ → State → Option ℕ
word_of offset ipsr s = word_at bus_rows ipsr offset s

unfoldable pub is_word : ℕ → Bool
is_word offset = has_row bus_rows offset

-- a write to AIRCR with its key and SYSRESETREQ asks for a reset of the system
abbrev pub asks_reset : ℕ → Option ℕ → Bool
asks_reset offset None = false
asks_reset offset (Some w) = offset == offset_in bus_rows "AIRCR" && (w / 2 ^ 16 == 0x05FA && has_bit w 2)

abbrev pub is_allowed : ℕ → Option ℕ → Bool
is_allowed offset write = is_word offset && not (asks_reset offset write)

unfoldable pub after_access : ℕ → Option ℕ → State → State
after_access offset write s = effect_at bus_rows offset write s

-- what a read or a write does; nothing where it is not allowed
abbrev pub effect_of : ℕ → Option ℕ → State → State
effect_of offset write s = if is_allowed offset write then after_access offset write s else s

-- each register is what stands at its offset, and nothing stands at any other
abbrev pub EachRegisterIsAtItsOffset : Type 0
EachRegisterIsAtItsOffset = IsListed bus_rows
