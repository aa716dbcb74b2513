-- The cycles inside the core and the accesses that an instruction is made of (ARM Cortex-M0+ Technical Reference Manual, 3.3,
-- Instruction set summary, with the single-cycle port for the addresses that begin with hexadecimal D). The number N of
-- registers in the timing of LDM, STM, PUSH and POP counts LR and PC.
use Rattle.std.specs.Prelude.{ℕ, ◌+◌, ◌-◌, ◌*◌, ◌/◌, ◌%◌, ◌^◌, Bool, false, not, ◌==◌, nat_le, if◌then◌else◌, List, [], ◌∷◌, ◌++◌, length, Option, Some, None, replicate, map, filter}
use Rattle.rp_base.specs.Word.{has_bit}
use Rattle.rp_base.specs.declared.Size.{Size}
use Rattle.rp_base.specs.declared.Size.TheVariants as sizes
use Rattle.m0_beats.specs.declared.registers.Regs.{Regs}
use Rattle.m0_beats.specs.declared.timing.Beat.{Beat}
use Rattle.m0_beats.specs.declared.timing.Beat.TheVariants.{Inner, Access}
use Rattle.m0_beats.specs.Registers.{register_of, sp_of}

-- how many bytes an access has
abbrev pub bytes_of : Size → ℕ
bytes_of sizes.Byte = 1
bytes_of sizes.Half = 2
bytes_of sizes.Word = 4

-- what a store writes: the low bytes of the register
abbrev pub stored : Size → ℕ → ℕ
stored sizes.Byte value = value % 2 ^ 8
stored sizes.Half value = value % 2 ^ 16
stored sizes.Word value = value

abbrev pub access : ℕ → Size → Option ℕ → Beat
access address size write = Access (record { address = address; size = size; write = write })

-- the numbers of the registers of a list, ascending
unfoldable pub registers_of : ℕ → List ℕ
registers_of list =
    filter (has_bit list) (0 ∷ 1 ∷ 2 ∷ 3 ∷ 4 ∷ 5 ∷ 6 ∷ 7 ∷ 8 ∷ 9 ∷ 10 ∷ 11 ∷ 12 ∷ 13 ∷ 14 ∷ 15 ∷ [])

-- how many bytes the registers of a list take
abbrev pub bytes_of_list : ℕ → ℕ
bytes_of_list list = 4 * length (registers_of list)

-- words at ascending addresses
abbrev pub accesses : ℕ → List (Option ℕ) → List Beat
accesses address [] = []
accesses address (write ∷ writes) = access address sizes.Word write ∷ accesses ((address + 4) % 2 ^ 32) writes

-- the reads and the writes of the registers of a list
abbrev pub reads : ℕ → List ℕ → List Beat
reads address registers = accesses address (map (λ k. None) registers)

abbrev pub writes : ℕ → List ℕ → Regs → List Beat
writes address registers s = accesses address (map (λ k. Some (register_of s k)) registers)

-- the lowest address of a PUSH
abbrev pub push_address : ℕ → Regs → ℕ
push_address list s = (sp_of s + (2 ^ 32 - bytes_of_list list)) % 2 ^ 32

-- one load or store: the single-cycle port takes the inner beat away
abbrev pub single : ℕ → Beat → List Beat
single address beat = if address / 2 ^ 28 == 13 then beat ∷ [] else Inner ∷ beat ∷ []

-- at an address modulo 2^32
abbrev pub one_access : ℕ → Size → Option ℕ → List Beat
one_access address size write = single (address % 2 ^ 32) (access (address % 2 ^ 32) size write)

-- so many inner beats
abbrev pub inner : ℕ → List Beat
inner count = replicate count Inner

-- one inner beat, and two where PC is written
abbrev pub inner_to : ℕ → List Beat
inner_to d = if nat_le 15 d then inner 2 else inner 1

-- a POP of PC has two inner beats more
abbrev pub pop_end : ℕ → List Beat
pop_end list = if has_bit list 15 then inner 2 else []

abbrev pub pop_beats : ℕ → Regs → List Beat
pop_beats list s = Inner ∷ (reads (sp_of s) (registers_of list) ++ pop_end list)

-- an access whose address is no multiple of its size
abbrev pub is_unaligned_beat : Beat → Bool
is_unaligned_beat Inner = false
is_unaligned_beat (Access request) = not (request.address % bytes_of request.size == 0)
