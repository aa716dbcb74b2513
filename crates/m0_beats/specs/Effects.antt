-- What an instruction leaves in registers and flags, by what it works out (ARMv6-M Architecture Reference Manual, A6.7).
-- `read` has the values that its access beats read, in their order, a narrow one zero-extended; a value past its end counts
-- as 0.
use Rattle.std.specs.Prelude.{ℕ, ◌+◌, ◌-◌, ◌*◌, ◌/◌, ◌%◌, ◌^◌, Bool, ◌==◌, if◌then◌else◌, List, [], ◌∷◌, length, Option, Some, None, slice_index}
use Rattle.std.specs.Bool.{then_some}
use Rattle.rp_base.specs.Word.{has_bit}
use Rattle.m0_alu.specs.Extend.{extended}
use Rattle.m0_alu.specs.declared.ExtendKind.TheVariants as extends
use Rattle.rp_base.specs.declared.Size.{Size}
use Rattle.rp_base.specs.declared.Size.TheVariants as sizes
use Rattle.m0_beats.specs.declared.registers.Regs.{Regs}
use Rattle.m0_beats.specs.Registers.{register_of, with_register, with_sp, with_pc, with_sign, moved_on, pc_of, sp_of}
use Rattle.m0_beats.specs.Special.{special_of, with_special}
use Rattle.m0_beats.specs.Conditions.{condition_holds, is_exception_return}
use Rattle.m0_beats.specs.Beats.{registers_of, bytes_of_list, push_address}

-- the destination takes the value; a comparison has none
abbrev pub with_result : Regs → Option ℕ → ℕ → Regs
with_result s None value = s
with_result s (Some d) value = with_register s d value

-- ---- data processing

-- the flags of a sum
abbrev pub with_sum_flags : Regs → ℕ × Bool × Bool → Regs
with_sum_flags s sum = record (with_sign s sum.0) { c = sum.1; v = sum.2 }

abbrev pub after_sum : Option ℕ → ℕ × Bool × Bool → Regs → Regs
after_sum d sum s = with_result (with_sum_flags (moved_on s 2) sum) d sum.0

-- C and V stay as they are
abbrev pub after_word : Option ℕ → ℕ → Regs → Regs
after_word d value s = with_result (with_sign (moved_on s 2) value) d value

-- V stays as it is
abbrev pub after_shift : ℕ → ℕ × Bool → Regs → Regs
after_shift d out s = with_register (record (with_sign (moved_on s 2) out.0) { c = out.1 }) d out.0

-- a value with no flags
abbrev pub after_value : ℕ → ℕ → Regs → Regs
after_value d value s = with_register (moved_on s 2) d value

-- ---- branches

-- the address of the next instruction with bit 0 set
abbrev pub link_value : ℕ → Regs → ℕ
link_value bytes s = (moved_on s bytes).pc / 2 * 2 + 1

abbrev pub branched : ℕ → Regs → Regs
branched offset s = with_pc s ((pc_of s + offset) % 2 ^ 32)

abbrev pub branched_if : ℕ → ℕ → Regs → Regs
branched_if condition offset s = if condition_holds condition s then branched offset s else moved_on s 2

abbrev pub branched_link : ℕ → Regs → Regs
branched_link offset s = branched offset (record s { lr = link_value 4 s })

-- a branch to a value whose bit 0 is the new T (BXWritePC). In Handler mode an exception return begins in its stead, and
-- the branch itself changes nothing
abbrev pub exchanged : Regs → ℕ → Regs
exchanged s value =
    if is_exception_return s.ipsr value then s else record (with_pc s value) { t = has_bit value 0 }

-- a branch to a value whose bit 0 is the new T, with the return address in LR (BLXWritePC)
abbrev pub exchanged_link : Regs → ℕ → Regs
exchanged_link s value = record (with_pc s value) { lr = link_value 2 s; t = has_bit value 0 }

-- ---- loads and stores

-- a narrow value as a word
abbrev pub loaded : Size → Bool → ℕ → ℕ
loaded sizes.Byte sign value = extended (if sign then extends.Sxtb else extends.Uxtb) value
loaded sizes.Half sign value = extended (if sign then extends.Sxth else extends.Uxth) value
loaded sizes.Word sign value = value

-- a register of a list takes its word; PC takes it as a branch
abbrev pub with_loaded : Regs → ℕ → ℕ → Regs
with_loaded s k value = if k == 15 then exchanged s value else with_register s k value

-- the registers take the values from the given index on
abbrev pub with_all_loaded : Regs → List ℕ → List ℕ → ℕ → Regs
with_all_loaded s [] read index = s
with_all_loaded s (k ∷ ks) read index = with_all_loaded (with_loaded s k (slice_index read index)) ks read (index + 1)

-- the base register of LDM and STM goes on past the list
abbrev pub base_after : ℕ → ℕ → ℕ
base_after base list = (base + bytes_of_list list) % 2 ^ 32

-- LDM writes no base back where the base is in its list
abbrev pub after_load_many : ℕ → ℕ → Regs → List ℕ → Regs
after_load_many n list s read =
    let after = with_all_loaded (moved_on s 2) (registers_of list) read 0 in
    if has_bit list n then after else with_register after n (base_after (register_of s n) list)

abbrev pub after_store_many : ℕ → ℕ → Regs → Regs
after_store_many n list s = with_register (moved_on s 2) n (base_after (register_of s n) list)

abbrev pub after_push : ℕ → Regs → Regs
after_push list s = with_sp (moved_on s 2) (push_address list s)

-- a POP of PC stays where it is until the branch
abbrev pub after_pop : ℕ → Regs → List ℕ → Regs
after_pop list s read =
    with_all_loaded
    (with_sp (if has_bit list 15 then s else moved_on s 2) (base_after (sp_of s) list))
    (registers_of list)
    read
    0

-- ---- special registers

abbrev pub after_read_special : ℕ → ℕ → Regs → Regs
after_read_special d number s = with_register (moved_on s 4) d (special_of s number)

abbrev pub after_write_special : ℕ → ℕ → Regs → Regs
after_write_special n number s = with_special (moved_on s 4) number (register_of s n)

-- CPSID sets PRIMASK and CPSIE clears it
abbrev pub after_mask : Bool → Regs → Regs
after_mask set s = record (moved_on s 2) { primask = set }

-- ---- exception returns

-- the last value that the registers of a list take
abbrev pub last_read : ℕ → List ℕ → ℕ
last_read list read = slice_index read (length (registers_of list) - 1)

-- a value that is branched to, where it begins an exception return
abbrev pub returned : Regs → ℕ → Option ℕ
returned s value = then_some (is_exception_return s.ipsr value) value

-- so does the value of a POP of PC
abbrev pub returned_pop : ℕ → Regs → List ℕ → Option ℕ
returned_pop list s read = if has_bit list 15 then returned s (last_read list read) else None
