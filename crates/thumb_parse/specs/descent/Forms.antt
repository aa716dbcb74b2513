-- How an item is found by its mnemonic and its operands: where no form has the mnemonic with operands of that shape there is none.
use Rattle.std.specs.Prelude.{ℕ, ◌%◌, Bool, true, ◌==◌, ◌&&◌, if◌then◌else◌, List, [], ◌∷◌, Option, None, Some, is_some}
use Rattle.std.specs.Option.{option_map}
use Rattle.std.specs.Str.{bytes_eq}
use Rattle.rp_base.specs.declared.op.Op.{Op}
use Rattle.rp_base.specs.declared.op.Op.TheVariants.{LslImm, Cmp as CmpLow, CmpHigh, AddHigh, MovHigh, AddSp, Cpsie as CpsieOp, Cpsid as CpsidOp, Msr as MsrOp, Mrs as MrsOp}
use Rattle.thumb_parse.specs.declared.mnemonic.Mnemonic.{Mnemonic}
use Rattle.thumb_parse.specs.declared.mnemonic.Mnemonic.TheVariants.{Cmp, Lsls, Lsrs, Asrs, Add, Mov, Sub, Ldr, Adr, Push, Pop, Stm, Ldm, Cpsie, Cpsid, B, Bl, Msr, Mrs, Word as WordDirective, Half as HalfDirective, Space as SpaceDirective, Align as AlignDirective}
use Rattle.thumb_parse.specs.declared.token.Span.{Span}
use Rattle.thumb_parse.specs.declared.token.Number.{Number}
use Rattle.thumb_parse.specs.declared.operands.RegisterList.{RegisterList}
use Rattle.thumb_parse.specs.declared.operands.Operands.{Operands}
use Rattle.thumb_parse.specs.declared.operands.Operands.TheVariants.{Empty as NoOperand, Number as NumberOperand, Name, NamePlus, Immediate, ImmediateRegister, Register, TwoRegisters, ThreeRegisters, RegisterImmediate, RegistersImmediate, RegisterName, IndexRegister, IndexImmediate, List as ListOperand, WriteBack, RegisterAndList}
use Rattle.thumb_parse.specs.declared.item.Item.{Item}
use Rattle.thumb_parse.specs.declared.item.Item.TheVariants.{Instruction, Literal, Address, Branch, Call, BranchIf, WordAt, Align}
use Rattle.thumb_parse.specs.FormOps.{alone_op, number_op, branch_op, low_op, three_op, byte_op, small_op, index_op, offset_op, stack_op, adjust_op, shift_op}
use Rattle.thumb_parse.specs.Forms.{units, is_low, judged, field, word, half, space, condition_of, name_text, is_special_register, unit_of, push_item, pop_item, stm_item, ldm_item, ldm_listed_item}

-- an instruction of two bytes, of whose number and registers this is known, if a form has it
abbrev pub short : Bool → Bool → Option Op → Option Item
short ranged held op = option_map (judged 2 ranged held) op

-- `nop` and the like, `.align`
abbrev pub bare_item : Mnemonic → Option Item
bare_item AlignDirective = Some Align
bare_item mnemonic = option_map Instruction (alone_op mnemonic)

abbrev pub with_number : Mnemonic → Number → Option Item
with_number WordDirective k = Some (word k)
with_number HalfDirective k = Some (half k)
with_number SpaceDirective k = Some (space k)
with_number mnemonic k = None

-- `cpsie i` and `cpsid i`
abbrev pub for_interrupts : List ℕ → Span → Op → Option Item
for_interrupts line name op = if bytes_eq (name_text line name) (105 ∷ []) then Some (Instruction op) else None

-- `b`, `bl` and the conditional branches, `.word name`, `cpsie i`
abbrev pub with_name : List ℕ → Mnemonic → Span → Option Item
with_name line B name = Some (Branch name)
with_name line Bl name = Some (Call name)
with_name line WordDirective name = Some (WordAt name (record { up = 0; down = 0 }))
with_name line Cpsie name = for_interrupts line name CpsieOp
with_name line Cpsid name = for_interrupts line name CpsidOp
with_name line mnemonic name = option_map (λ condition. BranchIf condition name) (condition_of mnemonic)

-- `.word name+k`
abbrev pub with_sum : Mnemonic → Span → Number → Option Item
with_sum WordDirective name k = Some (WordAt name k)
with_sum mnemonic name k = None

-- `bkpt`, `udf`, `svc` and 0 to 255
abbrev pub with_immediate : Mnemonic → Number → Option Item
with_immediate mnemonic k = short (is_some (units 1 0 255 k)) true (number_op mnemonic (field (units 1 0 255 k)))

-- `msr #k, m` with 0 to 255
abbrev pub immediate_register : Mnemonic → Number → ℕ → Option Item
immediate_register Msr k m = Some (judged 4 (is_some (units 1 0 255 k)) (is_special_register m) (MsrOp m (field (units 1 0 255 k))))
immediate_register mnemonic k m = None

-- `bx`, `blx`
abbrev pub with_register : Mnemonic → ℕ → Option Item
with_register mnemonic m = option_map Instruction (branch_op mnemonic m)

-- `cmp` of two low registers, or of any
abbrev pub compare : ℕ → ℕ → Op
compare d m = if is_low d && is_low m then CmpLow m d else CmpHigh d m

-- `add`, `cmp`, `mov` of any registers, or else the instructions on two low registers
abbrev pub two_registers : Mnemonic → ℕ → ℕ → Option Item
two_registers Cmp d m = Some (Instruction (compare d m))
two_registers Add d m = Some (Instruction (AddHigh d m))
two_registers Mov d m = Some (Instruction (MovHigh d m))
two_registers mnemonic d m = short true (is_low d && is_low m) (low_op mnemonic m d)

-- `adds`, `subs`
abbrev pub three_registers : Mnemonic → ℕ → ℕ → ℕ → Option Item
three_registers mnemonic d n m = short true (is_low d && is_low n && is_low m) (three_op mnemonic m n d)

-- `add sp, #k` and `sub sp, #k` with 0 to 127 words
abbrev pub adjust_stack : Mnemonic → ℕ → Number → Option Item
adjust_stack mnemonic d k =
    if d == 13 then short (is_some (units 4 0 127 k)) true (adjust_op mnemonic (field (units 4 0 127 k))) else None

-- `mrs d, #k` with 0 to 255
abbrev pub read_special : ℕ → Number → Item
read_special d k = judged 4 (is_some (units 1 0 255 k)) (is_special_register d) (MrsOp d (field (units 1 0 255 k)))

-- `movs`, `cmp`, `adds`, `subs` with 0 to 255
abbrev pub with_byte : Mnemonic → ℕ → Number → Option Item
with_byte mnemonic d k = short (is_some (units 1 0 255 k)) (is_low d) (byte_op mnemonic d (field (units 1 0 255 k)))

-- `mrs d, #k`, `add sp, #k`, `sub sp, #k`; `movs`, `cmp`, `adds`, `subs` with 0 to 255
abbrev pub register_immediate : Mnemonic → ℕ → Number → Option Item
register_immediate Mrs d k = Some (read_special d k)
register_immediate Add d k = adjust_stack Add d k
register_immediate Sub d k = adjust_stack Sub d k
register_immediate mnemonic d k = with_byte mnemonic d k

-- `lsls` by 0 to 31
abbrev pub shift_left : ℕ → ℕ → Number → Item
shift_left d m k = judged 2 (is_some (units 1 0 31 k)) (is_low d && is_low m) (LslImm (field (units 1 0 31 k)) m d)

-- `lsrs` and `asrs` by 1 to 32, where 0 stands for 32
abbrev pub shift_right : Mnemonic → ℕ → ℕ → Number → Option Item
shift_right mnemonic d m k =
    short (is_some (units 1 1 32 k)) (is_low d && is_low m) (shift_op mnemonic (field (units 1 1 32 k) % 32) m d)

-- `add d, sp, #k` with 0 to 255 words
abbrev pub from_stack : ℕ → ℕ → Number → Option Item
from_stack d n k =
    if n == 13 then Some (judged 2 (is_some (units 4 0 255 k)) (is_low d) (AddSp d (field (units 4 0 255 k)))) else None

-- `adds` and `subs` with 0 to 7
abbrev pub small_number : Mnemonic → ℕ → ℕ → Number → Option Item
small_number mnemonic d n k = short (is_some (units 1 0 7 k)) (is_low d && is_low n) (small_op mnemonic (field (units 1 0 7 k)) n d)

-- shifts by a number, `add d, sp, #k`, `adds` and `subs` with 0 to 7
abbrev pub registers_immediate : Mnemonic → ℕ → ℕ → Number → Option Item
registers_immediate Lsls d n k = Some (shift_left d n k)
registers_immediate Lsrs d n k = shift_right Lsrs d n k
registers_immediate Asrs d n k = shift_right Asrs d n k
registers_immediate Add d n k = from_stack d n k
registers_immediate mnemonic d n k = small_number mnemonic d n k

-- `ldr t, name`, `adr d, name`
abbrev pub register_name : Mnemonic → ℕ → Span → Option Item
register_name Ldr t name = Some (Literal t name)
register_name Adr d name = Some (Address d name)
register_name mnemonic r name = None

-- loads and stores `t, [n, m]`
abbrev pub index_register : Mnemonic → ℕ → ℕ → ℕ → Option Item
index_register mnemonic t n m = short true (is_low t && is_low n && is_low m) (index_op mnemonic m n t)

-- loads and stores `t, [n, #k]` with 0 to 31 units; `str` and `ldr` `t, [sp, #k]` with 0 to 255 words
abbrev pub index_immediate : Mnemonic → ℕ → ℕ → Number → Option Item
index_immediate mnemonic t n k =
    if n == 13 && unit_of mnemonic == 4 then short (is_some (units 4 0 255 k)) (is_low t) (stack_op mnemonic t (field (units 4 0 255 k)))
    else
    short (is_some (units (unit_of mnemonic) 0 31 k)) (is_low t && is_low n)
    (offset_op mnemonic (field (units (unit_of mnemonic) 0 31 k)) n t)

-- `push` with `lr`, `pop` with `pc`
abbrev pub with_list : Mnemonic → RegisterList → Option Item
with_list Push list = Some (push_item list.ascends list.mask)
with_list Pop list = Some (pop_item list.ascends list.mask)
with_list mnemonic list = None

-- `stm n!, {list}`, and `ldm n!, {list}` with n not in the list
abbrev pub write_back : Mnemonic → ℕ → RegisterList → Option Item
write_back Stm n list = Some (stm_item n list.ascends list.mask)
write_back Ldm n list = Some (ldm_item n list.ascends list.mask)
write_back mnemonic n list = None

-- `ldm n, {list}` with n in the list
abbrev pub register_and_list : Mnemonic → ℕ → RegisterList → Option Item
register_and_list Ldm n list = Some (ldm_listed_item n list.ascends list.mask)
register_and_list mnemonic n list = None

-- the item of a mnemonic and its operands on this line
unfoldable pub form_of : List ℕ → Mnemonic → Operands → Option Item
form_of line mnemonic NoOperand = bare_item mnemonic
form_of line mnemonic (NumberOperand k) = with_number mnemonic k
form_of line mnemonic (Name name) = with_name line mnemonic name
form_of line mnemonic (NamePlus name k) = with_sum mnemonic name k
form_of line mnemonic (Immediate k) = with_immediate mnemonic k
form_of line mnemonic (ImmediateRegister k m) = immediate_register mnemonic k m
form_of line mnemonic (Register m) = with_register mnemonic m
form_of line mnemonic (TwoRegisters d m) = two_registers mnemonic d m
form_of line mnemonic (ThreeRegisters d n m) = three_registers mnemonic d n m
form_of line mnemonic (RegisterImmediate d k) = register_immediate mnemonic d k
form_of line mnemonic (RegistersImmediate d n k) = registers_immediate mnemonic d n k
form_of line mnemonic (RegisterName r name) = register_name mnemonic r name
form_of line mnemonic (IndexRegister t n m) = index_register mnemonic t n m
form_of line mnemonic (IndexImmediate t n k) = index_immediate mnemonic t n k
form_of line mnemonic (ListOperand list) = with_list mnemonic list
form_of line mnemonic (WriteBack n list) = write_back mnemonic n list
form_of line mnemonic (RegisterAndList n list) = register_and_list mnemonic n list
