-- The numbers and registers of items, and what an item is where they fit or not (ARMv6-M Architecture Reference Manual, A6.7; the directives
-- are the project's own). A number outside its range counts before a wrong register.
use Rattle.std.specs.Prelude.{ℕ, ◌+◌, ◌-◌, ◌/◌, ◌%◌, Bool, true, not, ◌==◌, ◌&&◌, ◌||◌, nat_lt, nat_le, if◌then◌else◌, List, Option, None, Some, bit_and, take, drop}
use Rattle.std.specs.Option.{unwrap_or}
use Rattle.rp_base.specs.declared.op.Op.{Op}
use Rattle.rp_base.specs.declared.op.Op.TheVariants.{Push, Pop, Stm, Ldm}
use Rattle.thumb_parse.specs.declared.mnemonic.Mnemonic.{Mnemonic}
use Rattle.thumb_parse.specs.declared.mnemonic.Mnemonic.TheVariants.{Ldr, Beq, Bne, Bcs, Bcc, Bmi, Bpl, Bvs, Bvc, Bhi, Bls, Bge, Blt, Bgt, Ble, Str, Strh, Ldrh}
use Rattle.thumb_parse.specs.declared.token.Span.{Span}
use Rattle.thumb_parse.specs.declared.token.Number.{Number}
use Rattle.thumb_parse.specs.declared.item.Item.{Item}
use Rattle.thumb_parse.specs.declared.item.Item.TheVariants.{Instruction, OutOfRange, WrongRegister, Word, Half, Space}
use Rattle.thumb_parse.specs.Lists.{register_bit}

-- how many units a number is, where it is a whole count of them from `least` to `most`
abbrev pub units : ℕ → ℕ → ℕ → Number → Option ℕ
units unit least most k =
    if k.down == 0 && k.up % unit == 0 && nat_le least (k.up / unit) && nat_le (k.up / unit) most then Some (k.up / unit) else None

abbrev pub is_low : ℕ → Bool
is_low r = nat_lt r 8

-- an instruction of so many bytes, of whose number and registers this is known
abbrev pub judged : ℕ → Bool → Bool → Op → Item
judged size ranged held op = if ranged then (if held then Instruction op else WrongRegister size) else OutOfRange size

-- the number of a field, where it has one
abbrev pub field : Option ℕ → ℕ
field k = unwrap_or k 0

-- `.word k` from -2^31 to 2^32 - 1, modulo 2^32
abbrev pub word : Number → Item
word k = if nat_lt 0xFFFF_FFFF k.up || nat_lt 0x8000_0000 k.down then OutOfRange 4 else Word ((k.up + 0x1_0000_0000 - k.down) % 0x1_0000_0000)

-- `.half k` from -32768 to 65535, modulo 65536
abbrev pub half : Number → Item
half k = if nat_lt 0xFFFF k.up || nat_lt 0x8000 k.down then OutOfRange 2 else Half ((k.up + 0x1_0000 - k.down) % 0x1_0000)

-- `.space k` from 1 to 4096; where k is another number it has no bytes
abbrev pub space : Number → Item
space k = if nat_lt 0 k.up && nat_le k.up 4096 then Space k.up else OutOfRange 0

-- the condition of a branch (A7.3)
abbrev pub condition_of : Mnemonic → Option ℕ
condition_of Beq = Some 0
condition_of Bne = Some 1
condition_of Bcs = Some 2
condition_of Bcc = Some 3
condition_of Bmi = Some 4
condition_of Bpl = Some 5
condition_of Bvs = Some 6
condition_of Bvc = Some 7
condition_of Bhi = Some 8
condition_of Bls = Some 9
condition_of Bge = Some 10
condition_of Blt = Some 11
condition_of Bgt = Some 12
condition_of Ble = Some 13
condition_of mnemonic = None

-- the text of a name of a line
abbrev pub name_text : List ℕ → Span → List ℕ
name_text line name = take name.count (drop name.start line)

-- MSR and MRS hold every register but SP and PC
abbrev pub is_special_register : ℕ → Bool
is_special_register r = not (r == 13) && not (r == 15)

-- the bytes of a unit of a load or store
abbrev pub unit_of : Mnemonic → ℕ
unit_of Str = 4
unit_of Ldr = 4
unit_of Strh = 2
unit_of Ldrh = 2
unit_of mnemonic = 1

-- what holds of a list by whether it ascends and by its bits: it has low registers and perhaps this bit of the upper eight
abbrev pub holds_list : Bool → ℕ → ℕ → Bool
holds_list ascends bits last = ascends && (bits / 256 == 0 || bits / 256 == last)

-- a low register that is in the list or not
abbrev pub is_listed : ℕ → ℕ → Bool
is_listed n bits = not (bit_and bits (register_bit n) == 0)

-- `push {list}` with lr last or not, `pop {list}` with pc last or not
abbrev pub push_item : Bool → ℕ → Item
push_item ascends bits = judged 2 true (holds_list ascends bits 0x40) (Push (bits / 256 == 0x40) (bits % 256))

abbrev pub pop_item : Bool → ℕ → Item
pop_item ascends bits = judged 2 true (holds_list ascends bits 0x80) (Pop (bits / 256 == 0x80) (bits % 256))

-- `stm n!, {list}`, `ldm n!, {list}` without n in the list, `ldm n, {list}` with it
abbrev pub stm_item : ℕ → Bool → ℕ → Item
stm_item n ascends bits = judged 2 true (is_low n && holds_list ascends bits 0) (Stm n (bits % 256))

abbrev pub ldm_item : ℕ → Bool → ℕ → Item
ldm_item n ascends bits = judged 2 true (is_low n && holds_list ascends bits 0 && not (is_listed n bits)) (Ldm n (bits % 256))

abbrev pub ldm_listed_item : ℕ → Bool → ℕ → Item
ldm_listed_item n ascends bits = judged 2 true (is_low n && holds_list ascends bits 0 && is_listed n bits) (Ldm n (bits % 256))
