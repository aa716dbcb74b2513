-- The words of a line: mnemonics, registers, directives, numbers and names (ARMv6-M Architecture Reference Manual, A6.7 for the
-- mnemonics, A2.3.1 for the registers; the directives, the forms of numbers and which words are no names are the project's own).
use Rattle.std.specs.Prelude.{ℕ, ◌+◌, ◌-◌, ◌==◌, ◌&&◌, if◌then◌else◌, List, [], ◌∷◌, length, Option, None, Some, codes, find}
use Rattle.std.specs.Option.{option_map_or}
use Rattle.std.specs.Str.{bytes_eq}
use Rattle.source_text.specs.Characters.{is_between, is_digit}
use Rattle.source_text.specs.Numbers.{number_of}
use Rattle.thumb_parse.specs.declared.mnemonic.Mnemonic.{Mnemonic}
use Rattle.thumb_parse.specs.declared.mnemonic.Mnemonic.TheVariants.{Movs, Cmp, Adds, Subs, Lsls, Lsrs, Asrs, Ands, Eors, Adcs, Sbcs, Rors, Tst, Rsbs, Cmn, Orrs, Muls, Bics, Mvns, Add, Mov, Bx, Blx, Ldr, Adr, Str, Strh, Strb, Ldrsb, Ldrh, Ldrb, Ldrsh, Sub, Sxth, Sxtb, Uxth, Uxtb, Rev, Rev16, Revsh, Push, Pop, Stm, Ldm, Cpsie, Cpsid, Nop, Yield, Wfe, Wfi, Sev, Dsb, Dmb, Isb, Bkpt, Udf, Svc, B, Bl, Beq, Bne, Bcs, Bcc, Bmi, Bpl, Bvs, Bvc, Bhi, Bls, Bge, Blt, Bgt, Ble, Msr, Mrs, Word, Half, Space, Align}
use Rattle.thumb_parse.specs.declared.token.Span.{Span}
use Rattle.thumb_parse.specs.declared.token.Token.{Token}
use Rattle.thumb_parse.specs.declared.token.Token.TheVariants.{Name, Register, Mnemonic as MnemonicToken, Number as NumberToken, Unfit}

-- ---- mnemonics and directives, in lower case

abbrev pub mnemonic_name : Mnemonic → List ℕ
mnemonic_name Movs = codes "movs"
mnemonic_name Cmp = codes "cmp"
mnemonic_name Adds = codes "adds"
mnemonic_name Subs = codes "subs"
mnemonic_name Lsls = codes "lsls"
mnemonic_name Lsrs = codes "lsrs"
mnemonic_name Asrs = codes "asrs"
mnemonic_name Ands = codes "ands"
mnemonic_name Eors = codes "eors"
mnemonic_name Adcs = codes "adcs"
mnemonic_name Sbcs = codes "sbcs"
mnemonic_name Rors = codes "rors"
mnemonic_name Tst = codes "tst"
mnemonic_name Rsbs = codes "rsbs"
mnemonic_name Cmn = codes "cmn"
mnemonic_name Orrs = codes "orrs"
mnemonic_name Muls = codes "muls"
mnemonic_name Bics = codes "bics"
mnemonic_name Mvns = codes "mvns"
mnemonic_name Add = codes "add"
mnemonic_name Mov = codes "mov"
mnemonic_name Bx = codes "bx"
mnemonic_name Blx = codes "blx"
mnemonic_name Ldr = codes "ldr"
mnemonic_name Adr = codes "adr"
mnemonic_name Str = codes "str"
mnemonic_name Strh = codes "strh"
mnemonic_name Strb = codes "strb"
mnemonic_name Ldrsb = codes "ldrsb"
mnemonic_name Ldrh = codes "ldrh"
mnemonic_name Ldrb = codes "ldrb"
mnemonic_name Ldrsh = codes "ldrsh"
mnemonic_name Sub = codes "sub"
mnemonic_name Sxth = codes "sxth"
mnemonic_name Sxtb = codes "sxtb"
mnemonic_name Uxth = codes "uxth"
mnemonic_name Uxtb = codes "uxtb"
mnemonic_name Rev = codes "rev"
mnemonic_name Rev16 = codes "rev16"
mnemonic_name Revsh = codes "revsh"
mnemonic_name Push = codes "push"
mnemonic_name Pop = codes "pop"
mnemonic_name Stm = codes "stm"
mnemonic_name Ldm = codes "ldm"
mnemonic_name Cpsie = codes "cpsie"
mnemonic_name Cpsid = codes "cpsid"
mnemonic_name Nop = codes "nop"
mnemonic_name Yield = codes "yield"
mnemonic_name Wfe = codes "wfe"
mnemonic_name Wfi = codes "wfi"
mnemonic_name Sev = codes "sev"
mnemonic_name Dsb = codes "dsb"
mnemonic_name Dmb = codes "dmb"
mnemonic_name Isb = codes "isb"
mnemonic_name Bkpt = codes "bkpt"
mnemonic_name Udf = codes "udf"
mnemonic_name Svc = codes "svc"
mnemonic_name B = codes "b"
mnemonic_name Bl = codes "bl"
mnemonic_name Beq = codes "beq"
mnemonic_name Bne = codes "bne"
mnemonic_name Bcs = codes "bcs"
mnemonic_name Bcc = codes "bcc"
mnemonic_name Bmi = codes "bmi"
mnemonic_name Bpl = codes "bpl"
mnemonic_name Bvs = codes "bvs"
mnemonic_name Bvc = codes "bvc"
mnemonic_name Bhi = codes "bhi"
mnemonic_name Bls = codes "bls"
mnemonic_name Bge = codes "bge"
mnemonic_name Blt = codes "blt"
mnemonic_name Bgt = codes "bgt"
mnemonic_name Ble = codes "ble"
mnemonic_name Msr = codes "msr"
mnemonic_name Mrs = codes "mrs"
mnemonic_name Word = codes ".word"
mnemonic_name Half = codes ".half"
mnemonic_name Space = codes ".space"
mnemonic_name Align = codes ".align"

abbrev pub mnemonics : List Mnemonic
mnemonics =
    Movs ∷ Cmp ∷ Adds ∷ Subs ∷ Lsls ∷ Lsrs ∷ Asrs ∷ Ands ∷ Eors ∷ Adcs ∷ Sbcs ∷ Rors ∷ Tst ∷ Rsbs ∷ Cmn ∷ Orrs ∷ Muls ∷ Bics ∷ Mvns ∷ Add ∷ Mov ∷ Bx ∷ Blx ∷ Ldr ∷ Adr ∷ Str ∷ Strh ∷ Strb ∷ Ldrsb ∷ Ldrh ∷ Ldrb ∷ Ldrsh ∷ Sub ∷ Sxth ∷ Sxtb ∷ Uxth ∷ Uxtb ∷ Rev ∷ Rev16 ∷ Revsh ∷ Push ∷ Pop ∷ Stm ∷ Ldm ∷ Cpsie ∷ Cpsid ∷ Nop ∷ Yield ∷ Wfe ∷ Wfi ∷ Sev ∷ Dsb ∷ Dmb ∷ Isb ∷ Bkpt ∷ Udf ∷ Svc ∷ B ∷ Bl ∷ Beq ∷ Bne ∷ Bcs ∷ Bcc ∷ Bmi ∷ Bpl ∷ Bvs ∷ Bvc ∷ Bhi ∷ Bls ∷ Bge ∷ Blt ∷ Bgt ∷ Ble ∷ Msr ∷ Mrs ∷ Word ∷ Half ∷ Space ∷ Align ∷ []

unfoldable pub mnemonic_of : List ℕ → Option Mnemonic
mnemonic_of word = find (λ mnemonic. bytes_eq (mnemonic_name mnemonic) word) mnemonics

-- ---- registers: r0 to r15, sp (13), lr (14) and pc (15)

abbrev pub register_of : List ℕ → Option ℕ
register_of (a ∷ b ∷ []) =
    if a == 114 && is_digit b then Some (b - 48)
    else if a == 115 && b == 112 then Some 13
    else if a == 108 && b == 114 then Some 14
    else if a == 112 && b == 99 then Some 15
    else None
register_of (a ∷ b ∷ c ∷ []) = if a == 114 && b == 49 && is_between 48 53 c then Some (10 + (c - 48)) else None
register_of word = None

-- ---- numbers: at most ten digits, decimal or after `0x`

abbrev pub digits_of : List ℕ → Option ℕ
digits_of (a ∷ b ∷ digits) = if a == 48 && b == 120 then number_of 16 10 digits else number_of 10 10 (a ∷ b ∷ digits)
digits_of digits = number_of 10 10 digits

-- ---- a word, which begins at this place of its line

abbrev pub positive : ℕ → Token
positive n = NumberToken (record { up = n; down = 0 })

abbrev pub negative : ℕ → Token
negative n = NumberToken (record { up = 0; down = n })

abbrev pub span_of : ℕ → List ℕ → Span
span_of start word = record { start = start; count = length word }

abbrev pub name_token : ℕ → List ℕ → Token
name_token start word = option_map_or Register (register_of word) (option_map_or MnemonicToken (mnemonic_of word) (Name (span_of start word)))

abbrev pub directive_token : List ℕ → Token
directive_token word = option_map_or MnemonicToken (mnemonic_of word) Unfit

-- a word begins with `-` where it is a negative number, with `.` where it is a directive
abbrev pub word_token : ℕ → List ℕ → Token
word_token start [] = Unfit
word_token start (c ∷ cs) =
    if c == 45 then option_map_or negative (digits_of cs) Unfit
    else if c == 46 then directive_token (c ∷ cs)
    else if is_digit c then option_map_or positive (digits_of (c ∷ cs)) Unfit
    else name_token start (c ∷ cs)
