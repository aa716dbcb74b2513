-- The operations of the forms, group by group: which operation a mnemonic names where its operands have a shape (ARMv6-M
-- Architecture Reference Manual, A6.7).
use Rattle.std.specs.Prelude.{ℕ, Option, None, Some}
use Rattle.rp_base.specs.declared.op.Op.{Op}
use Rattle.rp_base.specs.declared.op.Op.TheVariants.{Adc as AdcOp, AddImm3 as AddImm3Op, AddImm8 as AddImm8Op, AddReg as AddRegOp, AddSpImm as AddSpImmOp, And as AndOp, AsrImm as AsrImmOp, AsrReg as AsrRegOp, Bic as BicOp, Bkpt as BkptOp, Blx as BlxOp, Bx as BxOp, Cmn as CmnOp, CmpImm as CmpImmOp, Dmb as DmbOp, Dsb as DsbOp, Eor as EorOp, Isb as IsbOp, LdrImm as LdrImmOp, LdrReg as LdrRegOp, LdrSp as LdrSpOp, LdrbImm as LdrbImmOp, LdrbReg as LdrbRegOp, LdrhImm as LdrhImmOp, LdrhReg as LdrhRegOp, LdrsbReg as LdrsbRegOp, LdrshReg as LdrshRegOp, LslReg as LslRegOp, LsrImm as LsrImmOp, LsrReg as LsrRegOp, MovImm as MovImmOp, Mul as MulOp, Mvn as MvnOp, Nop as NopOp, Orr as OrrOp, Rev as RevOp, Rev16 as Rev16Op, Revsh as RevshOp, Ror as RorOp, Rsb as RsbOp, Sbc as SbcOp, Sev as SevOp, StrImm as StrImmOp, StrReg as StrRegOp, StrSp as StrSpOp, StrbImm as StrbImmOp, StrbReg as StrbRegOp, StrhImm as StrhImmOp, StrhReg as StrhRegOp, SubImm3 as SubImm3Op, SubImm8 as SubImm8Op, SubReg as SubRegOp, SubSpImm as SubSpImmOp, Svc as SvcOp, Sxtb as SxtbOp, Sxth as SxthOp, Tst as TstOp, Udf as UdfOp, Uxtb as UxtbOp, Uxth as UxthOp, Wfe as WfeOp, Wfi as WfiOp, Yield as YieldOp}
use Rattle.thumb_parse.specs.declared.mnemonic.Mnemonic.{Mnemonic}
use Rattle.thumb_parse.specs.declared.mnemonic.Mnemonic.TheVariants.{Adcs, Add, Adds, Ands, Asrs, Bics, Bkpt, Blx, Bx, Cmn, Cmp, Dmb, Dsb, Eors, Isb, Ldr, Ldrb, Ldrh, Ldrsb, Ldrsh, Lsls, Lsrs, Movs, Muls, Mvns, Nop, Orrs, Rev, Rev16, Revsh, Rors, Rsbs, Sbcs, Sev, Str, Strb, Strh, Sub, Subs, Svc, Sxtb, Sxth, Tst, Udf, Uxtb, Uxth, Wfe, Wfi, Yield}

-- an instruction without operands
abbrev pub alone_op : Mnemonic → Option Op
alone_op Nop = Some NopOp
alone_op Yield = Some YieldOp
alone_op Wfe = Some WfeOp
alone_op Wfi = Some WfiOp
alone_op Sev = Some SevOp
alone_op Dsb = Some DsbOp
alone_op Dmb = Some DmbOp
alone_op Isb = Some IsbOp
alone_op mnemonic = None

-- `bkpt`, `udf` or `svc` and a byte
abbrev pub number_op : Mnemonic → ℕ → Option Op
number_op Bkpt i = Some (BkptOp i)
number_op Udf i = Some (UdfOp i)
number_op Svc i = Some (SvcOp i)
number_op mnemonic i = None

-- `bx` or `blx` and a register
abbrev pub branch_op : Mnemonic → ℕ → Option Op
branch_op Bx m = Some (BxOp m)
branch_op Blx m = Some (BlxOp m)
branch_op mnemonic m = None

-- an instruction on two low registers
abbrev pub low_op : Mnemonic → ℕ → ℕ → Option Op
low_op Ands m d = Some (AndOp m d)
low_op Eors m d = Some (EorOp m d)
low_op Lsls m d = Some (LslRegOp m d)
low_op Lsrs m d = Some (LsrRegOp m d)
low_op Asrs m d = Some (AsrRegOp m d)
low_op Adcs m d = Some (AdcOp m d)
low_op Sbcs m d = Some (SbcOp m d)
low_op Rors m d = Some (RorOp m d)
low_op Tst m d = Some (TstOp m d)
low_op Rsbs m d = Some (RsbOp m d)
low_op Cmn m d = Some (CmnOp m d)
low_op Orrs m d = Some (OrrOp m d)
low_op Muls m d = Some (MulOp m d)
low_op Bics m d = Some (BicOp m d)
low_op Mvns m d = Some (MvnOp m d)
low_op Sxth m d = Some (SxthOp m d)
low_op Sxtb m d = Some (SxtbOp m d)
low_op Uxth m d = Some (UxthOp m d)
low_op Uxtb m d = Some (UxtbOp m d)
low_op Rev m d = Some (RevOp m d)
low_op Rev16 m d = Some (Rev16Op m d)
low_op Revsh m d = Some (RevshOp m d)
low_op mnemonic m d = None

-- `adds` or `subs` and three low registers
abbrev pub three_op : Mnemonic → ℕ → ℕ → ℕ → Option Op
three_op Adds m n d = Some (AddRegOp m n d)
three_op Subs m n d = Some (SubRegOp m n d)
three_op mnemonic m n d = None

-- an instruction on a low register and a byte
abbrev pub byte_op : Mnemonic → ℕ → ℕ → Option Op
byte_op Movs d i = Some (MovImmOp d i)
byte_op Cmp d i = Some (CmpImmOp d i)
byte_op Adds d i = Some (AddImm8Op d i)
byte_op Subs d i = Some (SubImm8Op d i)
byte_op mnemonic d i = None

-- `adds` or `subs`, two low registers and a number of three bits
abbrev pub small_op : Mnemonic → ℕ → ℕ → ℕ → Option Op
small_op Adds i n d = Some (AddImm3Op i n d)
small_op Subs i n d = Some (SubImm3Op i n d)
small_op mnemonic i n d = None

-- a load or store by two registers
abbrev pub index_op : Mnemonic → ℕ → ℕ → ℕ → Option Op
index_op Str m n t = Some (StrRegOp m n t)
index_op Strh m n t = Some (StrhRegOp m n t)
index_op Strb m n t = Some (StrbRegOp m n t)
index_op Ldrsb m n t = Some (LdrsbRegOp m n t)
index_op Ldr m n t = Some (LdrRegOp m n t)
index_op Ldrh m n t = Some (LdrhRegOp m n t)
index_op Ldrb m n t = Some (LdrbRegOp m n t)
index_op Ldrsh m n t = Some (LdrshRegOp m n t)
index_op mnemonic m n t = None

-- a load or store by a register and a number of units
abbrev pub offset_op : Mnemonic → ℕ → ℕ → ℕ → Option Op
offset_op Str i n t = Some (StrImmOp i n t)
offset_op Ldr i n t = Some (LdrImmOp i n t)
offset_op Strb i n t = Some (StrbImmOp i n t)
offset_op Ldrb i n t = Some (LdrbImmOp i n t)
offset_op Strh i n t = Some (StrhImmOp i n t)
offset_op Ldrh i n t = Some (LdrhImmOp i n t)
offset_op mnemonic i n t = None

-- a load or store by SP and a number of words
abbrev pub stack_op : Mnemonic → ℕ → ℕ → Option Op
stack_op Str t i = Some (StrSpOp t i)
stack_op Ldr t i = Some (LdrSpOp t i)
stack_op mnemonic t i = None

-- a shift to the right by a number
abbrev pub shift_op : Mnemonic → ℕ → ℕ → ℕ → Option Op
shift_op Lsrs i m d = Some (LsrImmOp i m d)
shift_op Asrs i m d = Some (AsrImmOp i m d)
shift_op mnemonic i m d = None

-- `add sp` or `sub sp` and a number of words
abbrev pub adjust_op : Mnemonic → ℕ → Option Op
adjust_op Add i = Some (AddSpImmOp i)
adjust_op Sub i = Some (SubSpImmOp i)
adjust_op mnemonic i = None
