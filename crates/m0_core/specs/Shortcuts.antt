-- The instructions for which the body has a shorter way. No other definition stands on these.
use Rattle.std.specs.Prelude.{Bool, true, false, not, ◌&&◌, nat_lt}
use Rattle.rp_base.specs.declared.op.Op.{Op}
use Rattle.rp_base.specs.declared.op.Op.TheVariants.{LslImm, LsrImm, AsrImm, AddReg, SubReg, AddImm3, SubImm3, MovImm, CmpImm, AddImm8, SubImm8, And, Eor, LslReg, LsrReg, AsrReg, Adc, Sbc, Ror, Tst, Rsb, Cmp, Cmn, Orr, Mul, Bic, Mvn, CmpHigh, SubSpImm, Sxth, Sxtb, Uxth, Uxtb, Rev, Rev16, Revsh, MovHigh, BCond, B, Bl}

-- an instruction with inner beats alone, which does not fault in Thumb state
abbrev pub is_plain : Op → Bool
is_plain (LslImm i m d) = true
is_plain (LsrImm i m d) = true
is_plain (AsrImm i m d) = true
is_plain (AddReg m n d) = true
is_plain (SubReg m n d) = true
is_plain (AddImm3 i n d) = true
is_plain (SubImm3 i n d) = true
is_plain (MovImm d i) = true
is_plain (CmpImm d i) = true
is_plain (AddImm8 d i) = true
is_plain (SubImm8 d i) = true
is_plain (And m d) = true
is_plain (Eor m d) = true
is_plain (LslReg m d) = true
is_plain (LsrReg m d) = true
is_plain (AsrReg m d) = true
is_plain (Adc m d) = true
is_plain (Sbc m d) = true
is_plain (Ror m d) = true
is_plain (Tst m d) = true
is_plain (Rsb m d) = true
is_plain (Cmp m d) = true
is_plain (Cmn m d) = true
is_plain (Orr m d) = true
is_plain (Mul m d) = true
is_plain (Bic m d) = true
is_plain (Mvn m d) = true
is_plain (CmpHigh d m) = true
is_plain (SubSpImm i) = true
is_plain (Sxth m d) = true
is_plain (Sxtb m d) = true
is_plain (Uxth m d) = true
is_plain (Uxtb m d) = true
is_plain (Rev m d) = true
is_plain (Rev16 m d) = true
is_plain (Revsh m d) = true
is_plain (MovHigh d m) = nat_lt d 15
is_plain (BCond c i) = true
is_plain (B i) = true
is_plain (Bl s i j) = true
is_plain _ = false

-- branches by an offset; the other plain instructions have one beat
abbrev pub is_branch : Op → Bool
is_branch (BCond c i) = true
is_branch (B i) = true
is_branch (Bl s i j) = true
is_branch _ = false

abbrev pub is_single : Op → Bool
is_single o = is_plain o && not (is_branch o)
