-- The table's rows, each for the first halfwords that begin as its pattern does.
use Rattle.std.proofs.Common.{◌+◌, ◌*◌, refl}
use Rattle.thumb_rows.specs.Rows.{field}
use Rattle.thumb_rows.proofs.Laws.{Begins, leading_law}
use Rattle.rp_base.specs.declared.op.Op.TheVariants.{LslImm, LsrImm, AsrImm, AddReg, SubReg, AddImm3, SubImm3, MovImm, CmpImm, AddImm8, SubImm8, And, Eor, LslReg, LsrReg, AsrReg, Adc, Sbc, Ror, Tst, Rsb, Cmp, Cmn, Orr, Mul, Bic, Mvn, AddHigh, CmpHigh, MovHigh, Bx, Blx, LdrLit, StrReg, StrhReg, StrbReg, LdrsbReg, LdrReg, LdrhReg, LdrbReg, LdrshReg, StrImm, LdrImm, StrbImm, LdrbImm, StrhImm, LdrhImm, StrSp, LdrSp, Adr, AddSp, AddSpImm, SubSpImm, Sxth, Sxtb, Uxth, Uxtb, Cpsie, Cpsid, Rev, Rev16, Revsh, Bkpt, Yield, Wfe, Wfi, Sev, Udf, Svc, B}

pub row_LslImm : Begins 11 0 (λ w. LslImm (field w 10 6) (field w 5 3) (field w 2 0))
row_LslImm = leading_law 11 0 _ refl refl

pub row_LsrImm : Begins 11 1 (λ w. LsrImm (field w 10 6) (field w 5 3) (field w 2 0))
row_LsrImm = leading_law 11 1 _ refl refl

pub row_AsrImm : Begins 11 2 (λ w. AsrImm (field w 10 6) (field w 5 3) (field w 2 0))
row_AsrImm = leading_law 11 2 _ refl refl

pub row_AddReg : Begins 9 12 (λ w. AddReg (field w 8 6) (field w 5 3) (field w 2 0))
row_AddReg = leading_law 9 12 _ refl refl

pub row_SubReg : Begins 9 13 (λ w. SubReg (field w 8 6) (field w 5 3) (field w 2 0))
row_SubReg = leading_law 9 13 _ refl refl

pub row_AddImm3 : Begins 9 14 (λ w. AddImm3 (field w 8 6) (field w 5 3) (field w 2 0))
row_AddImm3 = leading_law 9 14 _ refl refl

pub row_SubImm3 : Begins 9 15 (λ w. SubImm3 (field w 8 6) (field w 5 3) (field w 2 0))
row_SubImm3 = leading_law 9 15 _ refl refl

pub row_MovImm : Begins 11 4 (λ w. MovImm (field w 10 8) (field w 7 0))
row_MovImm = leading_law 11 4 _ refl refl

pub row_CmpImm : Begins 11 5 (λ w. CmpImm (field w 10 8) (field w 7 0))
row_CmpImm = leading_law 11 5 _ refl refl

pub row_AddImm8 : Begins 11 6 (λ w. AddImm8 (field w 10 8) (field w 7 0))
row_AddImm8 = leading_law 11 6 _ refl refl

pub row_SubImm8 : Begins 11 7 (λ w. SubImm8 (field w 10 8) (field w 7 0))
row_SubImm8 = leading_law 11 7 _ refl refl

pub row_And : Begins 6 256 (λ w. And (field w 5 3) (field w 2 0))
row_And = leading_law 6 256 _ refl refl

pub row_Eor : Begins 6 257 (λ w. Eor (field w 5 3) (field w 2 0))
row_Eor = leading_law 6 257 _ refl refl

pub row_LslReg : Begins 6 258 (λ w. LslReg (field w 5 3) (field w 2 0))
row_LslReg = leading_law 6 258 _ refl refl

pub row_LsrReg : Begins 6 259 (λ w. LsrReg (field w 5 3) (field w 2 0))
row_LsrReg = leading_law 6 259 _ refl refl

pub row_AsrReg : Begins 6 260 (λ w. AsrReg (field w 5 3) (field w 2 0))
row_AsrReg = leading_law 6 260 _ refl refl

pub row_Adc : Begins 6 261 (λ w. Adc (field w 5 3) (field w 2 0))
row_Adc = leading_law 6 261 _ refl refl

pub row_Sbc : Begins 6 262 (λ w. Sbc (field w 5 3) (field w 2 0))
row_Sbc = leading_law 6 262 _ refl refl

pub row_Ror : Begins 6 263 (λ w. Ror (field w 5 3) (field w 2 0))
row_Ror = leading_law 6 263 _ refl refl

pub row_Tst : Begins 6 264 (λ w. Tst (field w 5 3) (field w 2 0))
row_Tst = leading_law 6 264 _ refl refl

pub row_Rsb : Begins 6 265 (λ w. Rsb (field w 5 3) (field w 2 0))
row_Rsb = leading_law 6 265 _ refl refl

pub row_Cmp : Begins 6 266 (λ w. Cmp (field w 5 3) (field w 2 0))
row_Cmp = leading_law 6 266 _ refl refl

pub row_Cmn : Begins 6 267 (λ w. Cmn (field w 5 3) (field w 2 0))
row_Cmn = leading_law 6 267 _ refl refl

pub row_Orr : Begins 6 268 (λ w. Orr (field w 5 3) (field w 2 0))
row_Orr = leading_law 6 268 _ refl refl

pub row_Mul : Begins 6 269 (λ w. Mul (field w 5 3) (field w 2 0))
row_Mul = leading_law 6 269 _ refl refl

pub row_Bic : Begins 6 270 (λ w. Bic (field w 5 3) (field w 2 0))
row_Bic = leading_law 6 270 _ refl refl

pub row_Mvn : Begins 6 271 (λ w. Mvn (field w 5 3) (field w 2 0))
row_Mvn = leading_law 6 271 _ refl refl

pub row_AddHigh : Begins 8 68 (λ w. AddHigh (8 * field w 7 7 + field w 2 0) (field w 6 3))
row_AddHigh = leading_law 8 68 _ refl refl

pub row_CmpHigh : Begins 8 69 (λ w. CmpHigh (8 * field w 7 7 + field w 2 0) (field w 6 3))
row_CmpHigh = leading_law 8 69 _ refl refl

pub row_MovHigh : Begins 8 70 (λ w. MovHigh (8 * field w 7 7 + field w 2 0) (field w 6 3))
row_MovHigh = leading_law 8 70 _ refl refl

pub row_Bx : Begins 7 142 (λ w. Bx (field w 6 3))
row_Bx = leading_law 7 142 _ refl refl

pub row_Blx : Begins 7 143 (λ w. Blx (field w 6 3))
row_Blx = leading_law 7 143 _ refl refl

pub row_LdrLit : Begins 11 9 (λ w. LdrLit (field w 10 8) (field w 7 0))
row_LdrLit = leading_law 11 9 _ refl refl

pub row_StrReg : Begins 9 40 (λ w. StrReg (field w 8 6) (field w 5 3) (field w 2 0))
row_StrReg = leading_law 9 40 _ refl refl

pub row_StrhReg : Begins 9 41 (λ w. StrhReg (field w 8 6) (field w 5 3) (field w 2 0))
row_StrhReg = leading_law 9 41 _ refl refl

pub row_StrbReg : Begins 9 42 (λ w. StrbReg (field w 8 6) (field w 5 3) (field w 2 0))
row_StrbReg = leading_law 9 42 _ refl refl

pub row_LdrsbReg : Begins 9 43 (λ w. LdrsbReg (field w 8 6) (field w 5 3) (field w 2 0))
row_LdrsbReg = leading_law 9 43 _ refl refl

pub row_LdrReg : Begins 9 44 (λ w. LdrReg (field w 8 6) (field w 5 3) (field w 2 0))
row_LdrReg = leading_law 9 44 _ refl refl

pub row_LdrhReg : Begins 9 45 (λ w. LdrhReg (field w 8 6) (field w 5 3) (field w 2 0))
row_LdrhReg = leading_law 9 45 _ refl refl

pub row_LdrbReg : Begins 9 46 (λ w. LdrbReg (field w 8 6) (field w 5 3) (field w 2 0))
row_LdrbReg = leading_law 9 46 _ refl refl

pub row_LdrshReg : Begins 9 47 (λ w. LdrshReg (field w 8 6) (field w 5 3) (field w 2 0))
row_LdrshReg = leading_law 9 47 _ refl refl

pub row_StrImm : Begins 11 12 (λ w. StrImm (field w 10 6) (field w 5 3) (field w 2 0))
row_StrImm = leading_law 11 12 _ refl refl

pub row_LdrImm : Begins 11 13 (λ w. LdrImm (field w 10 6) (field w 5 3) (field w 2 0))
row_LdrImm = leading_law 11 13 _ refl refl

pub row_StrbImm : Begins 11 14 (λ w. StrbImm (field w 10 6) (field w 5 3) (field w 2 0))
row_StrbImm = leading_law 11 14 _ refl refl

pub row_LdrbImm : Begins 11 15 (λ w. LdrbImm (field w 10 6) (field w 5 3) (field w 2 0))
row_LdrbImm = leading_law 11 15 _ refl refl

pub row_StrhImm : Begins 11 16 (λ w. StrhImm (field w 10 6) (field w 5 3) (field w 2 0))
row_StrhImm = leading_law 11 16 _ refl refl

pub row_LdrhImm : Begins 11 17 (λ w. LdrhImm (field w 10 6) (field w 5 3) (field w 2 0))
row_LdrhImm = leading_law 11 17 _ refl refl

pub row_StrSp : Begins 11 18 (λ w. StrSp (field w 10 8) (field w 7 0))
row_StrSp = leading_law 11 18 _ refl refl

pub row_LdrSp : Begins 11 19 (λ w. LdrSp (field w 10 8) (field w 7 0))
row_LdrSp = leading_law 11 19 _ refl refl

pub row_Adr : Begins 11 20 (λ w. Adr (field w 10 8) (field w 7 0))
row_Adr = leading_law 11 20 _ refl refl

pub row_AddSp : Begins 11 21 (λ w. AddSp (field w 10 8) (field w 7 0))
row_AddSp = leading_law 11 21 _ refl refl

pub row_AddSpImm : Begins 7 352 (λ w. AddSpImm (field w 6 0))
row_AddSpImm = leading_law 7 352 _ refl refl

pub row_SubSpImm : Begins 7 353 (λ w. SubSpImm (field w 6 0))
row_SubSpImm = leading_law 7 353 _ refl refl

pub row_Sxth : Begins 6 712 (λ w. Sxth (field w 5 3) (field w 2 0))
row_Sxth = leading_law 6 712 _ refl refl

pub row_Sxtb : Begins 6 713 (λ w. Sxtb (field w 5 3) (field w 2 0))
row_Sxtb = leading_law 6 713 _ refl refl

pub row_Uxth : Begins 6 714 (λ w. Uxth (field w 5 3) (field w 2 0))
row_Uxth = leading_law 6 714 _ refl refl

pub row_Uxtb : Begins 6 715 (λ w. Uxtb (field w 5 3) (field w 2 0))
row_Uxtb = leading_law 6 715 _ refl refl

pub row_Cpsie : Begins 0 0xB662 (λ w. Cpsie)
row_Cpsie = leading_law 0 0xB662 _ refl refl

pub row_Cpsid : Begins 0 0xB672 (λ w. Cpsid)
row_Cpsid = leading_law 0 0xB672 _ refl refl

pub row_Rev : Begins 6 744 (λ w. Rev (field w 5 3) (field w 2 0))
row_Rev = leading_law 6 744 _ refl refl

pub row_Rev16 : Begins 6 745 (λ w. Rev16 (field w 5 3) (field w 2 0))
row_Rev16 = leading_law 6 745 _ refl refl

pub row_Revsh : Begins 6 747 (λ w. Revsh (field w 5 3) (field w 2 0))
row_Revsh = leading_law 6 747 _ refl refl

pub row_Bkpt : Begins 8 190 (λ w. Bkpt (field w 7 0))
row_Bkpt = leading_law 8 190 _ refl refl

pub row_Yield : Begins 0 0xBF10 (λ w. Yield)
row_Yield = leading_law 0 0xBF10 _ refl refl

pub row_Wfe : Begins 0 0xBF20 (λ w. Wfe)
row_Wfe = leading_law 0 0xBF20 _ refl refl

pub row_Wfi : Begins 0 0xBF30 (λ w. Wfi)
row_Wfi = leading_law 0 0xBF30 _ refl refl

pub row_Sev : Begins 0 0xBF40 (λ w. Sev)
row_Sev = leading_law 0 0xBF40 _ refl refl

pub row_Udf : Begins 8 222 (λ w. Udf (field w 7 0))
row_Udf = leading_law 8 222 _ refl refl

pub row_Svc : Begins 8 223 (λ w. Svc (field w 7 0))
row_Svc = leading_law 8 223 _ refl refl

pub row_B : Begins 11 28 (λ w. B (field w 10 0))
row_B = leading_law 11 28 _ refl refl

pub ruleset move_or_add_rows = (row_LslImm, row_LsrImm, row_AsrImm, row_AddReg, row_SubReg, row_AddImm3, row_SubImm3, row_MovImm, row_CmpImm, row_AddImm8, row_SubImm8)

pub ruleset data_processing_rows = (row_And, row_Eor, row_LslReg, row_LsrReg, row_AsrReg, row_Adc, row_Sbc, row_Ror, row_Tst, row_Rsb, row_Cmp, row_Cmn, row_Orr, row_Mul, row_Bic, row_Mvn)

pub ruleset special_rows = (row_AddHigh, row_CmpHigh, row_MovHigh, row_Bx, row_Blx)

pub ruleset transfer_by_register_rows = (row_StrReg, row_StrhReg, row_StrbReg, row_LdrsbReg, row_LdrReg, row_LdrhReg, row_LdrbReg, row_LdrshReg)

pub ruleset transfer_by_number_rows = (row_StrImm, row_LdrImm, row_StrbImm, row_LdrbImm, row_StrhImm, row_LdrhImm, row_StrSp, row_LdrSp)

pub ruleset address_rows = (row_Adr, row_AddSp)

pub ruleset move_stack_rows = (row_AddSpImm, row_SubSpImm)

pub ruleset extend_rows = (row_Sxth, row_Sxtb, row_Uxth, row_Uxtb)

pub ruleset decode_short_rows = (row_LdrLit, row_B)
