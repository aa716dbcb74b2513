-- The grammar of a line of a source, which knows nothing of how a program reads it (the forms of ARMv6-M Architecture Reference Manual,
-- A6.7, Assembler syntax; which of them there are, the directives and labels are the project's own).
--
--   line  ::= [name `:`] [item]
--   item  ::= `.word` number | `.word` name | `.word` name `+` number | `.half` number | `.space` number | `.align`
--           | mnemonic operands                                   in the forms below
--   list  ::= `{` part {`,` part} `}`
--   part  ::= register | register `-` register
--
-- In the forms d, n, m and t are registers and #k is a number. A line of a form whose number is out of the form's range, or which has a
-- register that the form cannot hold, is a line of the grammar with an item that says so: `judged` has the size of the form's
-- instruction, whether the number is in range, whether the registers can be held, and the operation.
use Rattle.std.specs.Prelude.{◌≡◌, ℕ, ◌%◌, true, false, ◌==◌, ◌&&◌, List, [], ◌∷◌, ◌++◌, None, Some, is_some, codes}
use Rattle.rp_base.specs.declared.op.Op.{Op}
use Rattle.rp_base.specs.declared.op.Op.TheVariants.{LslImm, Cmp as CmpLow, CmpHigh, AddHigh, MovHigh, AddSp, Cpsie as CpsieOp, Cpsid as CpsidOp, Msr as MsrOp, Mrs as MrsOp}
use Rattle.thumb_parse.specs.declared.mnemonic.Mnemonic.{Mnemonic}
use Rattle.thumb_parse.specs.declared.mnemonic.Mnemonic.TheVariants.{Cmp, Lsls, Add, Mov, Ldr, Adr, Push, Pop, Stm, Ldm, Cpsie, Cpsid, B, Bl, Msr, Mrs, Word as WordDirective, Half as HalfDirective, Space as SpaceDirective, Align as AlignDirective}
use Rattle.thumb_parse.specs.declared.token.Span.{Span}
use Rattle.thumb_parse.specs.declared.token.Number.{Number}
use Rattle.thumb_parse.specs.declared.token.Token.{Token}
use Rattle.thumb_parse.specs.declared.token.Token.TheVariants.{Name, Register, Mnemonic as Word', Number as Number', Comma, Colon, Hash, OpenBracket, CloseBracket, OpenBrace, CloseBrace, Bang, Plus, Minus}
use Rattle.thumb_parse.specs.declared.item.Item.{Item}
use Rattle.thumb_parse.specs.declared.item.Item.TheVariants.{Empty, Instruction, Literal, Address, Branch, Call, BranchIf, WordAt, Align}
use Rattle.thumb_parse.specs.declared.statement.Statement.{Statement}
use Rattle.thumb_parse.specs.Lexical.{AreTokens}
use Rattle.thumb_parse.specs.Lists.{ascend_from, bits_with, range_of}
use Rattle.thumb_parse.specs.Forms.{condition_of, field, half, is_low, is_special_register, judged, ldm_item, ldm_listed_item, name_text, pop_item, push_item, space, stm_item, unit_of, units, word}
use Rattle.thumb_parse.specs.FormOps.{alone_op, number_op, branch_op, low_op, three_op, byte_op, small_op, index_op, offset_op, stack_op, adjust_op, shift_op}

-- ---- lists of registers

-- the tokens after `{` list these registers
pub data IsList : List Token → List ℕ → Type 0 where
  last : {r : ℕ} → IsList (Register r ∷ CloseBrace ∷ []) (r ∷ [])
  last_range : {a b : ℕ} → IsList (Register a ∷ Minus ∷ Register b ∷ CloseBrace ∷ []) (range_of a b)
  more : {r : ℕ} {rest : List Token} {rs : List ℕ} → IsList rest rs → IsList (Register r ∷ Comma ∷ rest) (r ∷ rs)
  more_range : {a b : ℕ} {rest : List Token} {rs : List ℕ} → IsList rest rs → IsList (Register a ∷ Minus ∷ Register b ∷ Comma ∷ rest) (range_of a b ++ rs)

-- ---- items, a constructor for each form

pub data IsItem (code : List ℕ) : List Token → Item → Type 0 where
  nothing : IsItem code [] Empty
  -- `.word k`, `.word name`, `.word name+k`, `.half k`, `.space k`, `.align`
  word_number : {k : Number} → IsItem code (Word' WordDirective ∷ Number' k ∷ []) (word k)
  word_name : {name : Span} → IsItem code (Word' WordDirective ∷ Name name ∷ []) (WordAt name (record { up = 0; down = 0 }))
  word_sum : {name : Span} {k : Number} → IsItem code (Word' WordDirective ∷ Name name ∷ Plus ∷ Number' k ∷ []) (WordAt name k)
  half_number : {k : Number} → IsItem code (Word' HalfDirective ∷ Number' k ∷ []) (half k)
  space_number : {k : Number} → IsItem code (Word' SpaceDirective ∷ Number' k ∷ []) (space k)
  align_alone : IsItem code (Word' AlignDirective ∷ []) Align
  -- `nop yield wfe wfi sev dsb dmb isb`
  no_operand : {m : Mnemonic} {op : Op} → alone_op m ≡ Some op → IsItem code (Word' m ∷ []) (Instruction op)
  -- `cpsie i`, `cpsid i`
  cpsie_i : {name : Span} → name_text code name ≡ codes "i" → IsItem code (Word' Cpsie ∷ Name name ∷ []) (Instruction CpsieOp)
  cpsid_i : {name : Span} → name_text code name ≡ codes "i" → IsItem code (Word' Cpsid ∷ Name name ∷ []) (Instruction CpsidOp)
  -- `b name`, `bl name`, `beq name` and the other conditions
  b_name : {name : Span} → IsItem code (Word' B ∷ Name name ∷ []) (Branch name)
  bl_name : {name : Span} → IsItem code (Word' Bl ∷ Name name ∷ []) (Call name)
  b_if_name : {m : Mnemonic} {condition : ℕ} {name : Span}
      → condition_of m ≡ Some condition → IsItem code (Word' m ∷ Name name ∷ []) (BranchIf condition name)
  -- `ldr t, name`, `adr d, name`
  ldr_name : {t : ℕ} {name : Span} → IsItem code (Word' Ldr ∷ Register t ∷ Comma ∷ Name name ∷ []) (Literal t name)
  adr_name : {d : ℕ} {name : Span} → IsItem code (Word' Adr ∷ Register d ∷ Comma ∷ Name name ∷ []) (Address d name)
  -- `bkpt udf svc` and #k from 0 to 255
  number : {m : Mnemonic} {op : Op} {k : Number} → number_op m (field (units 1 0 255 k)) ≡ Some op
      → IsItem code (Word' m ∷ Hash ∷ Number' k ∷ []) (judged 2 (is_some (units 1 0 255 k)) true op)
  -- `msr #k, m`, `mrs d, #k` with k from 0 to 255
  msr_number : {k : Number} {m : ℕ}
      → IsItem code (Word' Msr ∷ Hash ∷ Number' k ∷ Comma ∷ Register m ∷ []) (judged 4 (is_some (units 1 0 255 k)) (is_special_register m) (MsrOp m (field (units 1 0 255 k))))
  mrs_number : {d : ℕ} {k : Number}
      → IsItem code (Word' Mrs ∷ Register d ∷ Comma ∷ Hash ∷ Number' k ∷ []) (judged 4 (is_some (units 1 0 255 k)) (is_special_register d) (MrsOp d (field (units 1 0 255 k))))
  -- `bx m`, `blx m`
  register : {w : Mnemonic} {op : Op} {m : ℕ} → branch_op w m ≡ Some op → IsItem code (Word' w ∷ Register m ∷ []) (Instruction op)
  -- `ands eors lsls lsrs asrs adcs sbcs rors tst rsbs cmn orrs muls bics mvns sxth sxtb uxth uxtb rev rev16 revsh` and d, m
  low_pair : {w : Mnemonic} {op : Op} {d m : ℕ} → low_op w m d ≡ Some op
      → IsItem code (Word' w ∷ Register d ∷ Comma ∷ Register m ∷ []) (judged 2 true (is_low d && is_low m) op)
  -- `cmp d, m` of two low registers, and of any others
  cmp_low : {d m : ℕ} → (is_low d && is_low m) ≡ true → IsItem code (Word' Cmp ∷ Register d ∷ Comma ∷ Register m ∷ []) (Instruction (CmpLow m d))
  cmp_high : {d m : ℕ} → (is_low d && is_low m) ≡ false → IsItem code (Word' Cmp ∷ Register d ∷ Comma ∷ Register m ∷ []) (Instruction (CmpHigh d m))
  -- `add d, m` and `mov d, m` of any registers
  add_pair : {d m : ℕ} → IsItem code (Word' Add ∷ Register d ∷ Comma ∷ Register m ∷ []) (Instruction (AddHigh d m))
  mov_pair : {d m : ℕ} → IsItem code (Word' Mov ∷ Register d ∷ Comma ∷ Register m ∷ []) (Instruction (MovHigh d m))
  -- `adds subs` and d, n, m
  three : {w : Mnemonic} {op : Op} {d n m : ℕ} → three_op w m n d ≡ Some op
      → IsItem code (Word' w ∷ Register d ∷ Comma ∷ Register n ∷ Comma ∷ Register m ∷ []) (judged 2 true (is_low d && is_low n && is_low m) op)
  -- `movs cmp adds subs` and d, #k from 0 to 255
  byte : {w : Mnemonic} {op : Op} {d : ℕ} {k : Number} → byte_op w d (field (units 1 0 255 k)) ≡ Some op
      → IsItem code (Word' w ∷ Register d ∷ Comma ∷ Hash ∷ Number' k ∷ []) (judged 2 (is_some (units 1 0 255 k)) (is_low d) op)
  -- `add sp, #k`, `sub sp, #k` with 0 to 127 words
  adjust : {w : Mnemonic} {op : Op} {k : Number} → adjust_op w (field (units 4 0 127 k)) ≡ Some op
      → IsItem code (Word' w ∷ Register 13 ∷ Comma ∷ Hash ∷ Number' k ∷ []) (judged 2 (is_some (units 4 0 127 k)) true op)
  -- `adds subs` and d, n, #k from 0 to 7
  small : {w : Mnemonic} {op : Op} {d n : ℕ} {k : Number} → small_op w (field (units 1 0 7 k)) n d ≡ Some op
      → IsItem code (Word' w ∷ Register d ∷ Comma ∷ Register n ∷ Comma ∷ Hash ∷ Number' k ∷ []) (judged 2 (is_some (units 1 0 7 k)) (is_low d && is_low n) op)
  -- `lsls d, m, #k` with 0 to 31
  shift_left : {d m : ℕ} {k : Number}
      → IsItem code (Word' Lsls ∷ Register d ∷ Comma ∷ Register m ∷ Comma ∷ Hash ∷ Number' k ∷ [])
      (judged 2 (is_some (units 1 0 31 k)) (is_low d && is_low m) (LslImm (field (units 1 0 31 k)) m d))
  -- `lsrs asrs` and d, m, #k from 1 to 32, where the encoding has 0 for 32
  shift_right : {w : Mnemonic} {op : Op} {d m : ℕ} {k : Number} → shift_op w (field (units 1 1 32 k) % 32) m d ≡ Some op
      → IsItem code (Word' w ∷ Register d ∷ Comma ∷ Register m ∷ Comma ∷ Hash ∷ Number' k ∷ []) (judged 2 (is_some (units 1 1 32 k)) (is_low d && is_low m) op)
  -- `add d, sp, #k` with 0 to 255 words
  add_stack : {d : ℕ} {k : Number}
      → IsItem code (Word' Add ∷ Register d ∷ Comma ∷ Register 13 ∷ Comma ∷ Hash ∷ Number' k ∷ [])
      (judged 2 (is_some (units 4 0 255 k)) (is_low d) (AddSp d (field (units 4 0 255 k))))
  -- `str strh strb ldrsb ldr ldrh ldrb ldrsh` and t, [n, m]
  indexed : {w : Mnemonic} {op : Op} {t n m : ℕ} → index_op w m n t ≡ Some op
      → IsItem code (Word' w ∷ Register t ∷ Comma ∷ OpenBracket ∷ Register n ∷ Comma ∷ Register m ∷ CloseBracket ∷ [])
      (judged 2 true (is_low t && is_low n && is_low m) op)
  -- `str ldr` and t, [sp, #k] with 0 to 255 words
  stack : {w : Mnemonic} {op : Op} {t : ℕ} {k : Number} → stack_op w t (field (units 4 0 255 k)) ≡ Some op
      → IsItem code (Word' w ∷ Register t ∷ Comma ∷ OpenBracket ∷ Register 13 ∷ Comma ∷ Hash ∷ Number' k ∷ CloseBracket ∷ [])
      (judged 2 (is_some (units 4 0 255 k)) (is_low t) op)
  -- `str ldr strb ldrb strh ldrh` and t, [n, #k] with 0 to 31 units of the size, where they are not those
  offset : {w : Mnemonic} {op : Op} {t n : ℕ} {k : Number}
      → (n == 13 && unit_of w == 4) ≡ false → offset_op w (field (units (unit_of w) 0 31 k)) n t ≡ Some op
      → IsItem code (Word' w ∷ Register t ∷ Comma ∷ OpenBracket ∷ Register n ∷ Comma ∷ Hash ∷ Number' k ∷ CloseBracket ∷ [])
      (judged 2 (is_some (units (unit_of w) 0 31 k)) (is_low t && is_low n) op)
  -- `push {list}`, `pop {list}`, `stm n!, {list}`, `ldm n!, {list}`, `ldm n, {list}`
  push_list : {tokens : List Token} {rs : List ℕ} → IsList tokens rs
      → IsItem code (Word' Push ∷ OpenBrace ∷ tokens) (push_item (ascend_from 0 rs) (bits_with 0 rs))
  pop_list : {tokens : List Token} {rs : List ℕ} → IsList tokens rs
      → IsItem code (Word' Pop ∷ OpenBrace ∷ tokens) (pop_item (ascend_from 0 rs) (bits_with 0 rs))
  stm_back : {n : ℕ} {tokens : List Token} {rs : List ℕ} → IsList tokens rs
      → IsItem code (Word' Stm ∷ Register n ∷ Bang ∷ Comma ∷ OpenBrace ∷ tokens) (stm_item n (ascend_from 0 rs) (bits_with 0 rs))
  ldm_back : {n : ℕ} {tokens : List Token} {rs : List ℕ} → IsList tokens rs
      → IsItem code (Word' Ldm ∷ Register n ∷ Bang ∷ Comma ∷ OpenBrace ∷ tokens) (ldm_item n (ascend_from 0 rs) (bits_with 0 rs))
  ldm_listed : {n : ℕ} {tokens : List Token} {rs : List ℕ} → IsList tokens rs
      → IsItem code (Word' Ldm ∷ Register n ∷ Comma ∷ OpenBrace ∷ tokens) (ldm_listed_item n (ascend_from 0 rs) (bits_with 0 rs))

-- ---- lines

-- `IsLine code tokens statement`: the tokens of a line without its comment are a line of the grammar that says this
pub data IsLine (code : List ℕ) : List Token → Statement → Type 0 where
  labelled : {name : Span} {tokens : List Token} {item : Item}
      → IsItem code tokens item → IsLine code (Name name ∷ Colon ∷ tokens) (record { label = Some name; item = item })
  plain : {tokens : List Token} {item : Item} → IsItem code tokens item → IsLine code tokens (record { label = None; item = item })

-- the characters of a line without its comment say this
abbrev pub Says : List ℕ → Statement → Type 0
Says code statement = (tokens : List Token) × AreTokens 0 code tokens × IsLine code tokens statement
