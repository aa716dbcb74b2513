-- How the operands of an item are read, by their shape.
use Rattle.std.specs.Prelude.{ℕ, ◌+◌, true, ◌&&◌, nat_le, List, [], ◌∷◌, Option, None, Some, bit_or}
use Rattle.std.specs.Option.{option_map}
use Rattle.thumb_parse.specs.declared.token.Token.{Token}
use Rattle.thumb_parse.specs.declared.token.Token.TheVariants.{Name as NameToken, Register as RegisterToken, Number as NumberToken, Comma, Hash, OpenBracket, CloseBracket, OpenBrace, CloseBrace, Bang, Plus, Minus}
use Rattle.thumb_parse.specs.declared.operands.RegisterList.{RegisterList}
use Rattle.thumb_parse.specs.declared.operands.ListPart.{ListPart}
use Rattle.thumb_parse.specs.declared.operands.ListPart.TheVariants.{Open, One, To, Range, Closed, Misfit}
use Rattle.thumb_parse.specs.declared.operands.Operands.{Operands}
use Rattle.thumb_parse.specs.declared.operands.Operands.TheVariants.{Empty, Number, Name, NamePlus, Immediate, ImmediateRegister, Register, TwoRegisters, ThreeRegisters, RegisterImmediate, RegistersImmediate, RegisterName, IndexRegister, IndexImmediate, List as ListOperand, WriteBack, RegisterAndList}
use Rattle.thumb_parse.specs.Lists.{range_of, register_bit}

abbrev pub no_registers : RegisterList
no_registers = record { mask = 0; next = 0; ascends = true }

-- one more register: the list ascends where it is above those before it
abbrev pub with_register : RegisterList → ℕ → RegisterList
with_register list r = record { mask = bit_or list.mask (register_bit r); next = r + 1; ascends = list.ascends && nat_le list.next r }

-- these registers more, one after the other
unfoldable pub with_registers : RegisterList → List ℕ → RegisterList
with_registers list [] = list
with_registers list (r ∷ rs) = with_registers (with_register list r) rs

abbrev pub with_range : RegisterList → ℕ → ℕ → RegisterList
with_range list a b = with_registers list (range_of a b)

-- what stands in a list with one token more
unfoldable pub list_step : ListPart → Token → ListPart
list_step (Open list) (RegisterToken first) = One list first
list_step (One list first) Comma = Open (with_register list first)
list_step (One list first) CloseBrace = Closed (with_register list first)
list_step (One list first) Minus = To list first
list_step (To list first) (RegisterToken last) = Range (with_range list first last)
list_step (Range list) Comma = Open list
list_step (Range list) CloseBrace = Closed list
list_step part token = Misfit

abbrev pub list_whole : ListPart → Option RegisterList
list_whole (Closed list) = Some list
list_whole part = None

abbrev pub list_from : ListPart → List Token → Option RegisterList
list_from part [] = list_whole part
list_from part (token ∷ tokens) = list_from (list_step part token) tokens

-- the list of the tokens after `{`
abbrev pub list_of : List Token → Option RegisterList
list_of tokens = list_from (Open no_registers) tokens

-- ---- shapes

-- after `t, [n,`
abbrev pub index_of : ℕ → ℕ → List Token → Option Operands
index_of t n (RegisterToken m ∷ CloseBracket ∷ []) = Some (IndexRegister t n m)
index_of t n (Hash ∷ NumberToken k ∷ CloseBracket ∷ []) = Some (IndexImmediate t n k)
index_of t n tokens = None

-- after `d, m`
abbrev pub after_second : ℕ → ℕ → List Token → Option Operands
after_second d m [] = Some (TwoRegisters d m)
after_second d m (Comma ∷ RegisterToken last ∷ []) = Some (ThreeRegisters d m last)
after_second d m (Comma ∷ Hash ∷ NumberToken k ∷ []) = Some (RegistersImmediate d m k)
after_second d m tokens = None

-- after `d,`
abbrev pub after_comma : ℕ → List Token → Option Operands
after_comma d (RegisterToken m ∷ rest) = after_second d m rest
after_comma d (Hash ∷ NumberToken k ∷ []) = Some (RegisterImmediate d k)
after_comma d (NameToken name ∷ []) = Some (RegisterName d name)
after_comma d (OpenBracket ∷ RegisterToken n ∷ Comma ∷ rest) = index_of d n rest
after_comma d (OpenBrace ∷ rest) = option_map (RegisterAndList d) (list_of rest)
after_comma d tokens = None

-- after `d`
abbrev pub after_register : ℕ → List Token → Option Operands
after_register d [] = Some (Register d)
after_register d (Comma ∷ rest) = after_comma d rest
after_register d (Bang ∷ Comma ∷ OpenBrace ∷ rest) = option_map (WriteBack d) (list_of rest)
after_register d tokens = None

unfoldable pub operands_of : List Token → Option Operands
operands_of [] = Some Empty
operands_of (RegisterToken d ∷ rest) = after_register d rest
operands_of (NumberToken k ∷ []) = Some (Number k)
operands_of (NameToken name ∷ []) = Some (Name name)
operands_of (NameToken name ∷ Plus ∷ NumberToken k ∷ []) = Some (NamePlus name k)
operands_of (Hash ∷ NumberToken k ∷ []) = Some (Immediate k)
operands_of (Hash ∷ NumberToken k ∷ Comma ∷ RegisterToken m ∷ []) = Some (ImmediateRegister k m)
operands_of (OpenBrace ∷ rest) = option_map ListOperand (list_of rest)
operands_of tokens = None
