-- No line has more bytes than its size.
use Rattle.std.proofs.Common.{◌≡◌, ◌≤◌, ℕ, ◌+◌, ◌-◌, ◌/◌, ◌%◌, nat_lt, if◌then◌else◌, Bool, true, false, List, [], ◌++◌, length, Some, None, arith, length-append, lit≤}
use Rattle.std.specs.Option.{option_map_or}
use Rattle.std.proofs.lemmas.List.{length-replicate}
use Rattle.rp_base.specs.declared.op.Op.TheVariants.{LdrLit, Adr, B, Bl, BCond}
use Rattle.thumb_words.specs.declared.halfwords.Code.{Code}
use Rattle.thumb_words.specs.Codes.{code_of, coded}
use Rattle.thumb_parse.specs.declared.item.Item.{Item}
use Rattle.thumb_parse.specs.declared.item.Item.TheVariants.{Empty, Instruction, OutOfRange, WrongRegister, Literal, Address, Branch, Call, BranchIf, Word, WordAt, Half}
use Rattle.thumb_asm.specs.Lines.{statement_at}
use Rattle.thumb_asm.specs.Placed.{bytes_at, call_by, code_bytes, half_bytes, op_bytes, size_at}
use Rattle.thumb_asm.specs.Source.{Names, address_after, line_bytes, target_of}

short : (fits : Bool) (first : ℕ) → length (option_map_or code_bytes (coded fits (record { first = first; second = None })) []) ≤ 2
short true first = lit≤ tt
short false first = lit≤ tt

any : (fits : Bool) (code : Code) → length (option_map_or code_bytes (coded fits code) []) ≤ 4
any true code = elim code.second as (λ second. length (half_bytes code.first ++ option_map_or half_bytes second []) ≤ 4) [
  | None ↦ lit≤ tt
  | Some second ↦ lit≤ tt
]
any false code = lit≤ tt

of_literal : (t i : ℕ) → length (op_bytes (LdrLit t i)) ≤ 2
unfolding op_bytes code_of
of_literal t i = short _ _

of_address : (d i : ℕ) → length (op_bytes (Adr d i)) ≤ 2
unfolding op_bytes code_of
of_address d i = short _ _

of_branch : (i : ℕ) → length (op_bytes (B i)) ≤ 2
unfolding op_bytes code_of
of_branch i = short _ _

of_condition : (c i : ℕ) → length (op_bytes (BCond c i)) ≤ 2
unfolding op_bytes code_of
of_condition c i = short _ _

of_call : (s : Bool) (i j : ℕ) → length (op_bytes (Bl s i j)) ≤ 4
unfolding op_bytes code_of
of_call s i j = any _ _

of_call_by : (distance : ℕ) → length (op_bytes (call_by distance)) ≤ 4
of_call_by distance = elim (nat_lt distance 0x80_0000) as (λ b. length (op_bytes (if b then Bl false (distance % 0x20_0000) (3 - distance / 0x20_0000 % 4) else Bl true (distance % 0x20_0000) (distance / 0x20_0000 % 4))) ≤ 4) [
  | true ↦ of_call _ _ _
  | false ↦ of_call _ _ _
]

item_fits : (address target : ℕ) (item : Item) → length (bytes_at address target item) ≤ size_at address item
item_fits address target Empty = lit≤ tt
item_fits address target (Instruction op) = omega arith
item_fits address target (OutOfRange size) = omega arith
item_fits address target (WrongRegister size) = omega arith
item_fits address target (Literal t name) = of_literal _ _
item_fits address target (Address d name) = of_address _ _
item_fits address target (Branch name) = of_branch _
item_fits address target (Call name) = of_call_by _
item_fits address target (BranchIf condition name) = of_condition _ _
item_fits address target (Word k) = lit≤ tt
item_fits address target (WordAt name k) = lit≤ tt
item_fits address target (Half k) = lit≤ tt
item_fits address target _ = rw length-replicate (omega arith)

pub line_fits : (names : Names) (address : ℕ) (code : List ℕ) → address + length (line_bytes names address code) ≤ address_after address code
unfolding line_bytes address_after
line_fits names address code =
    let fits = item_fits address (target_of names code (statement_at code).item) (statement_at code).item in
    omega (arith, fits)

-- so the bytes up to here and those of the line end no later than the line
pub bytes_fit : (names : Names) (address next : ℕ) (bytes bytes' code : List ℕ) → 0x2000_0000 + length bytes ≤ address →
    bytes' ≡ bytes ++ line_bytes names address code → next ≡ address_after address code → 0x2000_0000 + length bytes' ≤ next
bytes_fit names address next bytes bytes' code h i j =
    let fits = line_fits names address code in
    rw (i, j, length-append) (omega (arith, h, fits))
