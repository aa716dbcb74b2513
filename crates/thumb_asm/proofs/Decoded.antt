-- Each instruction of a source stands at its address, and the file of its image holds that image.
use Rattle.std.proofs.Common.{◌≡◌, ◌≤◌, ◌<◌, ℕ, ◌+◌, ◌-◌, ◌*◌, ◌/◌, ◌%◌, ◌==◌, Bool, true, false, cond, nat_lt, List, [], ◌∷◌, ◌++◌, length, get_or, Option, Some, None, Result, Ok, Err, refl, sym, ap, subst, ◌∙◌, arith, length-append, append_assoc, append-nil}
use Rattle.std.specs.Prelude.{is_none}
use Rattle.std.proofs.lemmas.Bool.Decides.{nat_tests}
use Rattle.std.specs.Option.{option_map_or}
use Rattle.std.specs.Str.Lines.{lines}
use Rattle.std.proofs.lemmas.List.{get_or-append-add, length-replicate}
use Rattle.std.proofs.Math.Seq.{get_or-append_seam}
use Rattle.rp_base.specs.declared.op.Op.{Op}
use Rattle.rp_base.specs.declared.op.Op.TheVariants.{LdrLit, Adr, B, Bl, BCond}
use Rattle.thumb_rows.specs.Rows.{operation_of}
use Rattle.uf2_image.specs.declared.parts.Image.{Image}
use Rattle.uf2_image.specs.Writing.{IsWritable}
use Rattle.uf2_image.proofs.Written.{what_is_written_is_read}
use Rattle.thumb_asm.proofs.Parts.{writable}
use Rattle.thumb_words.specs.declared.halfwords.Code.{Code}
use Rattle.thumb_words.specs.Codes.{DecodesTo, code_of, coded}
use Rattle.thumb_words.proofs.Decode.{codes_decode}
use Rattle.thumb_asm.specs.declared.fault.ThumbFault.{ThumbFault}
use Rattle.thumb_asm.specs.declared.fault.ThumbFault.TheVariants.{Unknown, Twice, Range, Register, Align as AlignFault, TooLong}
use Rattle.thumb_parse.specs.declared.item.Item.{Item}
use Rattle.thumb_parse.specs.declared.item.Item.TheVariants.{Empty, Instruction, OutOfRange, WrongRegister, Literal, Address, Branch, Call, BranchIf, Word, WordAt, Half}
use Rattle.thumb_parse.specs.declared.statement.Statement.{Statement}
use Rattle.thumb_asm.specs.Laws.{AreDecoded, InstructionsAreDecoded, IsDecoded, WhatIsAssembledIsReadBack, half_at}
use Rattle.thumb_asm.specs.Lines.{statement_at}
use Rattle.thumb_asm.specs.Placed.{bytes_at, code_bytes, half_bytes, is_misaligned, is_out_of_range, is_wrong_register, name_of, op_at, op_bytes, size_at}
use Rattle.thumb_asm.specs.Source.{Names, address_after, bytes_from, bytes_of, fault_at, image_of_bytes, image_of_source, image_with, is_twice, is_unknown, line_bytes, names_of, or_fault, target_of, unless_misfit, unless_other_char}
use Rattle.thumb_parse.specs.Tokens.{code_part}

-- ---- the bytes of an operation

some_code : (o : Option Code) → is_none o ≡ false → (code : Code) × (o ≡ Some code)
some_code (Some code) h = (code, refl)
some_code None h = absurd cc

short : (fits : Bool) (first : ℕ) → is_none (coded fits (record { first = first; second = None })) ≡ false →
    length (option_map_or code_bytes (coded fits (record { first = first; second = None })) []) ≡ 2
short true first h = refl
short false first h = absurd cc

long : (fits : Bool) (first second : ℕ) → is_none (coded fits (record { first = first; second = Some second })) ≡ false →
    length (option_map_or code_bytes (coded fits (record { first = first; second = Some second })) []) ≡ 4
long true first second h = refl
long false first second h = absurd cc

of_literal : (t i : ℕ) → is_none (code_of (LdrLit t i)) ≡ false → length (op_bytes (LdrLit t i)) ≡ 2
unfolding op_bytes code_of
of_literal t i h = short _ _ h

of_address : (d i : ℕ) → is_none (code_of (Adr d i)) ≡ false → length (op_bytes (Adr d i)) ≡ 2
unfolding op_bytes code_of
of_address d i h = short _ _ h

of_branch : (i : ℕ) → is_none (code_of (B i)) ≡ false → length (op_bytes (B i)) ≡ 2
unfolding op_bytes code_of
of_branch i h = short _ _ h

of_condition : (c i : ℕ) → is_none (code_of (BCond c i)) ≡ false → length (op_bytes (BCond c i)) ≡ 2
unfolding op_bytes code_of
of_condition c i h = short _ _ h

of_call : (s : Bool) (i j : ℕ) → is_none (code_of (Bl s i j)) ≡ false → length (op_bytes (Bl s i j)) ≡ 4
unfolding op_bytes code_of
of_call s i j h = long _ _ _ h

of_either : (b : Bool) (i j k : ℕ) → is_none (code_of (cond b (Bl false i j) (Bl true i k))) ≡ false → length (op_bytes (cond b (Bl false i j) (Bl true i k))) ≡ 4
of_either true i j k h = of_call false i j h
of_either false i j k h = of_call true i k h

-- an item without these faults has as many bytes as its size
item_exact : (address target : ℕ) (item : Item) → is_out_of_range address target item ≡ false → is_wrong_register address target item ≡ false →
    length (bytes_at address target item) ≡ size_at address item
item_exact address target Empty r w = refl
item_exact address target (Instruction op) r w = refl
item_exact address target (OutOfRange size) r w = absurd cc
item_exact address target (WrongRegister size) r w = absurd cc
item_exact address target (Literal t name) r w = of_literal _ _ w
item_exact address target (Address d name) r w = of_address _ _ w
item_exact address target (Branch name) r w = of_branch _ w
item_exact address target (Call name) r w = of_either _ _ _ _ w
item_exact address target (BranchIf condition name) r w = of_condition _ _ w
item_exact address target (Word k) r w = refl
item_exact address target (WordAt name k) r w = refl
item_exact address target (Half k) r w = refl
item_exact address target _ r w = length-replicate _ _

-- ---- lines without a fault

third : {X : Type 0} (u t r w : Bool) (a b c d : X) (rest : Option X) →
    cond u (Some a) (cond t (Some b) (cond r (Some c) (cond w (Some d) rest))) ≡ None → (r ≡ false) × (w ≡ false)
third true t r w a b c d rest h = absurd cc
third false true r w a b c d rest h = absurd cc
third false false true w a b c d rest h = absurd cc
third false false false true a b c d rest h = absurd cc
third false false false false a b c d rest h = (refl, refl)

no_fault : (names : Names) (n address : ℕ) (code : List ℕ) (s : Statement) → fault_at names n address code s ≡ None →
    (is_out_of_range address (target_of names code s.item) s.item ≡ false) × (is_wrong_register address (target_of names code s.item) s.item ≡ false)
unfolding fault_at
no_fault names n address code s h =
    let target = target_of names code s.item in
    third (is_unknown names code (name_of s.item)) (is_twice names n code s.label) (is_out_of_range address target s.item) (is_wrong_register address target s.item)
    (Unknown n) (Twice n) (Range n) (Register n)
    (cond (is_misaligned address target s.item) (Some (AlignFault n)) (cond (nat_lt 0x2004_2000 (address + size_at address s.item)) (Some (TooLong n)) None)) h

fine : (fault : Option ThumbFault) (answer : Result (List ℕ) ThumbFault) (all : List ℕ) → or_fault fault answer ≡ Ok all → (fault ≡ None) × (answer ≡ Ok all)
fine (Some fault) answer all h = absurd cc
fine None answer all h = (refl, h)

-- the bytes so far stay at the front
extends : (names : Names) (n address : ℕ) (bytes : List ℕ) (rest : List (List ℕ)) (all : List ℕ) → bytes_from names n address bytes rest ≡ Ok all →
    (tail : List ℕ) × (all ≡ bytes ++ tail)
unfolding bytes_from
extends names n address bytes [] all h = let same : bytes ≡ all = cc in ([], sym same ∙ sym (append-nil bytes))
extends names n address bytes (line ∷ rest) all h =
    let more = extends names (n + 1) (address_after address (code_part line)) (bytes ++ line_bytes names address (code_part line)) rest all (fine _ _ all h).1 in
    (line_bytes names address (code_part line) ++ more.0, more.1 ∙ append_assoc bytes (line_bytes names address (code_part line)) more.0)

-- ---- halfwords at their places

half_of : (bytes : List ℕ) (x y : ℕ) (tail : List ℕ) → half_at (bytes ++ x ∷ y ∷ tail) (length bytes) ≡ x + 256 * y
half_of bytes x y tail =
    ap (λ low. low + 256 * get_or (bytes ++ x ∷ y ∷ tail) (length bytes + 1) 0) (get_or-append_seam bytes x (y ∷ tail) 0)
    ∙ ap (λ high. x + 256 * high) (get_or-append-add bytes (x ∷ y ∷ tail) 1 0)

whole : (h : ℕ) → h % 256 + 256 * (h / 256) ≡ h
whole h = omega arith

first_at : (bytes : List ℕ) (h : ℕ) (tail : List ℕ) → half_at (bytes ++ (half_bytes h ++ tail)) (length bytes) ≡ h
first_at bytes h tail = half_of bytes (h % 256) (h / 256) tail ∙ whole h

second_at : (bytes : List ℕ) (h g : ℕ) (tail : List ℕ) → half_at (bytes ++ (half_bytes h ++ (half_bytes g ++ tail))) (length bytes + 2) ≡ g
second_at bytes h g tail =
    let same = append_assoc bytes (half_bytes h) (half_bytes g ++ tail) in
    let far : length (bytes ++ half_bytes h) ≡ length bytes + 2 = length-append bytes (half_bytes h) in
    ap (λ place. half_at (bytes ++ (half_bytes h ++ (half_bytes g ++ tail))) place) (sym far)
    ∙ ap (λ all. half_at all (length (bytes ++ half_bytes h))) (sym same) ∙ first_at (bytes ++ half_bytes h) g tail

by_code : (bytes tail : List ℕ) (first : ℕ) (second : Option ℕ) (op : Op) → DecodesTo first second op →
    IsDecoded (bytes ++ ((half_bytes first ++ option_map_or half_bytes second []) ++ tail)) (length bytes) (Some op)
by_code bytes tail first None op h =
    let f = first_at bytes first tail in
    ap (λ x. operation_of x (half_at (bytes ++ (half_bytes first ++ tail)) (length bytes + 2))) f ∙ h (half_at (bytes ++ (half_bytes first ++ tail)) (length bytes + 2))
by_code bytes tail first (Some second) op h =
    let f = first_at bytes first (half_bytes second ++ tail) in
    let s = second_at bytes first second tail in
    ap (λ x. operation_of x (half_at (bytes ++ (half_bytes first ++ (half_bytes second ++ tail))) (length bytes + 2))) f ∙ ap (operation_of first) s ∙ h

of_op : (bytes tail : List ℕ) (op : Op) → is_none (code_of op) ≡ false → IsDecoded (bytes ++ (op_bytes op ++ tail)) (length bytes) (Some op)
unfolding op_bytes
of_op bytes tail op h =
    let code = some_code (code_of op) h in
    subst (λ o. IsDecoded (bytes ++ (option_map_or code_bytes o [] ++ tail)) (length bytes) (Some op)) (sym code.1)
    (by_code bytes tail code.0.first code.0.second op (codes_decode op code.0 code.1).operation)

item_decoded : (bytes tail : List ℕ) (address target : ℕ) (item : Item) → is_wrong_register address target item ≡ false →
    IsDecoded (bytes ++ (bytes_at address target item ++ tail)) (length bytes) (op_at address target item)
item_decoded bytes tail address target (Instruction op) w = of_op bytes tail op w
item_decoded bytes tail address target (Literal t name) w = of_op bytes tail _ w
item_decoded bytes tail address target (Address d name) w = of_op bytes tail _ w
item_decoded bytes tail address target (Branch name) w = of_op bytes tail _ w
item_decoded bytes tail address target (Call name) w = of_op bytes tail _ w
item_decoded bytes tail address target (BranchIf condition name) w = of_op bytes tail _ w
item_decoded bytes tail address target _ w = tt

-- ---- the lines of a source

line_decoded : (names : Names) (n address : ℕ) (bytes tail all code : List ℕ) → fault_at names n address code (statement_at code) ≡ None →
    address ≡ 0x2000_0000 + length bytes → all ≡ bytes ++ (line_bytes names address code ++ tail) →
    IsDecoded all (address - 0x2000_0000) (op_at address (target_of names code (statement_at code).item) (statement_at code).item)
unfolding line_bytes
line_decoded names n address bytes tail all code h i j =
    let place : address - 0x2000_0000 ≡ length bytes = omega (arith, i) in
    let here = item_decoded bytes tail address (target_of names code (statement_at code).item) (statement_at code).item (no_fault names n address code (statement_at code) h).1 in
    let o = op_at address (target_of names code (statement_at code).item) (statement_at code).item in
    subst (λ p. IsDecoded all p o) (sym place) (subst (λ all. IsDecoded all (length bytes) o) (sym j) here)

line_exact : (names : Names) (n address : ℕ) (bytes code : List ℕ) → fault_at names n address code (statement_at code) ≡ None →
    address ≡ 0x2000_0000 + length bytes → address_after address code ≡ 0x2000_0000 + length (bytes ++ line_bytes names address code)
unfolding line_bytes address_after
line_exact names n address bytes code h i =
    let f = no_fault names n address code (statement_at code) h in
    let exact = item_exact address (target_of names code (statement_at code).item) (statement_at code).item f.0 f.1 in
    rw length-append (omega (arith, i, exact))

all_decoded : (names : Names) (n address : ℕ) (bytes : List ℕ) (rest : List (List ℕ)) (all : List ℕ) → bytes_from names n address bytes rest ≡ Ok all →
    address ≡ 0x2000_0000 + length bytes → AreDecoded names all address rest
unfolding bytes_from AreDecoded
all_decoded names n address bytes [] all h i = tt
all_decoded names n address bytes (line ∷ rest) all h i =
    let s = fine _ _ all h in
    let more = extends names (n + 1) (address_after address (code_part line)) (bytes ++ line_bytes names address (code_part line)) rest all s.1 in (
      line_decoded names n address bytes more.0 all (code_part line) s.0 i (more.1 ∙ append_assoc bytes (line_bytes names address (code_part line)) more.0),
      all_decoded names (n + 1) (address_after address (code_part line)) (bytes ++ line_bytes names address (code_part line)) rest all s.1 (line_exact names n address bytes (code_part line) s.0 i),
    )

-- ---- the end of the bytes

last_test : {X : Type 0} (u t r w m l : Bool) (a b c d e f : X) →
    cond u (Some a) (cond t (Some b) (cond r (Some c) (cond w (Some d) (cond m (Some e) (cond l (Some f) None))))) ≡ None → l ≡ false
last_test true t r w m l a b c d e f h = absurd cc
last_test false true r w m l a b c d e f h = absurd cc
last_test false false true w m l a b c d e f h = absurd cc
last_test false false false true m l a b c d e f h = absurd cc
last_test false false false false true l a b c d e f h = absurd cc
last_test false false false false false true a b c d e f h = absurd cc
last_test false false false false false false a b c d e f h = refl

line_ends : (names : Names) (n address : ℕ) (code : List ℕ) → fault_at names n address code (statement_at code) ≡ None → address_after address code ≤ 0x2004_2000
unfolding fault_at address_after
line_ends names n address code h =
    let s = statement_at code in
    let target = target_of names code s.item in
    let test = last_test (is_unknown names code (name_of s.item)) (is_twice names n code s.label) (is_out_of_range address target s.item) (is_wrong_register address target s.item)
    (is_misaligned address target s.item) (nat_lt 0x2004_2000 (address + size_at address s.item))
    (Unknown n) (Twice n) (Range n) (Register n) (AlignFault n) (TooLong n) h in
    grind (arith, nat_tests)

all_end : (names : Names) (n address : ℕ) (bytes : List ℕ) (rest : List (List ℕ)) (all : List ℕ) → bytes_from names n address bytes rest ≡ Ok all →
    address ≡ 0x2000_0000 + length bytes → address ≤ 0x2004_2000 → length all ≤ 0x42000
unfolding bytes_from
all_end names n address bytes [] all h i j = let same : bytes ≡ all = cc in omega (arith, ap length same, i, j)
all_end names n address bytes (line ∷ rest) all h i j =
    let s = fine _ _ all h in
    all_end names (n + 1) (address_after address (code_part line)) (bytes ++ line_bytes names address (code_part line)) rest all s.1
    (line_exact names n address bytes (code_part line) s.0 i) (line_ends names n address (code_part line) s.0)

past_char : (other : Option ℕ) (answer : Result Image ThumbFault) (image : Image) → unless_other_char other answer ≡ Ok image → answer ≡ Ok image
past_char (Some n) answer image h = absurd cc
past_char None answer image h = h

past_misfit : (misfit : Option ℕ) (answer : Result Image ThumbFault) (image : Image) → unless_misfit misfit answer ≡ Ok image → answer ≡ Ok image
past_misfit (Some n) answer image h = absurd cc
past_misfit None answer image h = h

of_some : (none : Bool) (fault : ThumbFault) (made image : Image) → cond none (Err fault) (Ok made) ≡ Ok image → (none ≡ false) × (image ≡ made)
of_some true fault made image h = absurd cc
of_some false fault made image h = let same : made ≡ image = cc in (refl, sym same)

of_bytes : (answer : Result (List ℕ) ThumbFault) (image : Image) → image_of_bytes answer ≡ Ok image →
    (bytes : List ℕ) × (answer ≡ Ok bytes) × ((length bytes == 0) ≡ false) × (image ≡ image_with bytes)
of_bytes (Err fault) image h = absurd cc
of_bytes (Ok bytes) image h = let made = of_some (length bytes == 0) _ (image_with bytes) image h in (bytes, refl, made.0, made.1)

bytes_found : (text : List ℕ) (image : Image) → image_of_source text ≡ Ok image →
    (bytes : List ℕ) × (bytes_of text ≡ Ok bytes) × ((length bytes == 0) ≡ false) × (image ≡ image_with bytes)
unfolding image_of_source
bytes_found text image h = of_bytes (bytes_of text) image (past_misfit _ _ image (past_char _ _ image h))

pub decoded : InstructionsAreDecoded
decoded text image h =
    let found = bytes_found text image h in
    (found.0, found.3, all_decoded (names_of text) 1 0x2000_0000 [] (lines text) found.0 found.1 refl)

pub read_back : WhatIsAssembledIsReadBack
read_back text image h =
    let found = bytes_found text image h in
    let some : 0 < length found.0 = let none = found.2 in grind (arith, nat_tests) in
    let can = subst IsWritable (sym found.3) (writable found.0 some (all_end (names_of text) 1 0x2000_0000 [] (lines text) found.0 found.1 refl (omega arith))) in
    record { writable = can; read = what_is_written_is_read image can; entry = ap (λ image. image.entry) found.3 }
