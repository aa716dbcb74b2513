-- What is read of a line is a line of the grammar that says this, and each line of the grammar is read so.
use Rattle.std.proofs.Common.{◌≡◌, ℕ, ◌%◌, ◌==◌, Bool, true, false, cond, ◌&&◌, List, [], ◌∷◌, ◌++◌, Option, Some, None, refl, sym, ap, subst, ◌∙◌, bytes_eq}
use Rattle.std.specs.Prelude.{is_some, option_and_then}
use Rattle.std.specs.Option.{option_map}
use Rattle.std.proofs.lemmas.Bool.{eqb-true}
use Rattle.std.proofs.lemmas.Slice.Eq.{bytes_eq-Decides}
use Rattle.rp_base.specs.declared.op.Op.{Op}
use Rattle.rp_base.specs.declared.op.Op.TheVariants.{Cmp as CmpLow, CmpHigh, AddSp, Cpsie as CpsieOp, Cpsid as CpsidOp}
use Rattle.thumb_parse.specs.declared.mnemonic.Mnemonic.{Mnemonic}
use Rattle.thumb_parse.specs.declared.mnemonic.Mnemonic.TheVariants.{Cmp, Lsls, Lsrs, Asrs, Add, Mov, Sub, Ldr, Str, Adr, Push, Pop, Stm, Ldm, Cpsie, Cpsid, B, Bl, Msr, Mrs, Word as WordDirective, Half as HalfDirective, Space as SpaceDirective, Align as AlignDirective}
use Rattle.thumb_parse.specs.declared.token.Span.{Span}
use Rattle.thumb_parse.specs.declared.token.Number.{Number}
use Rattle.thumb_parse.specs.declared.token.Token.{Token}
use Rattle.thumb_parse.specs.declared.token.Token.TheVariants.{Name, Register, Mnemonic as Word', Number as Number', Comma, Colon, Hash, OpenBracket, CloseBracket, OpenBrace, CloseBrace, Bang, Plus, Minus}
use Rattle.thumb_parse.specs.declared.operands.RegisterList.{RegisterList}
use Rattle.thumb_parse.specs.declared.operands.ListPart.TheVariants.{Open, Misfit}
use Rattle.thumb_parse.specs.declared.operands.Operands.TheVariants.{List as ListOperand, WriteBack, RegisterAndList}
use Rattle.thumb_parse.specs.declared.item.Item.{Item}
use Rattle.thumb_parse.specs.declared.item.Item.TheVariants.{Instruction, BranchIf}
use Rattle.thumb_parse.specs.declared.statement.Statement.{Statement}
use Rattle.thumb_parse.specs.FormOps.{alone_op, number_op, branch_op, low_op, three_op, byte_op, small_op, index_op, offset_op, stack_op, adjust_op, shift_op}
use Rattle.thumb_parse.specs.descent.Forms.{bare_item, form_of, immediate_register, index_immediate, index_register, register_and_list, register_immediate, register_name, registers_immediate, short, three_registers, two_registers, with_immediate, with_list, with_name, with_number, with_register, with_sum, write_back}
use Rattle.thumb_parse.specs.Forms.{condition_of, field, is_low, judged, ldm_item, ldm_listed_item, name_text, pop_item, push_item, stm_item, unit_of, units}
use Rattle.thumb_parse.specs.Grammar.{IsItem, IsLine, IsList}
use Rattle.thumb_parse.specs.Grammar.IsItem.{nothing, word_number, word_name, word_sum, half_number, space_number, align_alone as align_form, no_operand, cpsie_i, cpsid_i, b_name, bl_name, b_if_name, ldr_name, adr_name, number, msr_number, mrs_number, register, low_pair, cmp_low, cmp_high, add_pair, mov_pair, three, byte, adjust, small, shift_left, shift_right, add_stack, indexed, stack, offset, push_list, pop_list, stm_back, ldm_back, ldm_listed}
use Rattle.thumb_parse.specs.Grammar.IsLine.{labelled, plain}
use Rattle.thumb_parse.specs.Grammar.IsList.{last, last_range, more, more_range}
use Rattle.thumb_parse.specs.Laws.{Reader, ReadsForms}
use Rattle.thumb_parse.specs.descent.Lines.{item_of, statement_in, statement_of, statement_with}
use Rattle.thumb_parse.specs.descent.Operands.{after_comma, after_register, after_second, index_of, list_from, list_of, list_step, no_registers, operands_of, with_range, with_register as with_one, with_registers}
use Rattle.thumb_parse.specs.Lists.{ascend_from, bits_with, range_of}
use Rattle.thumb_parse.specs.descent.Tokens.{tokens_of}
use Rattle.thumb_parse.proofs.Lists.{by_registers, registers_append}
use Rattle.thumb_parse.proofs.ReadTokens.{line_tokens, tokens_only}

-- ---- answers

no_answer : {A X : Type 0} {a : A} → None ≡ Some a → X
no_answer h = absurd cc

some_map : {A C : Type 0} (f : A → C) (o : Option A) (c : C) → option_map f o ≡ Some c → (a : A) × (o ≡ Some a) × (f a ≡ c)
some_map f (Some a) c h = let same : f a ≡ c = cc in (a, refl, same)
some_map f None c h = no_answer h

some_chain : {A C D : Type 0} (g : C → Option D) (f : A → C) (o : Option A) (d : D) → option_and_then g (option_map f o) ≡ Some d → (a : A) × (o ≡ Some a) × (g (f a) ≡ Some d)
some_chain g f (Some a) d h = (a, refl, h)
some_chain g f None d h = no_answer h

left_true : (a b : Bool) → (a && b) ≡ true → a ≡ true
left_true true b h = refl
left_true false b h = h

-- ---- lists

none_of_misfit : (tokens : List Token) → list_from Misfit tokens ≡ None
unfolding list_step
none_of_misfit [] = refl
none_of_misfit (token ∷ tokens) = none_of_misfit tokens

no_list : {X : Type 0} (tokens : List Token) (all : RegisterList) → list_from Misfit tokens ≡ Some all → X
no_list tokens all h = let none = none_of_misfit tokens in absurd cc

-- with the registers before them these tokens list those of `all`
abbrev IsListOf : RegisterList → List Token → RegisterList → Type 0
IsListOf list tokens all = (rs : List ℕ) × IsList tokens rs × (with_registers list rs ≡ all)

is_list : (list : RegisterList) (tokens : List Token) (all : RegisterList) → list_from (Open list) tokens ≡ Some all → IsListOf list tokens all
unfolding list_step with_registers
is_list list [] all h = no_answer h
is_list list (Register a ∷ []) all h = no_answer h
is_list list (Register a ∷ CloseBrace ∷ []) all h = (a ∷ [], last, cc)
is_list list (Register a ∷ CloseBrace ∷ t ∷ tokens) all h = no_list tokens all h
is_list list (Register a ∷ Comma ∷ tokens) all h = let rest = is_list (with_one list a) tokens all h in (a ∷ rest.0, more rest.1, rest.2)
is_list list (Register a ∷ Minus ∷ []) all h = no_answer h
is_list list (Register a ∷ Minus ∷ Register b ∷ []) all h = no_answer h
is_list list (Register a ∷ Minus ∷ Register b ∷ CloseBrace ∷ []) all h = (range_of a b, last_range, cc)
is_list list (Register a ∷ Minus ∷ Register b ∷ CloseBrace ∷ t ∷ tokens) all h = no_list tokens all h
is_list list (Register a ∷ Minus ∷ Register b ∷ Comma ∷ tokens) all h =
    let rest = is_list (with_range list a b) tokens all h in
    (range_of a b ++ rest.0, more_range rest.1, registers_append list (range_of a b) rest.0 ∙ rest.2)
is_list list (Register a ∷ Minus ∷ Register b ∷ t ∷ tokens) all h = no_list tokens all h
is_list list (Register a ∷ Minus ∷ t ∷ tokens) all h = no_list tokens all h
is_list list (Register a ∷ t ∷ tokens) all h = no_list tokens all h
is_list list (t ∷ tokens) all h = no_list tokens all h

list_is : {tokens : List Token} {rs : List ℕ} → IsList tokens rs → (list : RegisterList) → list_from (Open list) tokens ≡ Some (with_registers list rs)
unfolding list_step with_registers
list_is last list = refl
list_is last_range list = refl
list_is (more {r = r} rest) list = list_is rest (with_one list r)
list_is (more_range {a = a} {b = b} {rs = rs} rest) list = list_is rest (with_range list a b) ∙ ap (λ all. Some all) (sym (registers_append list (range_of a b) rs))

-- an item by the fields of a list is one by its registers
by_list : (f : Bool → ℕ → Item) (rs : List ℕ)
    → Some (f (with_registers no_registers rs).ascends (with_registers no_registers rs).mask) ≡ Some (f (ascend_from 0 rs) (bits_with 0 rs))
by_list f rs = ap (λ item. Some item) (by_registers f rs)

of_list : {tokens : List Token} {list : RegisterList} {item : Item} (f : Bool → ℕ → Item) (l : IsListOf no_registers tokens list)
    → Some (f list.ascends list.mask) ≡ Some item → Some (f (ascend_from 0 l.0) (bits_with 0 l.0)) ≡ Some item
of_list {item = item} f l h =
    sym (by_list f l.0) ∙ subst (λ list. Some (f list.ascends list.mask) ≡ Some item) (sym l.2) h

-- ---- what is read is of a form

module _ {code : List ℕ} {tokens : List Token} {item : Item} where
  is_same : {found : Item} → IsItem code tokens found → Some found ≡ Some item → IsItem code tokens item
  is_same {found} form h = let same : found ≡ item = cc in subst (IsItem code tokens) same form

  mapped : {A : Type 0} (o : Option A) (f : A → Item) → option_map f o ≡ Some item → ((a : A) → o ≡ Some a → IsItem code tokens (f a)) → IsItem code tokens item
  mapped (Some a) f h forms = is_same (forms a refl) h
  mapped None f h forms = no_answer h

module _ {code : List ℕ} {item : Item} where
  is_alone : (w : Mnemonic) → bare_item w ≡ Some item → IsItem code (Word' w ∷ []) item
  is_alone AlignDirective h = is_same align_form h
  is_alone w h = mapped (alone_op w) Instruction h (λ op e. no_operand e)

  is_number : (w : Mnemonic) (k : Number) → with_number w k ≡ Some item → IsItem code (Word' w ∷ Number' k ∷ []) item
  is_number WordDirective k h = is_same word_number h
  is_number HalfDirective k h = is_same half_number h
  is_number SpaceDirective k h = is_same space_number h
  is_number w k h = no_answer h

  is_cpsie : (name : Span) (b : Bool) → bytes_eq (name_text code name) (105 ∷ []) ≡ b → cond b (Some (Instruction CpsieOp)) None ≡ Some item → IsItem code (Word' Cpsie ∷ Name name ∷ []) item
  is_cpsie name true e h = is_same (cpsie_i ((bytes_eq-Decides (name_text code name) (105 ∷ [])).0 e)) h
  is_cpsie name false e h = no_answer h

  is_cpsid : (name : Span) (b : Bool) → bytes_eq (name_text code name) (105 ∷ []) ≡ b → cond b (Some (Instruction CpsidOp)) None ≡ Some item → IsItem code (Word' Cpsid ∷ Name name ∷ []) item
  is_cpsid name true e h = is_same (cpsid_i ((bytes_eq-Decides (name_text code name) (105 ∷ [])).0 e)) h
  is_cpsid name false e h = no_answer h

  is_name : (w : Mnemonic) (name : Span) → with_name code w name ≡ Some item → IsItem code (Word' w ∷ Name name ∷ []) item
  is_name B name h = is_same b_name h
  is_name Bl name h = is_same bl_name h
  is_name WordDirective name h = is_same word_name h
  is_name Cpsie name h = is_cpsie name (bytes_eq (name_text code name) (105 ∷ [])) refl h
  is_name Cpsid name h = is_cpsid name (bytes_eq (name_text code name) (105 ∷ [])) refl h
  is_name w name h = mapped (condition_of w) (λ condition. BranchIf condition name) h (λ condition e. b_if_name e)

  is_sum : (w : Mnemonic) (name : Span) (k : Number) → with_sum w name k ≡ Some item → IsItem code (Word' w ∷ Name name ∷ Plus ∷ Number' k ∷ []) item
  is_sum WordDirective name k h = is_same word_sum h
  is_sum w name k h = no_answer h

  is_immediate : (w : Mnemonic) (k : Number) → with_immediate w k ≡ Some item → IsItem code (Word' w ∷ Hash ∷ Number' k ∷ []) item
  is_immediate w k h = mapped (number_op w (field (units 1 0 255 k))) (judged 2 (is_some (units 1 0 255 k)) true) h (λ op e. number e)

  is_msr : (w : Mnemonic) (k : Number) (m : ℕ) → immediate_register w k m ≡ Some item → IsItem code (Word' w ∷ Hash ∷ Number' k ∷ Comma ∷ Register m ∷ []) item
  is_msr Msr k m h = is_same msr_number h
  is_msr w k m h = no_answer h

  is_register : (w : Mnemonic) (m : ℕ) → with_register w m ≡ Some item → IsItem code (Word' w ∷ Register m ∷ []) item
  is_register w m h = mapped (branch_op w m) Instruction h (λ op e. register e)

  is_compare : (d m : ℕ) (low : Bool) → (is_low d && is_low m) ≡ low → Some (Instruction (cond low (CmpLow m d) (CmpHigh d m))) ≡ Some item → IsItem code (Word' Cmp ∷ Register d ∷ Comma ∷ Register m ∷ []) item
  is_compare d m true e h = is_same (cmp_low e) h
  is_compare d m false e h = is_same (cmp_high e) h

  is_pair : (w : Mnemonic) (d m : ℕ) → two_registers w d m ≡ Some item → IsItem code (Word' w ∷ Register d ∷ Comma ∷ Register m ∷ []) item
  is_pair Cmp d m h = is_compare d m (is_low d && is_low m) refl h
  is_pair Add d m h = is_same add_pair h
  is_pair Mov d m h = is_same mov_pair h
  is_pair w d m h = mapped (low_op w m d) (judged 2 true (is_low d && is_low m)) h (λ op e. low_pair e)

  is_three : (w : Mnemonic) (d n m : ℕ) → three_registers w d n m ≡ Some item → IsItem code (Word' w ∷ Register d ∷ Comma ∷ Register n ∷ Comma ∷ Register m ∷ []) item
  is_three w d n m h = mapped (three_op w m n d) (judged 2 true (is_low d && is_low n && is_low m)) h (λ op e. three e)

  is_adjust : (w : Mnemonic) (d : ℕ) (k : Number) (b : Bool) → (d == 13) ≡ b
      → cond b (short (is_some (units 4 0 127 k)) true (adjust_op w (field (units 4 0 127 k)))) None ≡ Some item
      → IsItem code (Word' w ∷ Register d ∷ Comma ∷ Hash ∷ Number' k ∷ []) item
  is_adjust w d k true e h =
      subst (λ d. IsItem code (Word' w ∷ Register d ∷ Comma ∷ Hash ∷ Number' k ∷ []) item) (sym (eqb-true d 13 e))
      (mapped (adjust_op w (field (units 4 0 127 k))) (judged 2 (is_some (units 4 0 127 k)) true) h (λ op f. adjust f))
  is_adjust w d k false e h = no_answer h

  is_byte : (w : Mnemonic) (d : ℕ) (k : Number) → register_immediate w d k ≡ Some item → IsItem code (Word' w ∷ Register d ∷ Comma ∷ Hash ∷ Number' k ∷ []) item
  is_byte Mrs d k h = is_same mrs_number h
  is_byte Add d k h = is_adjust Add d k (d == 13) refl h
  is_byte Sub d k h = is_adjust Sub d k (d == 13) refl h
  is_byte w d k h = mapped (byte_op w d (field (units 1 0 255 k))) (judged 2 (is_some (units 1 0 255 k)) (is_low d)) h (λ op e. byte e)

  is_add_stack : (d n : ℕ) (k : Number) (b : Bool) → (n == 13) ≡ b
      → cond b (Some (judged 2 (is_some (units 4 0 255 k)) (is_low d) (AddSp d (field (units 4 0 255 k))))) None ≡ Some item
      → IsItem code (Word' Add ∷ Register d ∷ Comma ∷ Register n ∷ Comma ∷ Hash ∷ Number' k ∷ []) item
  is_add_stack d n k true e h =
      subst (λ n. IsItem code (Word' Add ∷ Register d ∷ Comma ∷ Register n ∷ Comma ∷ Hash ∷ Number' k ∷ []) item) (sym (eqb-true n 13 e)) (is_same add_stack h)
  is_add_stack d n k false e h = no_answer h

  is_shift : (w : Mnemonic) (d m : ℕ) (k : Number)
      → short (is_some (units 1 1 32 k)) (is_low d && is_low m) (shift_op w (field (units 1 1 32 k) % 32) m d) ≡ Some item
      → IsItem code (Word' w ∷ Register d ∷ Comma ∷ Register m ∷ Comma ∷ Hash ∷ Number' k ∷ []) item
  is_shift w d m k h = mapped (shift_op w (field (units 1 1 32 k) % 32) m d) (judged 2 (is_some (units 1 1 32 k)) (is_low d && is_low m)) h (λ op e. shift_right e)

  is_small : (w : Mnemonic) (d n : ℕ) (k : Number) → registers_immediate w d n k ≡ Some item → IsItem code (Word' w ∷ Register d ∷ Comma ∷ Register n ∷ Comma ∷ Hash ∷ Number' k ∷ []) item
  is_small Lsls d n k h = is_same shift_left h
  is_small Lsrs d n k h = is_shift Lsrs d n k h
  is_small Asrs d n k h = is_shift Asrs d n k h
  is_small Add d n k h = is_add_stack d n k (n == 13) refl h
  is_small w d n k h = mapped (small_op w (field (units 1 0 7 k)) n d) (judged 2 (is_some (units 1 0 7 k)) (is_low d && is_low n)) h (λ op e. small e)

  is_register_name : (w : Mnemonic) (r : ℕ) (name : Span) → register_name w r name ≡ Some item → IsItem code (Word' w ∷ Register r ∷ Comma ∷ Name name ∷ []) item
  is_register_name Ldr r name h = is_same ldr_name h
  is_register_name Adr r name h = is_same adr_name h
  is_register_name w r name h = no_answer h

  is_indexed : (w : Mnemonic) (t n m : ℕ) → index_register w t n m ≡ Some item
      → IsItem code (Word' w ∷ Register t ∷ Comma ∷ OpenBracket ∷ Register n ∷ Comma ∷ Register m ∷ CloseBracket ∷ []) item
  is_indexed w t n m h = mapped (index_op w m n t) (judged 2 true (is_low t && is_low n && is_low m)) h (λ op e. indexed e)

  is_offset : (w : Mnemonic) (t n : ℕ) (k : Number) (b : Bool) → (n == 13 && unit_of w == 4) ≡ b
      → cond b (short (is_some (units 4 0 255 k)) (is_low t) (stack_op w t (field (units 4 0 255 k)))) (short (is_some (units (unit_of w) 0 31 k)) (is_low t && is_low n) (offset_op w (field (units (unit_of w) 0 31 k)) n t)) ≡ Some item
      → IsItem code (Word' w ∷ Register t ∷ Comma ∷ OpenBracket ∷ Register n ∷ Comma ∷ Hash ∷ Number' k ∷ CloseBracket ∷ []) item
  is_offset w t n k true e h =
      subst (λ n. IsItem code (Word' w ∷ Register t ∷ Comma ∷ OpenBracket ∷ Register n ∷ Comma ∷ Hash ∷ Number' k ∷ CloseBracket ∷ []) item)
      (sym (eqb-true n 13 (left_true (n == 13) (unit_of w == 4) e)))
      (mapped (stack_op w t (field (units 4 0 255 k))) (judged 2 (is_some (units 4 0 255 k)) (is_low t)) h (λ op f. stack f))
  is_offset w t n k false e h =
      mapped (offset_op w (field (units (unit_of w) 0 31 k)) n t) (judged 2 (is_some (units (unit_of w) 0 31 k)) (is_low t && is_low n)) h (λ op f. offset e f)

  is_push : (w : Mnemonic) (tokens : List Token) (list : RegisterList) → IsListOf no_registers tokens list → with_list w list ≡ Some item → IsItem code (Word' w ∷ OpenBrace ∷ tokens) item
  is_push Push tokens list l h = is_same (push_list l.1) (of_list push_item l h)
  is_push Pop tokens list l h = is_same (pop_list l.1) (of_list pop_item l h)
  is_push w tokens list l h = no_answer h

  is_back : (w : Mnemonic) (n : ℕ) (tokens : List Token) (list : RegisterList) → IsListOf no_registers tokens list → write_back w n list ≡ Some item
      → IsItem code (Word' w ∷ Register n ∷ Bang ∷ Comma ∷ OpenBrace ∷ tokens) item
  is_back Stm n tokens list l h = is_same (stm_back l.1) (of_list (stm_item n) l h)
  is_back Ldm n tokens list l h = is_same (ldm_back l.1) (of_list (ldm_item n) l h)
  is_back w n tokens list l h = no_answer h

  is_listed_form : (w : Mnemonic) (n : ℕ) (tokens : List Token) (list : RegisterList) → IsListOf no_registers tokens list → register_and_list w n list ≡ Some item
      → IsItem code (Word' w ∷ Register n ∷ Comma ∷ OpenBrace ∷ tokens) item
  is_listed_form Ldm n tokens list l h = is_same (ldm_listed l.1) (of_list (ldm_listed_item n) l h)
  is_listed_form w n tokens list l h = no_answer h

  -- ---- by the tokens

  after_index : (w : Mnemonic) (t n : ℕ) (tokens : List Token) → option_and_then (form_of code w) (index_of t n tokens) ≡ Some item
      → IsItem code (Word' w ∷ Register t ∷ Comma ∷ OpenBracket ∷ Register n ∷ Comma ∷ tokens) item
  unfolding form_of
  after_index w t n (Register m ∷ CloseBracket ∷ []) h = is_indexed w t n m h
  after_index w t n (Hash ∷ Number' k ∷ CloseBracket ∷ []) h = is_offset w t n k (n == 13 && unit_of w == 4) refl h
  after_index w t n tokens h = no_answer h

  after_two : (w : Mnemonic) (d m : ℕ) (tokens : List Token) → option_and_then (form_of code w) (after_second d m tokens) ≡ Some item
      → IsItem code (Word' w ∷ Register d ∷ Comma ∷ Register m ∷ tokens) item
  unfolding form_of
  after_two w d m [] h = is_pair w d m h
  after_two w d m (Comma ∷ Register r ∷ []) h = is_three w d m r h
  after_two w d m (Comma ∷ Hash ∷ Number' k ∷ []) h = is_small w d m k h
  after_two w d m tokens h = no_answer h

  of_listed : (w : Mnemonic) (d : ℕ) (tokens : List Token) → option_and_then (form_of code w) (option_map (RegisterAndList d) (list_of tokens)) ≡ Some item
      → IsItem code (Word' w ∷ Register d ∷ Comma ∷ OpenBrace ∷ tokens) item
  unfolding form_of
  of_listed w d tokens h =
      let found = some_chain (form_of code w) (RegisterAndList d) (list_of tokens) item h in
      is_listed_form w d tokens found.0 (is_list no_registers tokens found.0 found.1) found.2

  of_back : (w : Mnemonic) (d : ℕ) (tokens : List Token) → option_and_then (form_of code w) (option_map (WriteBack d) (list_of tokens)) ≡ Some item
      → IsItem code (Word' w ∷ Register d ∷ Bang ∷ Comma ∷ OpenBrace ∷ tokens) item
  unfolding form_of
  of_back w d tokens h =
      let found = some_chain (form_of code w) (WriteBack d) (list_of tokens) item h in
      is_back w d tokens found.0 (is_list no_registers tokens found.0 found.1) found.2

  of_push : (w : Mnemonic) (tokens : List Token) → option_and_then (form_of code w) (option_map ListOperand (list_of tokens)) ≡ Some item → IsItem code (Word' w ∷ OpenBrace ∷ tokens) item
  unfolding form_of
  of_push w tokens h =
      let found = some_chain (form_of code w) ListOperand (list_of tokens) item h in
      is_push w tokens found.0 (is_list no_registers tokens found.0 found.1) found.2

  after_one_comma : (w : Mnemonic) (d : ℕ) (tokens : List Token) → option_and_then (form_of code w) (after_comma d tokens) ≡ Some item
      → IsItem code (Word' w ∷ Register d ∷ Comma ∷ tokens) item
  unfolding form_of
  after_one_comma w d (Register m ∷ tokens) h = after_two w d m tokens h
  after_one_comma w d (Hash ∷ Number' k ∷ []) h = is_byte w d k h
  after_one_comma w d (Name name ∷ []) h = is_register_name w d name h
  after_one_comma w d (OpenBracket ∷ Register n ∷ Comma ∷ tokens) h = after_index w d n tokens h
  after_one_comma w d (OpenBrace ∷ tokens) h = of_listed w d tokens h
  after_one_comma w d tokens h = no_answer h

  after_one : (w : Mnemonic) (d : ℕ) (tokens : List Token) → option_and_then (form_of code w) (after_register d tokens) ≡ Some item → IsItem code (Word' w ∷ Register d ∷ tokens) item
  unfolding form_of
  after_one w d [] h = is_register w d h
  after_one w d (Comma ∷ tokens) h = after_one_comma w d tokens h
  after_one w d (Bang ∷ Comma ∷ OpenBrace ∷ tokens) h = of_back w d tokens h
  after_one w d tokens h = no_answer h

  after_word : (w : Mnemonic) (tokens : List Token) → option_and_then (form_of code w) (operands_of tokens) ≡ Some item → IsItem code (Word' w ∷ tokens) item
  unfolding form_of operands_of
  after_word w [] h = is_alone w h
  after_word w (Register d ∷ tokens) h = after_one w d tokens h
  after_word w (Number' k ∷ []) h = is_number w k h
  after_word w (Name name ∷ []) h = is_name w name h
  after_word w (Name name ∷ Plus ∷ Number' k ∷ []) h = is_sum w name k h
  after_word w (Hash ∷ Number' k ∷ []) h = is_immediate w k h
  after_word w (Hash ∷ Number' k ∷ Comma ∷ Register m ∷ []) h = is_msr w k m h
  after_word w (OpenBrace ∷ tokens) h = of_push w tokens h
  after_word w tokens h = no_answer h

  is_item : (tokens : List Token) → item_of code tokens ≡ Some item → IsItem code tokens item
  is_item [] h = is_same nothing h
  is_item (Word' w ∷ tokens) h = after_word w tokens h
  is_item tokens h = no_answer h

is_line : (code : List ℕ) (tokens : List Token) (statement : Statement) → statement_in code tokens ≡ Some statement → IsLine code tokens statement
is_line code (Name name ∷ Colon ∷ tokens) statement h =
    let found = some_map (statement_with (Some name)) (item_of code tokens) statement h in
    subst (IsLine code (Name name ∷ Colon ∷ tokens)) found.2 (labelled (is_item tokens found.1))
is_line code tokens statement h =
    let found = some_map (statement_with None) (item_of code tokens) statement h in
    subst (IsLine code tokens) found.2 (plain (is_item tokens found.1))

-- ---- what is of a form is read

not_align : (w : Mnemonic) (op : Op) → alone_op w ≡ Some op → bare_item w ≡ Some (Instruction op)
not_align AlignDirective op h = no_answer h
not_align w op h = ap (option_map Instruction) h

no_pair : (w : Mnemonic) (d m : ℕ) (op : Op) → low_op w m d ≡ Some op → two_registers w d m ≡ Some (judged 2 true (is_low d && is_low m) op)
no_pair Cmp d m op h = no_answer h
no_pair Add d m op h = no_answer h
no_pair Mov d m op h = no_answer h
no_pair w d m op h = ap (option_map (judged 2 true (is_low d && is_low m))) h

no_other_byte : (w : Mnemonic) (d : ℕ) (k : Number) (op : Op) → byte_op w d (field (units 1 0 255 k)) ≡ Some op → register_immediate w d k ≡ Some (judged 2 (is_some (units 1 0 255 k)) (is_low d) op)
no_other_byte Mrs d k op h = no_answer h
no_other_byte Add d k op h = no_answer h
no_other_byte Sub d k op h = no_answer h
no_other_byte w d k op h = ap (option_map (judged 2 (is_some (units 1 0 255 k)) (is_low d))) h

no_other_adjust : (w : Mnemonic) (k : Number) (op : Op) → adjust_op w (field (units 4 0 127 k)) ≡ Some op → register_immediate w 13 k ≡ Some (judged 2 (is_some (units 4 0 127 k)) true op)
no_other_adjust Add k op h = ap (option_map (judged 2 (is_some (units 4 0 127 k)) true)) h
no_other_adjust Sub k op h = ap (option_map (judged 2 (is_some (units 4 0 127 k)) true)) h
no_other_adjust w k op h = no_answer h

no_other_small : (w : Mnemonic) (d n : ℕ) (k : Number) (op : Op) → small_op w (field (units 1 0 7 k)) n d ≡ Some op
    → registers_immediate w d n k ≡ Some (judged 2 (is_some (units 1 0 7 k)) (is_low d && is_low n) op)
no_other_small Lsls d n k op h = no_answer h
no_other_small Lsrs d n k op h = no_answer h
no_other_small Asrs d n k op h = no_answer h
no_other_small Add d n k op h = no_answer h
no_other_small w d n k op h = ap (option_map (judged 2 (is_some (units 1 0 7 k)) (is_low d && is_low n))) h

no_other_shift : (w : Mnemonic) (d m : ℕ) (k : Number) (op : Op) → shift_op w (field (units 1 1 32 k) % 32) m d ≡ Some op
    → registers_immediate w d m k ≡ Some (judged 2 (is_some (units 1 1 32 k)) (is_low d && is_low m) op)
no_other_shift Lsrs d m k op h = ap (option_map (judged 2 (is_some (units 1 1 32 k)) (is_low d && is_low m))) h
no_other_shift Asrs d m k op h = ap (option_map (judged 2 (is_some (units 1 1 32 k)) (is_low d && is_low m))) h
no_other_shift w d m k op h = no_answer h

no_other_stack : (w : Mnemonic) (t : ℕ) (k : Number) (op : Op) → stack_op w t (field (units 4 0 255 k)) ≡ Some op
    → index_immediate w t 13 k ≡ Some (judged 2 (is_some (units 4 0 255 k)) (is_low t) op)
no_other_stack Str t k op h = ap (option_map (judged 2 (is_some (units 4 0 255 k)) (is_low t))) h
no_other_stack Ldr t k op h = ap (option_map (judged 2 (is_some (units 4 0 255 k)) (is_low t))) h
no_other_stack w t k op h = no_answer h

no_other_name : (code : List ℕ) (w : Mnemonic) (name : Span) (condition : ℕ) → condition_of w ≡ Some condition → with_name code w name ≡ Some (BranchIf condition name)
no_other_name code B name condition h = no_answer h
no_other_name code Bl name condition h = no_answer h
no_other_name code WordDirective name condition h = no_answer h
no_other_name code Cpsie name condition h = no_answer h
no_other_name code Cpsid name condition h = no_answer h
no_other_name code w name condition h = ap (option_map (λ condition. BranchIf condition name)) h

-- an item does not begin with a name
without_label : (code : List ℕ) (tokens : List Token) (item : Item) → item_of code tokens ≡ Some item → statement_in code tokens ≡ Some (statement_with None item)
without_label code [] item h = ap (option_map (statement_with None)) h
without_label code (Word' w ∷ tokens) item h = ap (option_map (statement_with None)) h
without_label code tokens item h = no_answer h

module _ {code : List ℕ} where
  item_is : {tokens : List Token} {item : Item} → IsItem code tokens item → item_of code tokens ≡ Some item
  unfolding form_of operands_of
  item_is nothing = refl
  item_is word_number = refl
  item_is word_name = refl
  item_is word_sum = refl
  item_is half_number = refl
  item_is space_number = refl
  item_is align_form = refl
  item_is (no_operand {m = w} {op = op} e) = not_align w op e
  item_is (cpsie_i e) = ap (λ text. cond (bytes_eq text (105 ∷ [])) (Some (Instruction CpsieOp)) None) e
  item_is (cpsid_i e) = ap (λ text. cond (bytes_eq text (105 ∷ [])) (Some (Instruction CpsidOp)) None) e
  item_is b_name = refl
  item_is bl_name = refl
  item_is (b_if_name {m = w} {condition = condition} {name = name} e) = no_other_name code w name condition e
  item_is ldr_name = refl
  item_is adr_name = refl
  item_is (number {k = k} e) = ap (option_map (judged 2 (is_some (units 1 0 255 k)) true)) e
  item_is msr_number = refl
  item_is mrs_number = refl
  item_is (register e) = ap (option_map Instruction) e
  item_is (low_pair {w = w} {op = op} {d = d} {m = m} e) = no_pair w d m op e
  item_is (cmp_low {d = d} {m = m} e) = ap (λ low. Some (Instruction (cond low (CmpLow m d) (CmpHigh d m)))) e
  item_is (cmp_high {d = d} {m = m} e) = ap (λ low. Some (Instruction (cond low (CmpLow m d) (CmpHigh d m)))) e
  item_is add_pair = refl
  item_is mov_pair = refl
  item_is (three {d = d} {n = n} {m = m} e) = ap (option_map (judged 2 true (is_low d && is_low n && is_low m))) e
  item_is (byte {w = w} {op = op} {d = d} {k = k} e) = no_other_byte w d k op e
  item_is (adjust {w = w} {op = op} {k = k} e) = no_other_adjust w k op e
  item_is (small {w = w} {op = op} {d = d} {n = n} {k = k} e) = no_other_small w d n k op e
  item_is shift_left = refl
  item_is (shift_right {w = w} {op = op} {d = d} {m = m} {k = k} e) = no_other_shift w d m k op e
  item_is add_stack = refl
  item_is (indexed {t = t} {n = n} {m = m} e) = ap (option_map (judged 2 true (is_low t && is_low n && is_low m))) e
  item_is (stack {w = w} {op = op} {t = t} {k = k} e) = no_other_stack w t k op e
  item_is (offset {w = w} {op = op} {t = t} {n = n} {k = k} other e) =
      ap (λ b. cond b (short (is_some (units 4 0 255 k)) (is_low t) (stack_op w t (field (units 4 0 255 k)))) (short (is_some (units (unit_of w) 0 31 k)) (is_low t && is_low n) (offset_op w (field (units (unit_of w) 0 31 k)) n t))) other
      ∙ ap (option_map (judged 2 (is_some (units (unit_of w) 0 31 k)) (is_low t && is_low n))) e
  item_is (push_list {rs = rs} l) = ap (λ o. option_and_then (form_of code Push) (option_map ListOperand o)) (list_is l no_registers) ∙ by_list push_item rs
  item_is (pop_list {rs = rs} l) = ap (λ o. option_and_then (form_of code Pop) (option_map ListOperand o)) (list_is l no_registers) ∙ by_list pop_item rs
  item_is (stm_back {n = n} {rs = rs} l) = ap (λ o. option_and_then (form_of code Stm) (option_map (WriteBack n) o)) (list_is l no_registers) ∙ by_list (stm_item n) rs
  item_is (ldm_back {n = n} {rs = rs} l) = ap (λ o. option_and_then (form_of code Ldm) (option_map (WriteBack n) o)) (list_is l no_registers) ∙ by_list (ldm_item n) rs
  item_is (ldm_listed {n = n} {rs = rs} l) = ap (λ o. option_and_then (form_of code Ldm) (option_map (RegisterAndList n) o)) (list_is l no_registers) ∙ by_list (ldm_listed_item n) rs

  line_is : {tokens : List Token} {statement : Statement} → IsLine code tokens statement → statement_in code tokens ≡ Some statement
  line_is (labelled {name = name} form) = ap (option_map (statement_with (Some name))) (item_is form)
  line_is (plain {tokens = tokens} {item = item} form) = without_label code tokens item (item_is form)

pub read_by_forms : ReadsForms statement_of
unfolding statement_of
read_by_forms code statement allowed = (
  λ h. (tokens_of code, line_tokens code allowed, is_line code (tokens_of code) statement h),
  λ says. ap (statement_in code) (tokens_only code says.0 says.1) ∙ line_is says.2,
)

-- the reader of lines
abbrev pub reader : Reader
reader = record { read = statement_of; reads = read_by_forms }
