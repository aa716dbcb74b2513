-- What the actions of the body mean, by which it gathers the instructions. No other definition stands on these.
use Rattle.std.specs.Prelude.{ℕ, ◌+◌, ◌-◌, ◌*◌, ◌/◌, ◌%◌, ◌^◌, Bool, true, false, bit_and, bit_or, bit_xor}
use Rattle.std.specs.Int.{w32, bit_not}
use Rattle.m0_alu.specs.Sum.{add_with_carry}
use Rattle.m0_alu.specs.Shift.{shifted}
use Rattle.m0_alu.specs.Extend.{extended}
use Rattle.m0_alu.specs.Product.{product_of}
use Rattle.m0_beats.specs.declared.rows.Action.{Action}
use Rattle.m0_beats.specs.declared.rows.Action.TheVariants as act
use Rattle.m0_beats.specs.declared.rows.Operand.{Operand}
use Rattle.m0_beats.specs.declared.rows.Operand.TheVariants.{Register, Number, AlignedPc}
use Rattle.m0_beats.specs.declared.rows.SumKind.{SumKind}
use Rattle.m0_beats.specs.declared.rows.SumKind.TheVariants as sums
use Rattle.m0_beats.specs.declared.rows.WordKind.{WordKind}
use Rattle.m0_beats.specs.declared.rows.WordKind.TheVariants as words
use Rattle.m0_beats.specs.Registers.{register_of, moved_on}
use Rattle.m0_beats.specs.Effects.{branched, branched_link, exchanged_link, after_read_special, after_write_special, after_mask}
use Rattle.m0_beats.specs.Instructions.{Meaning, inside, sum, shift, word, value, value_to, load, store, load_many, store_many, push, pop, branch_if, exchange}

-- an operand, by the registers
abbrev pub value_of : Operand → (ℕ → ℕ) → ℕ
value_of (Register k) r = r k
value_of (Number i) r = i
value_of AlignedPc r = r 15 / 4 * 4

abbrev pub sum_result : SumKind → ℕ → ℕ → Bool → ℕ × Bool × Bool
sum_result sums.Add x y carry = add_with_carry x y false
sum_result sums.Sub x y carry = add_with_carry x (bit_not w32 y) true
sum_result sums.Adc x y carry = add_with_carry x y carry
sum_result sums.Sbc x y carry = add_with_carry x (bit_not w32 y) carry

abbrev pub word_result : WordKind → ℕ → ℕ → ℕ
word_result words.And x y = bit_and x y
word_result words.Eor x y = bit_xor x y
word_result words.Orr x y = bit_or x y
word_result words.Bic x y = bit_and x (bit_not w32 y)
word_result words.Mov x y = y
word_result words.Mvn x y = bit_not w32 y
word_result words.Mul x y = product_of x y

abbrev pub meaning_of_action : Action → Meaning
meaning_of_action (act.Shift kind d m by) = shift d (λ r c. shifted kind (r m) (value_of by r % 2 ^ 8) c)
meaning_of_action (act.Sum kind d x y) = sum d (λ r c. sum_result kind (value_of x r) (value_of y r) c)
meaning_of_action (act.Word kind d x y) = word d (λ r. word_result kind (value_of x r) (value_of y r))
meaning_of_action (act.Extend kind d m) = value d (λ r. extended kind (r m))
meaning_of_action (act.Move d m) = value_to d (λ r. r m)
meaning_of_action (act.Total d x y) = value_to d (λ r. (value_of x r + value_of y r) % 2 ^ 32)
meaning_of_action (act.LowerSp number) = value 13 (λ r. (r 13 + (2 ^ 32 - number)) % 2 ^ 32)
meaning_of_action (act.Load t size sign x y) = load t size sign (λ r. value_of x r + value_of y r)
meaning_of_action (act.Store t size x y) = store t size (λ r. value_of x r + value_of y r)
meaning_of_action (act.LoadMany n list) = load_many n list
meaning_of_action (act.StoreMany n list) = store_many n list
meaning_of_action (act.Push list) = push list
meaning_of_action (act.Pop list) = pop list
meaning_of_action (act.Branch offset) = inside 2 (branched offset)
meaning_of_action (act.BranchIf condition offset) = branch_if condition offset
meaning_of_action (act.BranchLink offset) = inside 3 (branched_link offset)
meaning_of_action (act.Exchange m) = exchange m
meaning_of_action (act.ExchangeLink m) = inside 2 (λ s. exchanged_link s (register_of s m))
meaning_of_action (act.ReadSpecial d number) = inside 3 (after_read_special d number)
meaning_of_action (act.WriteSpecial n number) = inside 3 (after_write_special n number)
meaning_of_action (act.Mask set) = inside 1 (after_mask set)
meaning_of_action act.Barrier = inside 3 (λ s. moved_on s 4)
meaning_of_action act.Pause = inside 2 (λ s. moved_on s 2)
meaning_of_action act.Nothing = inside 1 (λ s. moved_on s 2)
meaning_of_action act.Never = inside 1 (λ s. s)
