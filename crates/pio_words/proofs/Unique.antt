use Rattle.std.proofs.Common.{◌≡◌, ℕ, ◌/◌, ◌%◌, Option, None, Some, Bool, MatchBool, true, false, arith}
use Rattle.pio_words.specs.declared.op.WaitSource.{WaitSource}
use Rattle.pio_words.specs.declared.op.WaitSource.TheVariants.{Gpio, Pin, Irq as WaitIrq}
use Rattle.pio_words.specs.declared.op.PioOp.{PioOp}
use Rattle.pio_words.specs.declared.op.PioOp.TheVariants.{Jmp, Wait, In, Out, Push, Pull, Mov, Irq, Set, Reserved}
use Rattle.pio_words.specs.declared.side.SideConfig.{SideConfig}
use Rattle.pio_words.specs.Operation.{HasFields, IsWaitSource}
use Rattle.pio_words.specs.Side.{IsSideField, IsOptionalSide, IsPlainSide}
use Rattle.pio_words.specs.Word.{IsOneWord}
use Rattle.pio_words.proofs.OfJmpCondition.{conditions-unique}
use Rattle.pio_words.proofs.OfInSource.{in_sources-unique}
use Rattle.pio_words.proofs.OfOutDestination.{out_destinations-unique}
use Rattle.pio_words.proofs.OfMovDestination.{mov_destinations-unique}
use Rattle.pio_words.proofs.OfMovOperation.{mov_operations-unique}
use Rattle.pio_words.proofs.OfMovSource.{mov_sources-unique}
use Rattle.pio_words.proofs.OfSetDestination.{set_destinations-unique}

-- an operation has one way to fill three fields
abbrev SameFields : ℕ → ℕ → ℕ → ℕ → ℕ → ℕ → Type 0
SameFields a b c a' b' c' = (a ≡ a') × (b ≡ b') × (c ≡ c')

-- two halves of a field
halves : (m n : ℕ) → m / 8 ≡ n / 8 → m % 8 ≡ n % 8 → m ≡ n
halves m n a b = omega arith

quarters : (m n : ℕ) → m / 4 ≡ n / 4 → m % 4 ≡ n % 4 → m ≡ n
quarters m n a b = omega arith

wait-unique : (s : WaitSource) (b c b' c' : ℕ) → IsWaitSource s b c → IsWaitSource s b' c' → (b ≡ b') × (c ≡ c')
wait-unique (Gpio n) b c b' c' h k = (cc, cc)
wait-unique (Pin n) b c b' c' h k = (cc, cc)
wait-unique (WaitIrq i) b c b' c' h k = (cc, cc)

fields-unique : (op : PioOp) (a b c a' b' c' : ℕ) → HasFields op a b c → HasFields op a' b' c' → SameFields a b c a' b' c'
fields-unique (Jmp t n) a b c a' b' c' h k = (cc, conditions-unique b b' t h.1 k.1, cc)
fields-unique (Wait p s) a b c a' b' c' h k =
    let w = wait-unique s (b % 4) c (b' % 4) c' h.2 k.2 in
    (cc, (let e : b / 4 ≡ b' / 4 = cc in quarters b b' e w.0), w.1)
fields-unique (In s n) a b c a' b' c' h k = (cc, in_sources-unique b b' s h.1 k.1, cc)
fields-unique (Out d n) a b c a' b' c' h k = (cc, out_destinations-unique b b' d h.1 k.1, cc)
fields-unique (Push f g) a b c a' b' c' h k = (cc, cc, cc)
fields-unique (Pull f g) a b c a' b' c' h k = (cc, cc, cc)
fields-unique (Mov d o s) a b c a' b' c' h k =
    (cc, mov_destinations-unique b b' d h.1 k.1, halves c c' (mov_operations-unique (c / 8) (c' / 8) o h.2 k.2) (mov_sources-unique (c % 8) (c' % 8) s h.3 k.3))
fields-unique (Irq f g i) a b c a' b' c' h k = (cc, cc, cc)
fields-unique (Set d v) a b c a' b' c' h k = (cc, set_destinations-unique b b' d h.1 k.1, cc)
fields-unique Reserved a b c a' b' c' h k = absurd h

side-unique_at : (opt : Bool) (n : ℕ) (v : Option ℕ) (d f f' : ℕ) → MatchBool opt (IsOptionalSide n v d f) (IsPlainSide n v d f) → MatchBool opt (IsOptionalSide n v d f') (IsPlainSide n v d f') → f ≡ f'
side-unique_at true n None d f f' h k = cc
side-unique_at true n (Some v) d f f' h k = cc
side-unique_at false n None d f f' h k = cc
side-unique_at false n (Some v) d f f' h k = cc

side-unique : (side : SideConfig) (v : Option ℕ) (d f f' : ℕ) → IsSideField side v d f → IsSideField side v d f' → f ≡ f'
side-unique side v d f f' h k = side-unique_at side.opt side.count v d f f' h k

whole : (w w' : ℕ) → w / 8192 ≡ w' / 8192 → w / 32 % 8 ≡ w' / 32 % 8 → w % 32 ≡ w' % 32 → w / 256 % 32 ≡ w' / 256 % 32 → w ≡ w'
whole w w' a b c d = omega arith

pub word-unique : IsOneWord
word-unique op side value delay word other h k =
    let e = fields-unique op (word / 8192) (word / 32 % 8) (word % 32) (other / 8192) (other / 32 % 8) (other % 32) h.has_operation k.has_operation in
    whole word other e.0 e.1 e.2 (side-unique side value delay (word / 256 % 32) (other / 256 % 32) h.has_side k.has_side)
