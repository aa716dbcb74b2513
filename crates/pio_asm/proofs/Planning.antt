use Rattle.std.proofs.Common.{◌≡◌, ℕ, ◌==◌, List, Bool, true, false, Option, None, Some, refl, ◌||◌}
use Rattle.pio_asm.proofs.Shared.{neither, is_some, option_mapped as option_map, option_and_then, WaitSource, Gpio, Pin, Flag as WaitFlag, PioOp, Jmp as JmpOp, Wait as WaitOp, In as InOp, Out as OutOp, Irq as IrqOp, Set as SetOp, SideConfig, Term, Operation, JmpSyntax as Jmp, WaitGpio, WaitPin, WaitIrq, InSyntax as In, OutSyntax as Out, PushSyntax as Push, PullSyntax as Pull, MovSyntax as Mov, IrqSyntax as Irq, SetSyntax as Set, Instruction, Field, Modifier, Names, AllValued, is_kept, field_in, polarity_in, config_of, delay_bits, delay_modifier_in, greatest, instruction_in, judged_of, member_of, operation_in, planned_by, side_modifier_in, waited_for}
use Rattle.pio_asm.specs.declared.plan.Planned.{Planned}
use Rattle.pio_asm.proofs.Valued.{IsFieldValued, IsFound, field-valued, modifier-found, polarity-valued}

-- without a fault there is an operation
abbrev IsPlanned : Planned → Type 0
IsPlanned p = p.unknown ≡ false → p.range ≡ false → is_some p.op ≡ true

map-some : {X Y : Type 0} (f : X → Y) (o : Option X) → is_some o ≡ true → is_some (option_map f o) ≡ true
map-some f None h = h
map-some f (Some x) h = refl

planned-one : (op : ℕ → PioOp) (f : Field) → IsFieldValued f → IsPlanned (planned_by op f)
planned-one op f h u r = map-some op f.value (h u r)

both-some : {X Y Z : Type 0} (f : X → Y → Z) (x : Option X) (y : Option Y) → is_some x ≡ true → is_some y ≡ true → is_some (option_and_then (λ p. option_map (f p) y) x) ≡ true
both-some f None y h k = h
both-some f (Some x) y h k = map-some (f x) y k

planned-wait : (source : ℕ → WaitSource) (p n : Field) → IsFieldValued p → IsFieldValued n → IsPlanned (waited_for source p n)
planned-wait source p n hp hn u r =
    let us = neither p.unknown n.unknown u in
    let rs = neither p.range n.range r in
    both-some (λ q s. WaitOp (q == 1) s) p.value (option_map source n.value) (hp us.0 rs.0) (map-some source n.value (hn us.1 rs.1))

planned : (locals globals : Names) (operation : Operation) → AllValued locals → AllValued globals → IsPlanned (operation_in locals globals operation)
planned locals globals (Jmp c t) l g = planned-one (λ n. JmpOp c n) (field_in locals globals 0 31 t) (field-valued locals globals 0 31 t l g)
planned locals globals (WaitGpio p t) l g =
    planned-wait (λ n. Gpio n) (polarity_in locals globals p) (field_in locals globals 0 31 t) (polarity-valued locals globals p l g) (field-valued locals globals 0 31 t l g)
planned locals globals (WaitPin p t) l g =
    planned-wait (λ n. Pin n) (polarity_in locals globals p) (field_in locals globals 0 31 t) (polarity-valued locals globals p l g) (field-valued locals globals 0 31 t l g)
planned locals globals (WaitIrq p t f) l g =
    planned-wait (λ n. WaitFlag (record { number = n; relative = f })) (polarity_in locals globals p) (field_in locals globals 0 7 t) (polarity-valued locals globals p l g) (field-valued locals globals 0 7 t l g)
planned locals globals (In s t) l g = planned-one (λ n. InOp s n) (field_in locals globals 1 32 t) (field-valued locals globals 1 32 t l g)
planned locals globals (Out d t) l g = planned-one (λ n. OutOp d n) (field_in locals globals 1 32 t) (field-valued locals globals 1 32 t l g)
planned locals globals (Push a b) l g = λ u r. refl
planned locals globals (Pull a b) l g = λ u r. refl
planned locals globals (Mov d o s) l g = λ u r. refl
planned locals globals (Irq a b t f) l g = planned-one (λ n. IrqOp a b (record { number = n; relative = f })) (field_in locals globals 0 7 t) (field-valued locals globals 0 7 t l g)
planned locals globals (Set d t) l g = planned-one (λ n. SetOp d n) (field_in locals globals 0 31 t) (field-valued locals globals 0 31 t l g)

side-found : (locals globals : Names) (config : Option SideConfig) (terms : Option (List Term)) → AllValued locals → AllValued globals → IsFound (side_modifier_in locals globals config terms)
side-found locals globals None None l g = λ u o. refl
side-found locals globals None (Some terms) l g = modifier-found locals globals 0 terms l g
side-found locals globals (Some config) None l g = λ u o. refl
side-found locals globals (Some config) (Some terms) l g = modifier-found locals globals (greatest config.count) terms l g

delay-found : (locals globals : Names) (config : SideConfig) (terms : Option (List Term)) → AllValued locals → AllValued globals → IsFound (delay_modifier_in locals globals config terms)
delay-found locals globals config None l g = λ u o. refl
delay-found locals globals config (Some terms) l g = modifier-found locals globals (greatest (delay_bits config)) terms l g

kept_if : (config : SideConfig) (given : Bool) (op : Option PioOp) (side delay : Modifier) → is_some op ≡ true → side.lost ≡ false → delay.lost ≡ false → is_kept (member_of config given op side delay) ≡ true
kept_if config given None side delay h s d = h
kept_if config given (Some op) side delay h s d = rw (s, d) refl

judged-kept : (config : SideConfig) (given : Bool) (p : Planned) (side delay : Modifier) → IsPlanned p → IsFound side → IsFound delay → (judged_of config given p side delay).unknown ≡ false → (judged_of config given p side delay).range ≡ false → is_kept (judged_of config given p side delay).member ≡ true
judged-kept config given p side delay hp hs hd u r =
    let u1 = neither (p.unknown || side.unknown) delay.unknown u in
    let u2 = neither p.unknown side.unknown u1.0 in
    let r1 = neither (p.range || side.outside) delay.outside r in
    let r2 = neither p.range side.outside r1.0 in
    kept_if config given p.op side delay (hp u2.0 r2.0) (hs u2.1 r2.1) (hd u1.1 r1.1)

-- an instruction without an unknown name and a value out of range is kept
pub instruction-kept : (locals globals : Names) (config : Option SideConfig) (instruction : Instruction) → AllValued locals → AllValued globals → (instruction_in locals globals config instruction).unknown ≡ false → (instruction_in locals globals config instruction).range ≡ false → is_kept (instruction_in locals globals config instruction).member ≡ true
instruction-kept locals globals config instruction l g =
    judged-kept (config_of config) (is_some instruction.side) (operation_in locals globals instruction.operation) (side_modifier_in locals globals config instruction.side) (delay_modifier_in locals globals (config_of config) instruction.delay)
    (planned locals globals instruction.operation l g) (side-found locals globals config instruction.side l g) (delay-found locals globals (config_of config) instruction.delay l g)
