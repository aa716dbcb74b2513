-- What is watched while core 0 is at work by itself, which looks at no more of the other lanes than what core 1 begins (the project's own).
use Rattle.std.proofs.Common.{refl, ap}
use Rattle.std.specs.Prelude.{◌≡◌, ℕ, Bool, true, false, not, ◌==◌, Option}
use Rattle.m0_core.specs.State.{State as Core}
use Rattle.m0_core.specs.Begins.{begins}
use Rattle.outer_lane.specs.State.{State as OuterState}
use Rattle.rp_machine.specs.State.{State}
use Rattle.rp_machine.specs.Alone.{Blocks}
use Rattle.rp_machine.specs.Inward.{with_beside}
use Rattle.rp_machine.specs.Reads.{begins_of}
use Rattle.reverse_debug.specs.declared.sight.Sight.{Sight}
use Rattle.reverse_debug.specs.declared.sight.Sight.TheVariants.{Word, Begun}
use Rattle.reverse_debug.specs.Reply.{word_at, is_begun}

-- core 0 is stopped where the word is not this one, or where the core begins such an instruction
abbrev pub stops_at : Sight → State → Bool
stops_at (Word address before) s = not (word_at s address == before)
stops_at (Begun false address) s = is_begun address (begins_of 0 s)
stops_at (Begun true address) s = is_begun address (begins_of 1 s)

pub stops_inward : (sight : Sight) (p : Blocks) (c : Core) (o : OuterState) (s : State) → begins c ≡ begins s.core1 → stops_at sight (with_beside p c o s) ≡ stops_at sight s
stops_inward (Word address before) p c o s same = refl
stops_inward (Begun false address) p c o s same = refl
stops_inward (Begun true address) p c o s same = ap (λ (at : Option ℕ). is_begun address at) same
