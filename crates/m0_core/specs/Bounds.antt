-- Lemmas for the laws of the lane: how much a core asks in a cycle, and what its step reads of its turns.
use Rattle.std.proofs.Common.{◌≡◌, refl, ap, ℕ, zero, suc, ◌%◌, ◌^◌, if◌then◌else◌, List, [], ◌∷◌, Option, Some, None, slice_get}
use Rattle.rp_base.specs.declared.Request.{Request}
use Rattle.rp_base.specs.declared.map.Spot.{Spot}
use Rattle.rp_base.specs.declared.map.Spot.TheVariants as spot
use Rattle.rp_base.specs.declared.op.Op.{Op}
use Rattle.thumb_rows.specs.Rows.{operation_of}
use Rattle.rp_base.specs.Map.{place_of}
use Rattle.m0_beats.specs.declared.timing.Beat.{Beat}
use Rattle.m0_beats.specs.declared.timing.Beat.TheVariants.{Inner, Access}
use Rattle.lane_look.specs.Asking.{Asking, AsksAtMost}
use Rattle.lane_look.specs.Steps.{without_words}
use Rattle.lane_look.specs.Bounds.{Few, few_ready, few_ask, few_if}
use Rattle.lane_look.specs.declared.lane.Ask.TheVariants.{Lines, Half}
use Rattle.lane_look.specs.declared.lane.Turn.{Turn}
use Rattle.lane_look.specs.declared.lane.Turn.TheVariants as turn
use Rattle.lane_look.specs.declared.lane.Want.TheVariants as want
use Rattle.lane_look.specs.Asking.Asking.{Ready, Question}
use Rattle.m0_core.specs.declared.doing.Act.{Act}
use Rattle.m0_core.specs.declared.doing.Act.TheVariants as act
use Rattle.m0_core.specs.declared.doing.Doing.{Doing}
use Rattle.m0_core.specs.declared.doing.Work.{Work}
use Rattle.m0_core.specs.declared.doing.Work.TheVariants as works
use Rattle.m0_core.specs.State.{State}
use Rattle.m0_core.specs.Fetch.{in_ram, at_spot, in_beat, beat_of_work, asks_fault, asks_beat, asks_return, asks_decoded, asks_half, asks_second, asks_first, asks_taken, asks_boundary, asks_work, asks_next, asks_awake, carried, asks, taken_of}
use Rattle.m0_core.specs.Cycle.{want_of_act, wanted, done_word, after, closed, next, is_idle}

-- ---- questions

few_in_ram : (n : ℕ) (work : Work) (request : Request) (write : Option ℕ) → Few (suc n) (in_ram work request write)
few_in_ram n work request None = few_ask n _ _ (λ word. few_ready n _)
few_in_ram n work request (Some value) = few_ready _ _

few_at_spot : (n : ℕ) (work : Work) (request : Request) (s : State) (spot : Spot) → Few (suc n) (at_spot work request s spot)
few_at_spot n work request s (spot.Ram index bank) = few_in_ram n work request request.write
few_at_spot n work request s (spot.Ppb offset) = few_if (suc n) _ _ _ (few_ready _ _) (few_ready _ _)
few_at_spot n work request s _ = few_ready _ _

few_in_beat : (n : ℕ) (work : Work) (s : State) (beat : Beat) → Few (suc n) (in_beat work s beat)
few_in_beat n work s Inner = few_ready _ _
few_in_beat n work s (Access request) = few_at_spot n work request s (place_of request.address)

few_beat : (n : ℕ) (work : Work) (s : State) → Few (suc n) (asks_beat work s)
unfolding asks_beat
few_beat n work s = few_in_beat n work s (beat_of_work work s)

few_fault : (n : ℕ) (s : State) → Few n (asks_fault s)
few_fault n s = few_if n _ _ _ (few_ready _ _) (few_ready _ _)

few_return : (n value : ℕ) (s : State) → Few (suc n) (asks_return value s)
unfolding asks_return
few_return n value s =
    few_if (suc n) _ _ _ (few_fault (suc n) s) (few_if (suc n) _ _ _ (few_ready _ _) (few_beat n (works.Return value) s))

few_decoded : (n : ℕ) (op : Op) (s : State) → Few (suc n) (asks_decoded op s)
unfolding asks_decoded
few_decoded n op s =
    few_if (suc n) _ _ _ (few_ready _ _) (few_if (suc n) _ _ _ (few_fault (suc n) s) (few_beat n (works.Instruction op) s))

few_half : (n address : ℕ) (s : State) (next : ℕ → Asking Act) → ((half : ℕ) → Few n (next half)) → Few (suc n) (asks_half address s next)
few_half n address s next few =
    few_if (suc n) _ _ _ (few_ask n (Half address) (λ half. next (half % 2 ^ 16)) (λ half. few (half % 2 ^ 16))) (few_ready _ _)

few_second : (n first : ℕ) (s : State) → Few (suc (suc n)) (asks_second first s)
unfolding asks_second
few_second n first s =
    few_if (suc (suc n)) _ _ _ (few_half (suc n) _ s _ (λ second. few_decoded n (operation_of first second) s))
    (few_decoded (suc n) (operation_of first 0) s)

few_first : (n : ℕ) (s : State) → Few (suc (suc (suc n))) (asks_first s)
unfolding asks_first
few_first n s = few_half (suc (suc n)) _ s _ (λ first. few_second n first s)

few_taken : (n : ℕ) (taken : Option ℕ) (s : State) → Few (suc (suc (suc n))) (asks_taken taken s)
few_taken n None s = few_first n s
few_taken n (Some number) s = few_beat (suc (suc n)) (works.Entry number) s

few_work : (n : ℕ) (work : Work) (s : State) → Few (suc n) (asks_work work s)
few_work n (works.Instruction op) s = few_beat n (works.Instruction op) s
few_work n (works.Entry number) s = few_beat n (works.Entry number) s
few_work n (works.Return value) s = few_return n value s

few_next : (n : ℕ) (work : Option Work) (s : State) → Few (suc (suc (suc n))) (asks_next work s)
unfolding asks_boundary
few_next n None s = few_taken n (taken_of s) s
few_next n (Some work) s = few_work (suc (suc n)) work s

few_carried : (n lines cycle : ℕ) (tree : Asking Act) → Few n tree → Few n (carried lines cycle tree)
unfolding carried
few_carried n lines cycle (Ready begun) few = few_ready _ _
few_carried zero lines cycle (Question ask next) few = absurd few.few
few_carried (suc n) lines cycle (Question ask next) few =
    few_ask n ask (λ answer. carried lines cycle (next answer))
    (λ answer. few_carried n lines cycle (next answer) (record { few = few.few answer }))

asks_few : (s : State) (cycle : ℕ) → Few 4 (asks s cycle)
unfolding asks asks_awake
asks_few s cycle =
    few_if 4 _ _ _ (few_ready _ _)
    (few_ask 3 Lines (λ lines. carried (lines % 2 ^ 32) cycle (asks_awake s))
    (λ lines. few_carried 3 (lines % 2 ^ 32) cycle (asks_awake s) (few_next 0 s.work s)))

-- the interrupt lines, and two halfwords and a word of SRAM
pub four_at_most : (s : State) (cycle : ℕ) → AsksAtMost 4 (asks s cycle)
four_at_most s cycle = (asks_few s cycle).few

-- ---- turns

reads_none_of : (act : Act) (s : State) (turns : List Turn) → after act (done_word (slice_get (without_words (want_of_act act ∷ want.Nothing ∷ []) turns) 0)) s ≡ after act (done_word (slice_get turns 0)) s
reads_none_of act s [] = refl
reads_none_of (act.Read work request told) s (turn.Done word ∷ ts) = refl
reads_none_of (act.Read work request told) s (_ ∷ ts) = refl
reads_none_of (act.Write work request) s (turn.Done word ∷ ts) = refl
reads_none_of (act.Write work request) s (_ ∷ ts) = refl
reads_none_of _ s (t ∷ ts) = refl

-- an access to SRAM has told its word already
pub reads_none : (s : State) (begun : Doing) (turns : List Turn) → next s begun (without_words (wanted begun) turns) ≡ next s begun turns
unfolding next
reads_none s begun turns =
    ap (λ t. if is_idle begun.act then s else closed begun.lines begun.cycle t) (reads_none_of begun.act s turns)
