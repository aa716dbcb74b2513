-- Lemmas for the laws of the lane: how much the engine asks in a cycle, and what its step reads of its turns.
use Rattle.std.proofs.Common.{◌≡◌, refl, ℕ, suc, List, [], ◌∷◌, Option, Some, None}
use Rattle.std.specs.Prelude.{slice_get}
use Rattle.rp_base.specs.declared.Request.{Request}
use Rattle.rp_base.specs.declared.map.Spot.{Spot}
use Rattle.rp_base.specs.declared.map.Spot.TheVariants as spot
use Rattle.rp_base.specs.Map.{place_of}
use Rattle.lane_look.specs.declared.lane.Ask.TheVariants.{Pacing, Word}
use Rattle.lane_look.specs.declared.lane.Want.{Want}
use Rattle.lane_look.specs.declared.lane.Turn.{Turn}
use Rattle.lane_look.specs.declared.lane.Turn.TheVariants as turn
use Rattle.lane_look.specs.Asking.{AsksAtMost}
use Rattle.lane_look.specs.Bounds.{Few, few_ready, few_ask, few_if}
use Rattle.lane_look.specs.Steps.{without_words}
use Rattle.dma_engine.specs.declared.begun.Access.{Access}
use Rattle.dma_engine.specs.declared.begun.Access.TheVariants as access
use Rattle.dma_engine.specs.declared.begun.BegunTransfer.{BegunTransfer}
use Rattle.dma_engine.specs.State.{State}
use Rattle.dma_engine.specs.Asks.{asks_at, asks_for, asks_read, write_begun, next_request, asks}
use Rattle.dma_engine.specs.Cycle.{want_of, wanted, word_of, word_read, is_written, after_transfers, next}

-- ---- questions

few_at : (n counts : ℕ) (write : Access) (request : Request) (at : Spot) → Few (suc n) (asks_at counts write request at)
few_at n counts write request (spot.Ram index bank) = few_ask n (Word request.address) _ (λ word. few_ready n _)
few_at n counts write request _ = few_ready _ _

few_for : (n counts : ℕ) (write : Access) (request : Option Request) → Few (suc n) (asks_for counts write request)
few_for n counts write None = few_ready _ _
few_for n counts write (Some request) = few_at n counts write request (place_of request.address)

few_read : (n counts : ℕ) (s : State) → Few (suc n) (asks_read counts s)
unfolding asks_read
few_read n counts s = few_for n counts (write_begun s) (next_request s)

asks_few : (s : State) → Few 2 (asks s)
unfolding asks
asks_few s = few_if 2 _ _ _ (few_ask 1 Pacing (λ counts. asks_read counts s) (λ counts. few_read 0 counts s)) (few_read 1 0 s)

-- the counts, and a word of SRAM
pub two_at_most : (s : State) → AsksAtMost 2 (asks s)
two_at_most s = (asks_few s).few

-- ---- turns

read_alike : (a : Access) (wants : List Want) (turns : List Turn) → word_read a (word_of (slice_get (without_words (want_of a ∷ wants) turns) 0)) ≡ word_read a (word_of (slice_get turns 0))
read_alike a wants [] = refl
read_alike (access.Read request told) wants (turn.Done word ∷ ts) = refl
read_alike (access.Read request told) wants (_ ∷ ts) = refl
read_alike (access.Write request) wants (turn.Done word ∷ ts) = refl
read_alike (access.Write request) wants (_ ∷ ts) = refl
read_alike _ wants (t ∷ ts) = refl

write_alike : (a : Access) (want : Want) (turns : List Turn) → is_written a (word_of (slice_get (without_words (want ∷ want_of a ∷ []) turns) 1)) ≡ is_written a (word_of (slice_get turns 1))
write_alike a want [] = refl
write_alike a want (t ∷ []) = refl
write_alike (access.Read request told) want (t ∷ turn.Done word ∷ us) = refl
write_alike (access.Read request told) want (t ∷ _ ∷ us) = refl
write_alike (access.Write request) want (t ∷ turn.Done word ∷ us) = refl
write_alike (access.Write request) want (t ∷ _ ∷ us) = refl
write_alike _ want (t ∷ u ∷ us) = refl

-- an access to SRAM has told its word already
pub reads_none : (s : State) (begun : BegunTransfer) (turns : List Turn) → next s begun (without_words (wanted begun) turns) ≡ next s begun turns
unfolding next after_transfers
reads_none s begun turns =
    rw (read_alike begun.read (want_of begun.write ∷ []) turns, write_alike begun.write (want_of begun.read) turns) refl
