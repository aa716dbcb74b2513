-- What the accesses of a cycle come to: where an access goes, the cause to stop of one that goes nowhere, the word that a
-- read has, and what is left to be done once all parts have stepped (RP2040 Datasheet, 2.1.1 "AHB-Lite Crossbar", 2.3.1
-- "SIO", 2.2 "Address Map").
use Rattle.std.specs.Prelude.{ℕ, ◌==◌, ◌&&◌, Bool, true, false, if◌then◌else◌, nat_le, Option, Some, None, is_none, is_some, unwrap_or}
use Rattle.rp_base.specs.Access.{lanes_at, replicated, word_written}
use Rattle.rp_base.specs.Map.{place_of, port_of}
use Rattle.rp_base.specs.declared.Master.{Master}
use Rattle.rp_base.specs.declared.Master.TheVariants as master
use Rattle.rp_base.specs.declared.Request.{Request}
use Rattle.rp_base.specs.declared.Why.{Why}
use Rattle.rp_base.specs.declared.Why.TheVariants as why
use Rattle.rp_base.specs.declared.map.Spot.{Spot}
use Rattle.rp_base.specs.declared.map.Spot.TheVariants as spot
use Rattle.lane_look.specs.declared.lane.Want.{Want}
use Rattle.lane_look.specs.declared.lane.Want.TheVariants as want
use Rattle.lane_look.specs.declared.lane.Turn.{Turn}
use Rattle.lane_look.specs.declared.lane.Turn.TheVariants as turn
use Rattle.outer_lane.specs.declared.world.SeenOutputs.{SeenOutputs}
use Rattle.outer_lane.specs.Setting.{Setting}
use Rattle.outer_lane.specs.Device.{owned_word}
use Rattle.io_bank.specs.Levels.{inputs_of}
use Rattle.sio_block.specs.Offsets.{SPINLOCK0}
use Rattle.sio_block.specs.Words as sio
use Rattle.rp_machine.specs.declared.deed.Deed.{Deed}
use Rattle.rp_machine.specs.declared.deed.Deed.TheVariants as deed
use Rattle.rp_machine.specs.declared.wanted.Wanted.{Wanted}
use Rattle.rp_machine.specs.State.{State}
use Rattle.rp_machine.specs.Registers.{Part, part_of, part_word, part_allows, plain_write}

-- ---- words

-- GPIO_IN of SIO has the second levels of the inputs
abbrev pub input_of : State → ℕ
input_of s = inputs_of s.outer.pads s.outer.pads.second

-- SIO belongs to the cores
abbrev pub sio_word : Master → ℕ → State → Option ℕ
sio_word master.Core0 offset s = sio.word_of 0 offset (input_of s) s.sio
sio_word master.Core1 offset s = sio.word_of 1 offset (input_of s) s.sio
sio_word _ offset s = None

-- the word at a spot that is not in SRAM, as it reads for a master at the start of the cycle; None where there is none. An
-- address that is outside of the chip may be the device's
unfoldable pub word_for : Setting → SeenOutputs → Master → ℕ → Spot → State → Option ℕ
word_for w seen m address (spot.Reg block offset alias) s = part_word (part_of block) offset w seen s
word_for w seen m address (spot.Sio offset) s = sio_word m offset s
word_for w seen m address spot.Outside s = owned_word w address s.outer
word_for w seen m address _ s = None

-- ---- causes to stop

-- an access to a word of a part, or of any spot, which reads so, finds it and is allowed
abbrev pub opens : Part → Request → ℕ → ℕ → Option ℕ → Bool
opens part request offset alias None = false
opens part request offset alias (Some word) = part_allows part offset (plain_write request request.write alias word)

abbrev pub is_open : Request → Spot → Option ℕ → Bool
is_open request (spot.Reg block offset alias) word = opens (part_of block) request offset alias word
is_open request _ word = is_some word

-- the cause for which a cycle does not happen in which a master wants this: an access that is not to SRAM has to find a word,
-- and has to be allowed
abbrev pub cause_by : Setting → SeenOutputs → Master → Want → State → Option Why
cause_by w seen m (want.Outward request) s =
    if is_open request (place_of request.address) (word_for w seen m request.address (place_of request.address) s) then None
    else Some (why.Outside m request.address)
cause_by w seen m (want.Stopped cause) s = Some cause
cause_by w seen m _ s = None

unfoldable pub cause_of : Setting → SeenOutputs → State → Wanted → Option Why
cause_of w seen s x = cause_by w seen x.master x.want s

-- ---- ports

-- the port that a spot is reached through; the device is reached through APB
abbrev pub port_at : Spot → Option ℕ
port_at spot.Outside = Some 6
port_at at = port_of at

abbrev pub asked_at : Request → Option ℕ → Option (ℕ × Bool)
asked_at request None = None
asked_at request (Some port) = Some (port, is_some request.write)

-- the spot of a want's access; outside where it is none
abbrev pub spot_of : Want → Spot
spot_of (want.Ram request) = place_of request.address
spot_of (want.Outward request) = place_of request.address
spot_of _ = spot.Outside

-- the port that a want asks for, and whether to write
unfoldable pub asked_of : Want → Option (ℕ × Bool)
asked_of (want.Ram request) = asked_at request (port_at (place_of request.address))
asked_of (want.Outward request) = asked_at request (port_at (place_of request.address))
asked_of _ = None

-- an access to SIO uses no port and is done at once; another one is done where its port is granted
abbrev pub is_done_at : Spot → Bool → Bool
is_done_at (spot.Sio offset) granted = true
is_done_at _ granted = granted

-- ---- reads

-- of two cores that read one spinlock in one cycle core 1 is told 0
abbrev pub is_lock : Spot → Bool
is_lock (spot.Sio offset) = nat_le SPINLOCK0 offset
is_lock _ = false

abbrev pub is_same_word : Spot → Spot → Bool
is_same_word (spot.Sio offset) (spot.Sio other) = offset == other
is_same_word _ _ = false

abbrev pub reads_at : Want → Spot → Bool
reads_at (want.Outward request) at = is_none request.write && is_same_word (place_of request.address) at
reads_at _ at = false

abbrev pub is_core1 : Master → Bool
is_core1 master.Core1 = true
is_core1 _ = false

-- core 1 comes too late for a lock that core 0, which wants this, reads in the same cycle
abbrev pub is_late : Want → Master → Spot → Bool
is_late rival m at = is_core1 m && (is_lock at && reads_at rival at)

-- the word that an access has, where core 0 wants this
abbrev pub told_at : Setting → SeenOutputs → Want → Master → ℕ → Spot → State → ℕ
told_at w seen rival m address at s =
    if is_late rival m at then 0 else unwrap_or (word_for w seen m address at s) 0

-- ---- turns

abbrev pub turn_at : Bool → ℕ → Turn
turn_at done word = if done then turn.Done word else turn.Wait

-- what the bus gives a master for its want, where core 0 wants `rival`. A read of SRAM was told its word when it was asked for
unfoldable pub turn_of : Setting → SeenOutputs → Want → Bool → Master → Want → State → Turn
turn_of w seen rival granted m (want.Ram request) s = turn_at granted 0
turn_of w seen rival granted m (want.Outward request) s =
    turn_at
    (is_done_at (place_of request.address) granted)
    (told_at w seen rival m request.address (place_of request.address) s)
turn_of w seen rival granted m _ s = turn.Nothing

-- ---- deeds

-- a write to SRAM
abbrev pub stored_at : Request → Option ℕ → Spot → Deed
stored_at request (Some value) (spot.Ram index bank) =
    deed.Store index (lanes_at request.size request.address) (replicated request.size value)
stored_at request _ _ = deed.Nothing

-- an access to a word of a register block, of SIO or of the device; the device has its address unchanged
abbrev pub accessed_at : Setting → SeenOutputs → Request → Spot → State → Deed
accessed_at w seen request (spot.Reg block offset alias) s =
    deed.Register block offset (plain_write request request.write alias (unwrap_or (part_word (part_of block) offset w seen s) 0))
accessed_at w seen request (spot.Sio offset) s = deed.SingleCycle offset (word_written request.size request.write)
accessed_at w seen request spot.Outside s = deed.Device request.address (word_written request.size request.write)
accessed_at w seen request _ s = deed.Nothing

-- what a want comes to, by the state at the start of the cycle
unfoldable pub deed_of : Setting → SeenOutputs → Bool → Want → State → Deed
deed_of w seen granted (want.Ram request) s =
    if granted then stored_at request request.write (place_of request.address) else deed.Nothing
deed_of w seen granted (want.Outward request) s =
    if is_done_at (place_of request.address) granted
    then accessed_at w seen request (place_of request.address) s
    else deed.Nothing
deed_of w seen granted want.Signal s = deed.Signal
deed_of w seen granted _ s = deed.Nothing
