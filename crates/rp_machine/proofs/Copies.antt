-- What the lanes keep of SIO is what it holds.
use Rattle.std.proofs.Common.{◌==◌, Bool, true, false, if◌then◌else◌, List, [], ◌∷◌, refl}
use Rattle.rp_machine.proofs.Shared.{KnowsSio, Setting, SioIsKnown, State, after_deeds, block_loaded, ended, first_state, next, next_by, start, with_block, with_load, with_loads, with_sio}
use Rattle.lane_look.specs.Device.{DeviceMeaning}
use Rattle.uf2_image.specs.declared.parts.Image.{Image}
use Rattle.rp_machine.specs.declared.load.PioLoad.{PioLoad}

either : (c : Bool) (s t : State) → KnowsSio s → KnowsSio t → KnowsSio (if c then s else t)
either true s t a b = a
either false s t a b = b

load_keeps : (load : PioLoad) (s : State) → KnowsSio s → KnowsSio (with_load load s)
load_keeps load s h =
    either (load.block == 0) (record s { pio0 = with_block s.pio0 (block_loaded load s.pio0.block) }) (record s { pio1 = with_block s.pio1 (block_loaded load s.pio1.block) })
    (record { pins = h.pins; offer = h.offer }) (record { pins = h.pins; offer = h.offer })

loads_keep : (loads : List PioLoad) (s : State) → KnowsSio s → KnowsSio (with_loads loads s)
loads_keep [] s h = h
loads_keep (load ∷ loads) s h = loads_keep loads (with_load load s) (load_keeps load s h)

first_knows : (device : DeviceMeaning) (image : Image) → KnowsSio (first_state device image)
unfolding first_state
first_knows device image = record { pins = refl; offer = refl }

started : (device : DeviceMeaning) (image : Image) (loads : List PioLoad) → KnowsSio (start device image loads)
unfolding start
started device image loads = loads_keep loads (first_state device image) (first_knows device image)

stepped : (w : Setting) (s : State) → KnowsSio (next w s)
unfolding next next_by after_deeds ended with_sio
stepped w s = record { pins = refl; offer = refl }

pub sio_known : SioIsKnown
sio_known = record { at_start = started; after_a_cycle = stepped }
