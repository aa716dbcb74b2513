use Rattle.window_runner.proofs.CycleEvents.{bytes_both}
use Rattle.window_runner.proofs.Telling.{tells_then, tells_cut}
use Rattle.window_runner.proofs.events.tell_bytes.Goals as goal

pub returns-in-Ok : goal.returns-in-Ok
returns-in-Ok g c =
    tells_then _ _ _ _ _ _ _ _ _ _ _ _ _ g.met.T.Tape.takes_in_turn (bytes_both c.args.cycle c.args.bytes.now c.told-bytes)
    c.in-Ok.ensures c.tell_byte-in-Ok.ensures

pub returns-in-Err : goal.returns-in-Err
returns-in-Err g c = tells_cut _ _ _ _ _ _ _ _ _ _ (bytes_both c.args.cycle c.args.bytes.now c.told-bytes) c.in-Err.ensures
