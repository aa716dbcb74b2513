use Rattle.pico_top.proofs.Shared.{refl, sym, first_of, setting_of}
use Rattle.pico_top.proofs.Telling.{tells_heard, tells_cut, opened_cycle}
use Rattle.pico_top.proofs.tell.talk_into.Goals as goal

pub returns-in-Ok : goal.returns-in-Ok
returns-in-Ok g c =
    let w = setting_of c.args.debugging.script (g.X.Device.meaning c.args.device.now) c.args.debugging.limit in
    let s = c.args.debugging.session in
    rw (c.out-1.given.1 (sym c.in-Ok.ensures.same_sink))
    (tells_heard w (first_of s) _ _ _ _ _ _ _ _ _ c.in-Ok.way s.now.cycle (opened_cycle w s c.args.debugging.limit refl c.args.debugging.opened) c.in-Ok.ensures.hears c.close.ensures)

pub returns : goal.returns
returns g c =
    let w = setting_of c.args.debugging.script (g.X.Device.meaning c.args.device.now) c.args.debugging.limit in
    let s = c.args.debugging.session in
    rw (c.out-in-Err-1.given.1 (sym c.in-Err.ensures.same_sink))
    (tells_cut w (first_of s) _ _ _ _ _ _ _ c.in-Err.field-0 s.now.cycle (opened_cycle w s c.args.debugging.limit refl c.args.debugging.opened) c.in-Err.ensures.hears)
