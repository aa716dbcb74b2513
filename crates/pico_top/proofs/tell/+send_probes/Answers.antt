use Rattle.board_parts.proofs.Viewing.{viewed}
use Rattle.pico_top.proofs.Shared.{sends_then}
use Rattle.pico_top.proofs.tell.+send_probes.Goals as goal

pub returns-in_ok-send_probe-in-len1-up : goal.returns-in_ok-send_probe-in-len1-up
returns-in_ok-send_probe-in-len1-up g t c =
    rw (viewed _ c.args.probes.now c.probe-item.result c.in-len1-up.len_at_least c.probe-item.is) (sends_then _ c.in_ok-send_probe-in-len1-up.ensures c.send_probes.ensures)
