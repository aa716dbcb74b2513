use Rattle.pico_top.proofs.Shared.{length}
use Rattle.pico_top.proofs.tell.+send_probes.Given as goal

-- fewer probes are left
abbrev pub decreases-send_probes : goal.decreases-send_probes
decreases-send_probes g l = length l.probes.now
