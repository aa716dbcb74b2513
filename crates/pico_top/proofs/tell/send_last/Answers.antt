use Rattle.pico_top.proofs.Shared.{sends_cut, sends_part, sends_then}
use Rattle.pico_top.proofs.tell.send_last.Goals as goal

pub returns-in_err-send_registers : goal.returns-in_err-send_registers
returns-in_err-send_registers g c =
    let cut = sends_then _ (rw c.number.ensures at c.in_ok-send_stop.ensures) (rw c.registers.ensures at c.in_err-send_registers.ensures) in
    sends_cut {T = Unit {0}} _ c.from_residual-in_err-send_registers.ensures.1 (sends_part {T = Unit {0}} _ (sends_part {T = Unit {0}} _ (sends_part {T = Unit {0}} _ cut)))

pub returns-in_err-send_registers-2 : goal.returns-in_err-send_registers-2
returns-in_err-send_registers-2 g c =
    let first = sends_then _ (rw c.number.ensures at c.in_ok-send_stop.ensures) (rw c.registers.ensures at c.in_ok-send_registers.ensures) in
    let cut = sends_then _ first (rw c.registers-2.ensures at c.in_err-send_registers-2.ensures) in
    sends_cut {T = Unit {0}} _ c.from_residual-in_err-send_registers-2.ensures.1 (sends_part {T = Unit {0}} _ (sends_part {T = Unit {0}} _ cut))

pub returns-in_err-send_probes : goal.returns-in_err-send_probes
returns-in_err-send_probes g c =
    let first = sends_then _ (rw c.number.ensures at c.in_ok-send_stop.ensures) (rw c.registers.ensures at c.in_ok-send_registers.ensures) in
    let second = sends_then _ first (rw c.registers-2.ensures at c.in_ok-send_registers-2.ensures) in
    sends_cut {T = Unit {0}} _ c.from_residual-in_err-send_probes.ensures.1 (sends_part {T = Unit {0}} _ (sends_then _ second c.in_err-send_probes.ensures))

pub returns : goal.returns
returns g c =
    let first = sends_then _ (rw c.number.ensures at c.in_ok-send_stop.ensures) (rw c.registers.ensures at c.in_ok-send_registers.ensures) in
    let second = sends_then _ first (rw c.registers-2.ensures at c.in_ok-send_registers-2.ensures) in
    sends_then _ (sends_then _ second c.in_ok-send_probes.ensures) c.send_counts.ensures
