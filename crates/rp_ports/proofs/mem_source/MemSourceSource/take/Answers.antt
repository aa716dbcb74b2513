use Rattle.std.proofs.Common.{ap, drop, take, arith, ◌∙◌}
use Rattle.rp_ports.proofs.Pieces.{gives_next}
use Rattle.rp_ports.proofs.mem_source.MemSourceSource.take.Goals as goal

pub returns-clause-content : goal.returns-clause-content
returns-clause-content c =
    let n = c.give-count.result in
    let h = c.give-count.ensures in
    let rest = c.split_at.ensures.back ∙ ap (drop c.args.self.now.taken) c.deref-2.ensures.value in
    (omega (arith, h.count, c.split_at.ensures.back_len, c.deref-2.ensures.len, c.len.ensures, c.if-self-len.false, c.requires.room), omega (arith, h.count, h.kept), gives_next c.args.self.now.bytes.items c.give-count.new.buf c.args.self.now.taken n (h.front ∙ ap (take n) rest))
