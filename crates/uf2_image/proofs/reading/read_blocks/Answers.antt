use Rattle.std.proofs.lemmas.Result.{err_from_is_err_and}
use Rattle.uf2_image.proofs.Files.{fault_at, read_fault}
use Rattle.uf2_image.proofs.reading.read_blocks.Goals as goal

pub returns-in_err-read-clause-fault : goal.returns-in_err-read-clause-fault
returns-in_err-read-clause-fault c =
    let p = err_from_is_err_and c.from_residual-in_err-read.result c.from_residual-in_err-read.ensures.1 in
    rw (p.1, p.2) (λ other. fault_at c.args.bytes.now c.loop-index.index _ _ c.loop-index.invariant.2
    (read_fault c.args.bytes.now c.loop-index.index _ _ _ c.loop-index.invariant.1 c.new-block.ensures (c.in_err-read.ensures.fault other)) c.loop-index-test.true)
