use Rattle.std.proofs.Common.{◌≡◌, ◌-◌, ◌++◌, ◌∷◌, [], ◌/◌, ◌%◌, suc, arith}
use Rattle.std.proofs.lemmas.Grind.{common_steps}
use Rattle.uf2_image.proofs.Steps.{pushes, code_at_end}
use Rattle.uf2_image.proofs.numbered.push_code.Goals as goal

pub loop-left-preserved : goal.loop-left-preserved
loop-left-preserved c =
    let h = c.instruction_of.result in
    let items : c.push-in-loop-left.new.self.items ≡ (c.loop-left.bytes.items ++ (h % 256) ∷ []) ++ (h / 256) ∷ [] = grind (arith, common_steps) in
    let one : c.loop-left.left ≡ suc (c.loop-left.left - 1) = omega (arith, c.loop-left-test.true) in
    rw items (pushes c.args.bytes.now.items c.args.count c.args.random.now.state c.loop-left.bytes.items c.loop-left.left
    (c.loop-left.left - 1) c.loop-left.random.state c.loop-left.random.increment h c.next_word.new.self c.next_word.result
    c.loop-left.invariant one c.next_word.ensures c.instruction_of.ensures)

pub returns : goal.returns
returns c = code_at_end c.loop-left.bytes.items _ c.loop-left.left c.loop-left.random.state (omega (arith, c.loop-left-test.false)) c.loop-left.invariant.whole
