use Rattle.std.proofs.Common.{◌≡◌, ℕ, ◌+◌, ◌-◌, ◌*◌, Bool, List, take, drop, ap, ◌∙◌, arith}
use Rattle.std.proofs.Math.Dec.{eqb}
use Rattle.std.specs.Bool.{Decides}
use Rattle.std.specs.Cmp.Lexicographic.{pointwise}
use Rattle.std.proofs.lemmas.Bool.Decides.{Decides-eqb}
use Rattle.std.proofs.lemmas.Slice.Eq.{slice_eq-Decides}
use Rattle.ram_banks.proofs.Ram.page_same.Goals as goal

page_is : (r : Bool) (first size : ℕ) (sram now words : List ℕ) → size ≡ 256 → sram ≡ now →
    r ≡ pointwise eqb (take size (drop first sram)) words → Decides r (take 256 (drop first now) ≡ words)
page_is r first size sram now words all is h =
    slice_eq-Decides Decides-eqb (take 256 (drop first now)) words r
    (h ∙ ap (λ n. pointwise eqb (take n (drop first sram)) words) all ∙ ap (λ l. pointwise eqb (take 256 (drop first l)) words) is)

pub returns : goal.returns
returns c =
    page_is c.eq.result (c.args.page * 256) (c.args.page * 256 + 256 - c.args.page * 256) c.deref.result.now c.args.self.now
    c.args.words.now (omega arith) (c.deref.ensures.value ∙ c.self.view_is) c.eq.ensures
