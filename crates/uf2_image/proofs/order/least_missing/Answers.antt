use Rattle.std.proofs.Common.{◌≡◌, ◌∙◌, refl, arith, rules, not, Option, Some, None, ℕ}
use Rattle.std.proofs.lemmas.Iterator.{YieldsList-from_range}
use Rattle.std.proofs.lemmas.Iterator.Search.{find_from_yields_List}
use Rattle.std.specs.Option.{option_map}
use borrow.Author.Tests.{tests}
use Rattle.uf2_image.specs.Uf2.{has_number, least_missing}
use Rattle.uf2_image.proofs.order.least_missing.Goals as goal

same_option : (o : Option ℕ) → o ≡ option_map (λ x. x) o
same_option None = refl
same_option (Some x) = refl

pub returns : goal.returns
unfolding least_missing
returns c =
    same_option c.find.result
    ∙ find_from_yields_List (λ number. not (has_number c.args.kept.now.blocks.items number)) _ _ c.find.result c.find.ensures.ran (YieldsList-from_range 0 c.args.count c.args.count refl (omega arith)) (λ x b q k. search (rules, tests))
