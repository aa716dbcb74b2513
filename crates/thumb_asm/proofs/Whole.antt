-- The image of a source, from what its passes give.
use Rattle.std.proofs.Common.{◌≡◌, ℕ, List, [], Option, Some, None, Result, Ok, Err, ◌≢◌, sym, ap, subst, ◌∙◌}
use Rattle.std.specs.Prelude.{MatchResult}
use Rattle.std.specs.Str.Lines.{lines}
use Rattle.uf2_image.specs.declared.parts.Image.{Image}
use Rattle.thumb_asm.specs.declared.fault.ThumbFault.{ThumbFault}
use Rattle.thumb_asm.specs.declared.fault.ThumbFault.TheVariants.{Char, Memory}
use Rattle.source_text.specs.Lines.{first_that}
use Rattle.thumb_asm.specs.Lines.{has_other_char, is_misfit}
use Rattle.thumb_asm.specs.Source.{Names, IsMisfitAt, bytes_from, bytes_of, image_of_bytes, image_of_source, image_or_nothing, names_of, unless_misfit, unless_other_char}

pub char_fault : (text : List ℕ) (n : ℕ) → first_that has_other_char 1 (lines text) ≡ Some n → image_of_source text ≡ Err (Char n)
unfolding image_of_source
char_fault text n h = ap (λ other. unless_other_char other (unless_misfit (first_that is_misfit 1 (lines text)) (image_of_bytes (bytes_of text)))) h

no_char : (text : List ℕ) → first_that has_other_char 1 (lines text) ≡ None →
    image_of_source text ≡ unless_misfit (first_that is_misfit 1 (lines text)) (image_of_bytes (bytes_of text))
unfolding image_of_source
no_char text h = ap (λ other. unless_other_char other (unless_misfit (first_that is_misfit 1 (lines text)) (image_of_bytes (bytes_of text)))) h

at_misfit : (fault : ThumbFault) (misfit : Option ℕ) (answer : Result Image ThumbFault) → IsMisfitAt fault misfit → unless_misfit misfit answer ≡ Err fault
at_misfit fault (Some n) answer h = ap (λ (f : ThumbFault). Err f) (sym h)
at_misfit fault None answer h = absurd h

pub misfit_fault : (text : List ℕ) (fault : ThumbFault) → first_that has_other_char 1 (lines text) ≡ None →
    IsMisfitAt fault (first_that is_misfit 1 (lines text)) → image_of_source text ≡ Err fault
misfit_fault text fault h i = no_char text h ∙ at_misfit fault (first_that is_misfit 1 (lines text)) (image_of_bytes (bytes_of text)) i

placed : (text : List ℕ) (names : Names) (bytes : Result (List ℕ) ThumbFault) → first_that has_other_char 1 (lines text) ≡ None →
    first_that is_misfit 1 (lines text) ≡ None → names ≡ names_of text → bytes_from names 1 0x2000_0000 [] (lines text) ≡ bytes →
    image_of_source text ≡ image_of_bytes bytes
placed text names bytes h i j k =
    no_char text h ∙ ap (λ misfit. unless_misfit misfit (image_of_bytes (bytes_of text))) i
    ∙ ap image_of_bytes (ap (λ names. bytes_from names 1 0x2000_0000 [] (lines text)) (sym j) ∙ k)

pub line_fault : (text : List ℕ) (names : Names) (fault : ThumbFault) → first_that has_other_char 1 (lines text) ≡ None →
    first_that is_misfit 1 (lines text) ≡ None → names ≡ names_of text → bytes_from names 1 0x2000_0000 [] (lines text) ≡ Err fault →
    image_of_source text ≡ Err fault
line_fault text names fault h i j k = placed text names (Err fault) h i j k

pub made : (text : List ℕ) (names : Names) (bytes : List ℕ) (result : Result Image ThumbFault) → first_that has_other_char 1 (lines text) ≡ None →
    first_that is_misfit 1 (lines text) ≡ None → names ≡ names_of text → bytes_from names 1 0x2000_0000 [] (lines text) ≡ Ok bytes →
    MatchResult result (λ image. image_or_nothing bytes ≡ Ok image) (λ fault. fault ≢ Memory → image_or_nothing bytes ≡ Err fault) →
    MatchResult result (λ image. image_of_source text ≡ Ok image) (λ fault. fault ≢ Memory → image_of_source text ≡ Err fault)
made text names bytes result h i j k m =
    let whole : image_of_source text ≡ image_or_nothing bytes = placed text names (Ok bytes) h i j k in
    subst (λ answer. MatchResult result (λ image. answer ≡ Ok image) (λ fault. fault ≢ Memory → answer ≡ Err fault)) (sym whole) m
