use Rattle.std.proofs.Common.{map, None, refl, inl}
use Rattle.std.specs.String.{string_bytes}
use Rattle.command_words.specs.declared.refusal.Refusal.TheVariants.{Words}
use Rattle.pico_top.proofs.Shared.{BadWords, Refused, Refusing, read_parts_fit}
use Rattle.pico_top.proofs.Causing.{causes, completes}
use Rattle.pico_top.proofs.Telling.{read_converses, unopened_converses}
use Rattle.pico_top.proofs.pico.Goals as goal

pub serve-requires-clause-fit : goal.serve-requires-clause-fit
serve-requires-clause-fit g c κs within = read_parts_fit _ _ _ (map string_bytes c.args.words.now, rw (c.deref.ensures.value, c.deref-2.ensures.value) at c.in-Ok.ensures)

pub serve_by-requires-clause-fit : goal.serve_by-requires-clause-fit
serve_by-requires-clause-fit g c κs within = read_parts_fit _ _ _ (map string_bytes c.args.words.now, rw (c.deref.ensures.value, c.deref-2.ensures.value) at c.in-Ok.ensures)

pub returns-in-Err-Words : goal.returns-in-Err-Words
returns-in-Err-Words g c =
    let none = rw (c.in-Err-Words.field-0-is, c.deref.ensures.value, c.deref-2.ensures.value) at c.in-Err-Words.ensures in
    let h = read_converses _ _ None _ _ _ none (unopened_converses _ _ _ (Refusing Words) _ (Refused BadWords, inl refl, refl, refl) refl refl c.refuse.ensures refl) in
    record { text = h; cause = causes _ _ _ _ _ h; complete = completes _ _ _ _ _ h }
