use Rattle.std.proofs.Common.{refl}
use Rattle.io_bank.specs.Routes.{routes_of}
use Rattle.io_bank.proofs.routes.Routes.of.Goals as goal

pub returns : goal.returns
unfolding routes_of
returns c =
    rw (c.pins_with.ensures, c.pins_with-2.ensures, c.pins_with-3.ensures, c.pins_with-4.ensures, c.pins_with-5.ensures, c.of.ensures, c.of-2.ensures, c.of-3.ensures, c.pins_with-6.ensures, c.pins_with-7.ensures, c.pins_with-8.ensures) refl
