use Rattle.core_laws.proofs.GivenBack.{a_return_gives_back_what_an_entry_found}
use Rattle.core_laws.proofs.a_return_gives_back_what_an_entry_found.Goals as goal

pub returns : goal.returns
returns c = a_return_gives_back_what_an_entry_found
