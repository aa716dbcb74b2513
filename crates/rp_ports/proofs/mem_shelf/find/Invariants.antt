use Rattle.std.proofs.Common.{◌≡◌, drop}
use Rattle.rp_ports.specs.MemShelf.{file_in}
use Rattle.rp_ports.proofs.mem_shelf.find.Given as goal

-- no file before this one has the name
abbrev pub invariant-loop-file : goal.invariant-loop-file
invariant-loop-file l = file_in l.held l.name ≡ file_in (drop l.file-index l.held) l.name
