-- SRAM by pages: 264 of 256 words each, in order of index.
use Rattle.std.specs.Prelude.{ℕ, ◌+◌, ◌*◌, List, ◌++◌, take, drop}

-- the words of a page
abbrev pub page_of : ℕ → List ℕ → List ℕ
page_of page sram = take 256 (drop (page * 256) sram)

-- SRAM after these words were put in the place of a page
abbrev pub with_page : ℕ → List ℕ → List ℕ → List ℕ
with_page page words sram = take (page * 256) sram ++ words ++ drop (page * 256 + 256) sram
