-- The counter of edges: its state is how many changes there were, and how many of them were rises. The project's own.
use Rattle.std.specs.Prelude.{ℕ, Bool, true, false, List, [], ◌∷◌, ◌++◌, codes, decimal}
use Rattle.board_parts.specs.Probe.{ProbeMeaning, one_more}

abbrev pub counted : ℕ → Bool → List ℕ → List ℕ
counted cycle true (edges ∷ rises ∷ []) = one_more edges ∷ one_more rises ∷ []
counted cycle false (edges ∷ rises ∷ []) = one_more edges ∷ rises ∷ []
counted cycle level _ = []

abbrev pub counts_text : List ℕ → List ℕ
counts_text (edges ∷ rises ∷ []) = codes "edges " ++ decimal edges ++ codes " rises " ++ decimal rises
counts_text _ = []

abbrev pub edge_counter : ProbeMeaning
edge_counter = record { aimed = λ pin. 0 ∷ 0 ∷ []; next = counted; text = counts_text }
