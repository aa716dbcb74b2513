-- What a shelf of files holds, and what a load of one of them may answer.
use Rattle.std.specs.Prelude.{◌≡◌, ℕ, ◌<◌, ◌≤◌, List, [], ◌∷◌, ◌++◌, length, Option, Some, IfSome, IsSomeAnd}
use Rattle.rp_ports.specs.declared.shelf.Loaded.{Loaded}
use Rattle.rp_ports.specs.declared.shelf.Loaded.TheVariants.{Done, Large, Failed, Memory}

-- the bytes of each file by its name; a name that is not held has none
abbrev pub Files : Type 0
Files = List ℕ → Option (List ℕ)

-- what the answer says of the file, where the shelf tells its files: the bytes that Done leaves are the file's and at
-- most limit of them, Large names the length of a longer file
abbrev pub Answers : Option Files → List ℕ → ℕ → Loaded → List ℕ → Type 0
Answers files name limit Done bytes = (length bytes ≤ limit) × IfSome files (λ f. f name ≡ Some bytes)
Answers files name limit (Large n) bytes = (limit < n) × IfSome files (λ f. IsSomeAnd (f name) (λ held. length held ≡ n))
Answers files name limit Failed bytes = Unit {0}
Answers files name limit Memory bytes = Unit {0}

-- the list of the names whose loads failed: it gets the name at Failed, and no other answer changes it
abbrev pub failed_after : List (List ℕ) → List ℕ → Loaded → List (List ℕ)
failed_after failed name Failed = failed ++ name ∷ []
failed_after failed name Done = failed
failed_after failed name (Large n) = failed
failed_after failed name Memory = failed
