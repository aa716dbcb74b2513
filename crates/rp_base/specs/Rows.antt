-- A block of registers as a manual lists it: a row a register, in the order of their offsets.
use Prim.Native.String.{String}
use lib.Text.{eqt}
use Rattle.std.specs.Prelude.{◌≡◌, ◌≢◌, ℕ, ◌+◌, ◌-◌, ◌*◌, ◌/◌, ◌%◌, ◌<◌, Bool, true, false, ◌&&◌, ◌==◌, nat_le, nat_lt, if◌then◌else◌, List, [], ◌∷◌, Option, Some, None, is_some, All}
use Rattle.rp_base.specs.declared.resettable.Resettable.{Resettable}
use Rattle.rp_base.specs.Held.{unless_held}
use Rattle.rp_base.specs.Resettable.{unless_held_becomes}

-- ---- where a row stands, in bytes after the base of the block

-- at an offset, or so many times, from an offset on and a stride apart
pub data Place : Type 0 where
  At : (offset : ℕ) → Place
  Each : (first count stride : ℕ) → Place

abbrev pub count_of : Place → ℕ
count_of (At offset) = 1
count_of (Each first count stride) = count

abbrev pub first_of : Place → ℕ
first_of (At offset) = offset
first_of (Each first count stride) = first

-- the offset of the one of a number
abbrev pub offset_at : Place → ℕ → ℕ
offset_at (At offset) n = offset
offset_at (Each first count stride) n = first + n * stride

-- one of them has this offset, and its number
abbrev pub is_at : Place → ℕ → Bool
is_at (At offset) at = at == offset
is_at (Each first count stride) at = nat_le first at && (nat_lt at (first + count * stride) && (at - first) % stride == 0)

abbrev pub number_at : Place → ℕ → ℕ
number_at (At offset) at = 0
number_at (Each first count stride) at = (at - first) / stride

-- ---- rows

-- a register, or several alike, by their numbers, of a block with states S; V is what a read sees beside them
pub record Row (V S : Type 0) : Type 0 where
  pub place : Place
  -- the manual's name, with n for the number
  pub name : String
  -- what a read gives, what a read does, and what a write of a word does
  pub reads : ℕ → V → S → ℕ
  pub read_does : ℕ → S → S
  pub write_does : ℕ → ℕ → S → S

abbrev pub register : {V S : Type 0} → ℕ → String → (V → S → ℕ) → (S → S) → (ℕ → S → S) → Row V S
register offset name reads read write =
    record { place = At offset; name = name; reads = λ n. reads; read_does = λ n. read; write_does = λ n. write }

-- a read does nothing
abbrev pub read_write : {V S : Type 0} → ℕ → String → (S → ℕ) → (ℕ → S → S) → Row V S
read_write offset name reads write = register offset name (λ seen. reads) (λ s. s) write

-- a write does nothing
abbrev pub read_acts : {V S : Type 0} → ℕ → String → (S → ℕ) → (S → S) → Row V S
read_acts offset name reads read = register offset name (λ seen. reads) read (λ w s. s)

abbrev pub read_only : {V S : Type 0} → ℕ → String → (S → ℕ) → Row V S
read_only offset name reads = read_acts offset name reads (λ s. s)

-- what it reads as is seen
abbrev pub seen_only : {V S : Type 0} → ℕ → String → (V → S → ℕ) → Row V S
seen_only offset name reads = register offset name reads (λ s. s) (λ w s. s)

-- it reads as 0
abbrev pub write_only : {V S : Type 0} → ℕ → String → (ℕ → S → S) → Row V S
write_only offset name write = read_write offset name (λ s. 0) write

-- so many alike a stride apart, each by its number
abbrev pub repeated : {V S : Type 0} → ℕ → ℕ → (ℕ → Row V S) → Row V S
repeated count stride row = record {
  place = Each (first_of (row 0).place) count stride;
  name = (row 0).name;
  reads = λ n. (row n).reads 0;
  read_does = λ n. (row n).read_does 0;
  write_does = λ n. (row n).write_does 0;
}

-- ---- what the rows say of an offset

-- what is found of the first row that has an offset, and of its number, or where there is none
abbrev pub at_row : {V S A : Type 0} → A → (Row V S → ℕ → A) → List (Row V S) → ℕ → A
at_row none found [] offset = none
at_row none found (row ∷ rows) offset =
    if is_at row.place offset then found row (number_at row.place offset) else at_row none found rows offset

-- what the word at an offset reads as; None where there is none
abbrev pub word_at : {V S : Type 0} → List (Row V S) → V → ℕ → S → Option ℕ
word_at rows seen offset s = at_row None (λ row n. Some (row.reads n seen s)) rows offset

-- there is a word at an offset
abbrev pub has_row : {V S : Type 0} → List (Row V S) → ℕ → Bool
has_row rows offset = at_row false (λ row n. true) rows offset

-- what a read, or a write of a word, does; nothing where there is no such word
abbrev pub effect_at : {V S : Type 0} → List (Row V S) → ℕ → Option ℕ → S → S
effect_at rows offset None s = at_row s (λ row n. row.read_does n s) rows offset
effect_at rows offset (Some w) s = at_row s (λ row n. row.write_does n w s) rows offset

-- where the row with a name stands, and the first offset of it
abbrev pub place_in : {V S : Type 0} → List (Row V S) → String → Place
place_in [] name = At 0
place_in (row ∷ rows) name = if eqt name row.name then row.place else place_in rows name

abbrev pub offset_in : {V S : Type 0} → List (Row V S) → String → ℕ
offset_in rows name = first_of (place_in rows name)

-- ---- what it comes to

-- P of the offset of each register
abbrev pub EachOffset : {V S : Type 0} → (Row V S → ℕ → ℕ → Type 0) → List (Row V S) → Type 0
EachOffset P rows = All (λ row. (n : ℕ) → n < count_of row.place → P row n (offset_at row.place n)) rows

-- each register is what stands at its offset, and nothing stands at any other
pub record IsListed {V S : Type 0} (rows : List (Row V S)) : Type 0 where
  pub reads : EachOffset (λ row n offset. (seen : V) (s : S) → word_at rows seen offset s ≡ Some (row.reads n seen s)) rows
  pub read_does : EachOffset (λ row n offset. (s : S) → effect_at rows offset None s ≡ row.read_does n s) rows
  pub write_does : EachOffset (λ row n offset. (w : ℕ) (s : S) → effect_at rows offset (Some w) s ≡ row.write_does n w s) rows
  pub no_word : (at : ℕ) → EachOffset (λ row n offset. at ≢ offset) rows → (seen : V) (s : S) → word_at rows seen at s ≡ None
  pub no_effect : (at : ℕ) → EachOffset (λ row n offset. at ≢ offset) rows → (write : Option ℕ) (s : S) → effect_at rows at write s ≡ s
  pub is_word : (at : ℕ) (seen : V) (s : S) → has_row rows at ≡ is_some (word_at rows seen at s)

-- a block that is held reads as 0 where it has a row, and stays as it is
pub record IsHeld {V S : Type 0} (rows : List (Row V S)) : Type 0 where
  pub reads : (at : ℕ) (seen : V) (s : S) → unless_held true (word_at rows seen at s) ≡ (if has_row rows at then Some 0 else None)
  pub stays : (at : ℕ) (write : Option ℕ) (b : Resettable S) → b.held ≡ true → unless_held_becomes b (effect_at rows at write b.block) ≡ b
