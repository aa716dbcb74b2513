-- Words of a line, and words of SRAM.
use Rattle.reverse_debug.proofs.Shared.{Bad, List, addresses, and_parts, ap, are_words, arith, cases_lt, command_by, command_of, false, inl, inr, is_ram, leb-true, length, list_all, nat_le, nat_tests, place_of, refl, suc, sym, true, words, zero, ℕ, ◌%◌, ◌&&◌, ◌*◌, ◌+◌, ◌-◌, ◌<◌, ◌==◌, ◌^◌, ◌∙◌, ◌∷◌, ◌≡◌, ◌≤◌}
use Rattle.source_text.proofs.LinesOf.{past}

bad_by : (a b c q : List ℕ) (qs : List (List ℕ)) → command_by (a ∷ b ∷ c ∷ q ∷ qs) ≡ Bad
unfolding command_by
bad_by a b c q qs = refl

-- no command has four words
pub four_words : (line name operands first rest word more : List ℕ) → words line ≡ name ∷ words operands → words operands ≡ first ∷ words rest → words rest ≡ word ∷ words more → command_by (words line) ≡ Bad
four_words line name operands first rest word more h i j =
    ap command_by (h ∙ ap (λ ws. name ∷ ws) (i ∙ ap (λ ws. first ∷ ws) j))
    ∙ past (λ ws. command_by (name ∷ first ∷ word ∷ ws)) Bad _ more (bad_by name first word)

pub many_words : (line name operands first rest word more : List ℕ) → length line ≤ 255 → words line ≡ name ∷ words operands → words operands ≡ first ∷ words rest → words rest ≡ word ∷ words more → Bad ≡ command_of line
unfolding command_of
many_words line name operands first rest word more le h i j =
    let short : nat_le (length line) 255 ≡ true = grind (arith, nat_tests) in
    rw short (sym (four_words line name operands first rest word more h i j))

-- ---- SRAM lies below 22000000

none_high : (a : ℕ) → 0x22000000 ≤ a → is_ram (place_of a) ≡ false
unfolding place_of
none_high a le = grind (arith, nat_tests, le)

pub ram_is_low : (a : ℕ) → is_ram (place_of a) ≡ true → a < 0x22000000
ram_is_low a is = elim (cases_lt a 0x22000000) [
  | inl lt ↦ lt
  | inr le ↦ absurd (let no = none_high a le in cc)
]

-- ---- words one after another

pub addresses_on : (next left : ℕ) → 0 < left → addresses next left ≡ next ∷ addresses (next + 4) (left - 1)
addresses_on next zero some = absurd (omega arith)
addresses_on next (suc left) some = let e : suc left - 1 ≡ left = omega arith in rw e refl

pub words_on : (next left : ℕ) → 0 < left → is_ram (place_of next) ≡ true → list_all (λ a. is_ram (place_of a)) (addresses next left) ≡ list_all (λ a. is_ram (place_of a)) (addresses (next + 4) (left - 1))
words_on next left some is = ap (list_all (λ a. is_ram (place_of a))) (addresses_on next left some) ∙ rw is refl

-- there are 1 to 16 of them, and all are in SRAM
in_ram : (address count : ℕ) → are_words address count ≡ true → (0 < count) × (count ≤ 16) × (list_all (λ a. is_ram (place_of a)) (addresses address count) ≡ true)
unfolding are_words
in_ram address count h =
    let all = and_parts (nat_le 1 count && nat_le count 16 && address % 4 == 0) _ h in
    let sizes = and_parts (nat_le 1 count) (nat_le count 16) (and_parts (nat_le 1 count && nat_le count 16) (address % 4 == 0) all.0).0 in
    (leb-true 1 count sizes.0, leb-true count 16 sizes.1, all.1)

pub few_words : (address count : ℕ) → are_words address count ≡ true → count ≤ 16
few_words address count h = (in_ram address count h).1

-- and they lie below 2 ^ 32
pub low_words : (address count : ℕ) → are_words address count ≡ true → address + 4 * count < 2 ^ 32
low_words address count h =
    let are = in_ram address count h in
    let first = sym (ap (list_all (λ a. is_ram (place_of a))) (addresses_on address count are.0)) ∙ are.2 in
    let low : address < 0x22000000 = ram_is_low address (and_parts (is_ram (place_of address)) _ first).0 in
    omega (arith, are.1, low)
