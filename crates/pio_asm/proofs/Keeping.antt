-- What accepted lines keep: the names of the whole, its bounds, and values for all names.
use Rattle.std.proofs.Common.{◌≡◌, ℕ, ℤ, ◌+◌, ◌-◌, ◌<◌, ◌≤◌, List, [], ◌∷◌, ◌++◌, length, Bool, true, false, cond, Option, None, Some, refl, sym, ap, subst, ◌∙◌, arith, inl, inr, length-append}
use Rattle.pio_asm.proofs.Shared.{neither, Ok, Err, if◌then◌else◌, is_some, is_none, nat_le, unwrap_or, ◌==◌, ◌&&◌, pos, negsuc, bit_number, bit, SideConfig, SideSetStatement as SideSet, WrapTarget, Wrap, nat_tests, Statement, Define, WordStatement as Word, InstructionStatement, Line, Evaluated, Member, Building, put, Names, AllValued, AreKept, is_kept, evaluated, number_within, instruction_in, definition_value, fitting, is_label_twice, is_member, is_seen, label_value, line_step, misfits, names_of, with_definition, with_label, with_name, word_member, lines_from, lines_of, nothing_built}
use Rattle.std.specs.declared.cmp.Ordering.{Ordering}
use Rattle.std.specs.declared.cmp.Ordering.TheVariants.{Less, Equal, Greater}
use Rattle.std.specs.Ordering.{match_ordering, nat_cmp}
use Rattle.std.specs.Cmp.Lexicographic.{slice_cmp}
use Rattle.pio_asm.proofs.Accepted.{IsSound, accepted, faults, made, result_cases, same_ok}
use Rattle.pio_asm.proofs.Valued.{IsValued, evaluated-valued}
use Rattle.pio_asm.proofs.Planning.{instruction-kept}

kept-push : (ms : List Member) (m : Member) → AreKept ms → is_kept m ≡ true → AreKept (ms ++ m ∷ [])
kept-push [] m h k = (k, tt)
kept-push (n ∷ ms) m h k = (h.0, kept-push ms m h.1 k)

placed-valued : (order : Ordering) (name : List ℕ) (value : Option ℤ) (s : List ℕ × Option ℤ) (ss more : Names) → AllValued (s ∷ ss) → is_some value ≡ true → AllValued more
    → AllValued (match_ordering order ((name, value) ∷ s ∷ ss) ((s.0, value) ∷ ss) (s ∷ more))
placed-valued Less name value s ss more h k m = (k, h)
placed-valued Equal name value s ss more h k m = (k, h.1)
placed-valued Greater name value s ss more h k m = (h.0, m)

valued-put : (names : Names) (name : List ℕ) (value : Option ℤ) → AllValued names → is_some value ≡ true → AllValued (put name value names)
valued-put [] name value h k = (k, tt)
valued-put (s ∷ ss) name value h k = placed-valued (slice_cmp nat_cmp name s.0) name value s ss (put name value ss) h k (valued-put ss name value h.1 k)

length-push : (ms : List Member) (m : Member) → length (ms ++ m ∷ []) ≡ length ms + 1
length-push ms m = length-append ms (m ∷ [])

either_valued : (b : Bool) (seen next : Names) → AllValued seen → AllValued next → AllValued (cond b seen next)
either_valued true seen next h k = h
either_valued false seen next h k = k

with_name-valued : (globals seen : Names) (name : List ℕ) (value : Option ℤ) → AllValued seen → is_some value ≡ true → AllValued (with_name globals seen name value)
with_name-valued globals seen name value h k = either_valued (is_seen seen globals name) seen (put name value seen) h (valued-put seen name value h k)

label_value-some : (count : ℕ) → count ≤ 32 → is_some (label_value count) ≡ true
label_value-some count le = let e : nat_le count 4294967295 ≡ true = grind (arith, nat_tests) in rw e refl

with_label-valued : (globals : Names) (count : ℕ) (label : Option (List ℕ)) (seen : Names) → count ≤ 32 → AllValued seen → AllValued (with_label globals count label seen)
with_label-valued globals count None seen le h = h
with_label-valued globals count (Some label) seen le h = with_name-valued globals seen label (label_value count) h (label_value-some count le)

definition-some : (e : Evaluated) → IsValued e → e.unknown ≡ false → e.outside ≡ false → is_some (definition_value e) ≡ true
definition-some e h u o = let v : definition_value e ≡ e.value = rw (u, o) refl in ap is_some v ∙ h u o

-- the wrap's addresses are such of the whole, and the side-set has at most five bits
pub record IsBounded (total : ℕ) (b : Building) : Type 0 where
  pub target : (t : ℕ) → b.target ≡ Some t → t < total
  pub wrap : (w : ℕ) → b.wrap ≡ Some w → w < length b.code
  pub side : (c : SideConfig) → b.side ≡ Some c → c.count + bit_number c.opt ≤ 5

some_is : {X : Type 0} (x y : X) → Some x ≡ Some y → y ≡ x
some_is x y e = cc

-- a field that fits lies in its range
fits_within : (high : ℕ) (n : Option ℕ) (z : ℤ) → n ≡ number_within 0 high z → unwrap_or n 0 ≤ high
fits_within high None z e = omega arith
fits_within high (Some n) (pos m) e = some_within (nat_le 0 m && nat_le m high) n m e (λ h. grind (arith, nat_tests, h))
  where
    some_within : (b : Bool) (n m : ℕ) → Some n ≡ (if b then Some m else None) → (b ≡ true → m ≤ high) → n ≤ high
    some_within true n m e le = let same : n ≡ m = cc in subst (λ (x : ℕ). x ≤ high) (sym same) (le refl)
    some_within false n m e le = absurd (cc e)
fits_within high (Some n) (negsuc m) e = absurd (cc e)

fitting_within : (high : ℕ) (value : Option ℤ) → unwrap_or (fitting 0 high value) 0 ≤ high
fitting_within high None = omega arith
fitting_within high (Some z) = fits_within high (number_within 0 high z) z refl

bits_of_opt : (opt : Bool) → bit opt ≡ bit_number opt
bits_of_opt true = refl
bits_of_opt false = refl

opt_small : (opt : Bool) → bit opt ≤ 5
opt_small true = omega arith
opt_small false = omega arith

side_fits : (opt pindirs : Bool) (value : Option ℤ) (c : SideConfig) → Some (record { count = unwrap_or (fitting 0 (5 - bit opt) value) 0; opt = opt; pindirs = pindirs }) ≡ Some c → c.count + bit_number c.opt ≤ 5
side_fits opt pindirs value c e =
    let config : SideConfig = record { count = unwrap_or (fitting 0 (5 - bit opt) value) 0; opt = opt; pindirs = pindirs } in
    let same : c ≡ config = some_is config c e in
    let le : config.count ≤ 5 - bit opt = fitting_within (5 - bit opt) value in
    let small : bit opt ≤ 5 = opt_small opt in
    let here : config.count + bit_number config.opt ≤ 5 = omega (arith, le, small, bits_of_opt opt) in
    subst (λ (x : SideConfig). x.count + bit_number x.opt ≤ 5) (sym same) here

below_total : (total n : ℕ) → nat_le total n ≡ false → n < total
below_total total n h = grind (arith, nat_tests, h)

not_zero : (n : ℕ) → (n == 0) ≡ false → n - 1 < n
not_zero n h = grind (arith, nat_tests, h)

-- what an accepted line leaves
record Stepped (whole globals : Names) (total : ℕ) (statement : Option Statement) (b next : Building) : Type 0 where
  seen : next.seen ≡ with_definition globals statement b.seen
  count : length next.code ≡ (if is_member statement then length b.code + 1 else length b.code)
  short : length b.code ≤ 32 → length next.code ≤ 32
  bounded : IsBounded total b → IsBounded total next
  valued : AllValued globals → AllValued b.seen → AllValued next.seen
  kept : AllValued whole → AllValued globals → AllValued b.seen → AreKept b.code → AreKept next.code

same_names : (whole globals : Names) (total : ℕ) (statement : Option Statement) (b n : Building) → n.seen ≡ with_definition globals statement b.seen → n.seen ≡ b.seen → n.code ≡ b.code → is_member statement ≡ false
    → (IsBounded total b → IsBounded total n) → Stepped whole globals total statement b n
same_names whole globals total statement b n d s c m bounds = record {
  seen = d;
  count = rw m (ap length c);
  short = λ le. rw c le;
  bounded = bounds;
  valued = λ g h. rw s h;
  kept = λ w g h k. rw c k;
}

word-kept : (value : Option ℤ) → is_some value ≡ true → misfits 0 65535 value ≡ false → is_kept (word_member (fitting 0 65535 value)) ≡ true
word-kept None h m = cc
word-kept (Some z) h m = number-kept (number_within 0 65535 z) m
  where
    number-kept : (n : Option ℕ) → is_none n ≡ false → is_kept (word_member n) ≡ true
    number-kept None e = cc
    number-kept (Some x) e = refl

room : (n : ℕ) → nat_le 32 n ≡ false → n + 1 ≤ 32
room n h = grind (arith, nat_tests)

pushed : (whole globals : Names) (total : ℕ) (statement : Option Statement) (b : Building) (m : Member) → with_definition globals statement b.seen ≡ b.seen → is_member statement ≡ true → nat_le 32 (length b.code) ≡ false
    → (AllValued whole → AllValued globals → AllValued b.seen → is_kept m ≡ true) → Stepped whole globals total statement b (record b { code = b.code ++ m ∷ [] })
pushed whole globals total statement b m d i l k = record {
  seen = sym d;
  count = rw i (length-push b.code m);
  short = λ le. rw (length-push b.code m) (room (length b.code) l);
  bounded = λ k. record { target = k.target; wrap = λ x e. let lt : x < length b.code = k.wrap x e in omega (arith, lt, length-push b.code m); side = k.side };
  valued = λ g h. h;
  kept = λ w g h c. kept-push b.code m c (k w g h);
}

stepped : (whole globals : Names) (total : ℕ) (twice : Bool) (statement : Option Statement) (b : Building) → IsSound (faults whole globals total twice statement b) → Stepped whole globals total statement b (made whole globals statement b)
stepped whole globals total twice (Some (Define name value)) b sound = record {
  seen = refl;
  count = refl;
  short = λ le. le;
  bounded = λ k. record { target = k.target; wrap = k.wrap; side = k.side };
  valued = λ g s. with_name-valued globals b.seen name (definition_value (evaluated b.seen globals value)) s (definition-some (evaluated b.seen globals value) (evaluated-valued b.seen globals value s g) sound.unknown sound.range);
  kept = λ w g s k. k;
}
stepped whole globals total twice (Some (SideSet count opt pindirs)) b sound = same_names whole globals total (Some (SideSet count opt pindirs)) b (made whole globals (Some (SideSet count opt pindirs)) b) refl refl refl refl
    (λ k. record { target = k.target; wrap = k.wrap; side = λ c is. side_fits opt pindirs (evaluated b.seen globals count).value c is })
stepped whole globals total twice (Some WrapTarget) b sound =
    let low : length b.code < total = below_total total (length b.code) (neither (is_some b.target) (nat_le total (length b.code)) sound.wrap).1 in
    same_names whole globals total (Some WrapTarget) b (made whole globals (Some WrapTarget) b) refl refl refl refl
    (λ k. record { target = λ x is. let same : x ≡ length b.code = some_is (length b.code) x is in omega (arith, same, low); wrap = k.wrap; side = k.side })
stepped whole globals total twice (Some Wrap) b sound =
    let low : length b.code - 1 < length b.code = not_zero (length b.code) (neither (is_some b.wrap) (length b.code == 0) sound.wrap).1 in
    same_names whole globals total (Some Wrap) b (made whole globals (Some Wrap) b) refl refl refl refl
    (λ k. record { target = k.target; wrap = λ x is. let same : x ≡ length b.code - 1 = some_is (length b.code - 1) x is in omega (arith, same, low); side = k.side })
stepped whole globals total twice (Some (Word value)) b sound =
    let r = neither (evaluated b.seen globals value).outside (misfits 0 65535 (evaluated b.seen globals value).value) sound.range in
    pushed whole globals total (Some (Word value)) b (word_member (fitting 0 65535 (evaluated b.seen globals value).value)) refl refl sound.too_long
    (λ w g s. word-kept (evaluated b.seen globals value).value (evaluated-valued b.seen globals value s g sound.unknown r.0) r.1)
stepped whole globals total twice (Some (InstructionStatement instruction)) b sound =
    pushed whole globals total (Some (InstructionStatement instruction)) b (instruction_in whole globals b.side instruction).member refl refl sound.too_long
    (λ w g s. instruction-kept whole globals b.side instruction w g sound.unknown sound.range)
stepped whole globals total twice statement b sound = same_names whole globals total statement b (made whole globals statement b) refl refl refl refl (λ k. record { target = k.target; wrap = k.wrap; side = k.side })

abbrev labelled : Names → Line → Building → Building
labelled globals line b = record b { seen = with_label globals (length b.code) line.label b.seen }

line_stepped : (whole globals : Names) (total : ℕ) (line : Line) (b next : Building) → line_step whole globals total line b ≡ Ok next → Stepped whole globals total line.statement (labelled globals line b) next
line_stepped whole globals total line b next h =
    let is = accepted whole globals total line.number (is_label_twice globals line.label b.seen) line.statement (labelled globals line b) next h in
    subst (λ (next : Building). Stepped whole globals total line.statement (labelled globals line b) next) (sym is.1) (stepped whole globals total (is_label_twice globals line.label b.seen) line.statement (labelled globals line b) is.0)

-- what accepted lines leave: the names of the whole, each with a value, its bounds, and no member that uses a name without one
pub record Built (whole globals : Names) (total : ℕ) (lines : List Line) (b final : Building) : Type 0 where
  pub names : names_of globals b.seen (length b.code) lines ≡ (final.seen, length final.code)
  pub bounded : IsBounded total b → IsBounded total final
  pub valued : AllValued globals → AllValued b.seen → length b.code ≤ 32 → AllValued final.seen
  pub kept : AllValued whole → AllValued globals → AllValued b.seen → length b.code ≤ 32 → AreKept b.code → AreKept final.code

after_line : (whole globals : Names) (total : ℕ) (line : Line) (lines : List Line) (b next final : Building) → Stepped whole globals total line.statement (labelled globals line b) next → Built whole globals total lines next final
    → Built whole globals total (line ∷ lines) b final
after_line whole globals total line lines b next final s r =
    let same : names_of globals b.seen (length b.code) (line ∷ lines) ≡ names_of globals next.seen (length next.code) lines = rw (s.seen, s.count) refl in
    record {
      names = same ∙ r.names;
      bounded = λ k. r.bounded (s.bounded (record { target = k.target; wrap = k.wrap; side = k.side }));
      valued = λ g h le. r.valued g (s.valued g (with_label-valued globals (length b.code) line.label b.seen le h)) (s.short le);
      kept = λ w g h le k.
          let labels : AllValued (labelled globals line b).seen = with_label-valued globals (length b.code) line.label b.seen le h in
          r.kept w g (s.valued g labels) (s.short le) (s.kept w g labels k);
    }

pub built : (whole globals : Names) (total : ℕ) (lines : List Line) (b final : Building) → lines_from whole globals total lines b ≡ Ok final → Built whole globals total lines b final
built whole globals total [] b final h =
    let e : final ≡ b = same_ok b final (lines_from whole globals total [] b) refl h in
    record { names = ap (λ (x : Building). (x.seen, length x.code)) (sym e); bounded = λ k. subst (λ (x : Building). IsBounded total x) (sym e) k; valued = λ g s le. rw e s; kept = λ w g s le k. rw e k }
built whole globals total (line ∷ lines) b final h = elim (result_cases (line_step whole globals total line b)) [
  | inl ok ↦
      let next = ok.0 in
      let g : lines_from whole globals total (line ∷ lines) b ≡ lines_from whole globals total lines next = rw ok.1 refl in
      after_line whole globals total line lines b next final (line_stepped whole globals total line b next ok.1) (built whole globals total lines next final (sym g ∙ h))
  | inr bad ↦ let g : lines_from whole globals total (line ∷ lines) b ≡ Err bad.0 = rw bad.1 refl in let i : Err bad.0 ≡ Ok final = sym g ∙ h in cc
]

-- the names before the first program have values
pub names_valued : (whole globals : Names) (total : ℕ) (lines : List Line) (final : Building) → lines_of globals lines (whole, total) ≡ Ok final → AllValued globals → AllValued final.seen
names_valued whole globals total lines final h g = (built whole globals total lines nothing_built final h).valued g tt (omega arith)

-- no accepted program holds a lost member
pub program_kept : (whole globals : Names) (total : ℕ) (lines : List Line) (final : Building) → (whole, total) ≡ names_of globals [] 0 lines → lines_of globals lines (whole, total) ≡ Ok final → AllValued globals → AreKept final.code
program_kept whole globals total lines final names h g =
    let r = built whole globals total lines nothing_built final h in
    let values : AllValued final.seen = r.valued g tt (omega arith) in
    let all : AllValued whole = subst AllValued (ap (λ (both : Names × ℕ). both.0) (sym r.names ∙ sym names)) values in
    r.kept all g tt (omega arith) tt
