-- The tokens that are read of a line are those of its characters by the grammar, and no others are.
use Rattle.std.proofs.Common.{◌≡◌, ℕ, ◌+◌, ◌-◌, ◌==◌, nat_lt, Bool, true, false, not, cond, ◌&&◌, ◌||◌, List, [], ◌∷◌, ◌++◌, length, take, drop, Option, Some, None, inl, inr, refl, sym, ap, subst, ◌∙◌, arith, append_assoc, append-nil, length-append, drop-drop}
use Rattle.std.specs.Prelude.{⊤, is_some, slice_range}
use Rattle.std.specs.Option.{option_map_or}
use Rattle.std.specs.List.{list_all}
use Rattle.std.proofs.lemmas.Bool.{cases_Bool, eqb-true}
use Rattle.std.proofs.lemmas.Bool.Decides.{nat_tests}
use Rattle.thumb_parse.specs.declared.token.Token.{Token}
use Rattle.thumb_parse.specs.declared.token.Token.TheVariants.{Comma, Colon, Hash, OpenBracket, CloseBracket, OpenBrace, CloseBrace, Bang, Plus, Minus}
use Rattle.thumb_parse.specs.Lexical.{AreTokens, ends_word, is_blank}
use Rattle.thumb_parse.specs.Lexical.AreTokens.{end, blank, word, sign}
use Rattle.source_text.specs.Characters.{is_word_char}
use Rattle.thumb_parse.specs.Tokens.{begins_with_digit, begins_word, is_allowed, sign_of}
use Rattle.thumb_parse.specs.descent.Tokens.{sign_tokens, tokens_from, tokens_of, word_tokens}
use Rattle.thumb_parse.specs.Words.{word_token}

-- ---- truth values and lists

and_left : (a b : Bool) → (a && b) ≡ true → a ≡ true
and_left true b h = refl
and_left false b h = h

and_right : (a b : Bool) → (a && b) ≡ true → b ≡ true
and_right true b h = h
and_right false b h = absurd cc

both : (a b : Bool) → a ≡ true → b ≡ true → (a && b) ≡ true
both true b h i = i
both false b h i = h

drop_front : (w cs : List ℕ) → drop (length w) (w ++ cs) ≡ cs
drop_front [] cs = refl
drop_front (a ∷ bs) cs = drop_front bs cs

take_front : (w cs : List ℕ) → take (length w) (w ++ cs) ≡ w
take_front [] cs = refl
take_front (a ∷ bs) cs = ap (λ rest. a ∷ rest) (take_front bs cs)

-- ---- the word of a line between two places

no_word : (line : List ℕ) (start : ℕ) → word_tokens line start start ≡ []
no_word line start = let none : nat_lt start start ≡ false = grind (arith, nat_tests) in rw none refl

some_word : (line : List ℕ) (start at a : ℕ) (bs cs : List ℕ) → drop start line ≡ a ∷ bs ++ cs → at ≡ start + length (a ∷ bs) → word_tokens line start at ≡ word_token start (a ∷ bs) ∷ []
some_word line start at a bs cs h i =
    let some : nat_lt start at ≡ true = let long = i in grind (arith, nat_tests) in
    let long : at - start ≡ length (a ∷ bs) = omega (arith, i) in
    let same : slice_range line start at ≡ a ∷ bs = ap (λ n. take n (drop start line)) long ∙ ap (take (length (a ∷ bs))) h ∙ take_front (a ∷ bs) cs in
    ap (λ b. cond b (word_token start (slice_range line start at) ∷ []) []) some ∙ ap (λ w. word_token start w ∷ []) same

-- ---- what is read is so

-- what has begun before these characters is the front of a word, or nothing
abbrev IsBegun : List ℕ → List ℕ → Type 0
IsBegun [] cs = ⊤
IsBegun (a ∷ bs) cs = ((is_word_char a || begins_word a (bs ++ cs)) ≡ true) × (list_all is_word_char bs ≡ true)

all_more : (bs : List ℕ) (c : ℕ) → list_all is_word_char bs ≡ true → is_word_char c ≡ true → list_all is_word_char (bs ++ c ∷ []) ≡ true
all_more [] c h i = both (is_word_char c) true i refl
all_more (a ∷ bs) c h i =
    both (is_word_char a) (list_all is_word_char (bs ++ c ∷ [])) (and_left (is_word_char a) (list_all is_word_char bs) h)
    (all_more bs c (and_right (is_word_char a) (list_all is_word_char bs) h) i)

or_left : (a b : Bool) → a ≡ true → (a || b) ≡ true
or_left true b h = refl
or_left false b h = absurd cc

or_right : (a b : Bool) → b ≡ true → (a || b) ≡ true
or_right true b h = refl
or_right false b h = h

begun_more : (w : List ℕ) (c : ℕ) (cs : List ℕ) → IsBegun w (c ∷ cs) → is_word_char c ≡ true → IsBegun (w ++ c ∷ []) cs
begun_more [] c cs h i = (or_left (is_word_char c) (begins_word c cs) i, refl)
begun_more (a ∷ bs) c cs h i =
    (subst (λ rest. (is_word_char a || begins_word a rest) ≡ true) (sym (append_assoc bs (c ∷ []) cs)) h.0, all_more bs c h.1 i)

-- the word that has begun ends here
ended : (line : List ℕ) (start at : ℕ) (w cs : List ℕ) (tokens : List Token) → drop start line ≡ w ++ cs → at ≡ start + length w → IsBegun w cs → ends_word cs ≡ true
    → AreTokens at cs tokens → AreTokens start (w ++ cs) (word_tokens line start at ++ tokens)
ended line start at [] cs tokens h i b e rest =
    let here : at ≡ start = omega (arith, i) in
    subst (λ at. AreTokens at cs tokens → AreTokens start cs (word_tokens line start at ++ tokens)) (sym here)
    (λ rest. subst (λ front. AreTokens start cs (front ++ tokens)) (sym (no_word line start)) rest) rest
ended line start at (a ∷ bs) cs tokens h i b e rest =
    subst (λ front. AreTokens start (a ∷ bs ++ cs) (front ++ tokens)) (sym (some_word line start at a bs cs h i))
    (word bs b.0 b.1 e (subst (λ at. AreTokens at cs tokens) i rest))

past : (line : List ℕ) (start at : ℕ) (w cs : List ℕ) → drop start line ≡ w ++ cs → at ≡ start + length w → drop at line ≡ cs
past line start at w cs h i = ap (λ at. drop at line) i ∙ sym (drop-drop (length w) start line) ∙ ap (drop (length w)) h ∙ drop_front w cs

-- a character that is allowed, goes on with no word, begins none and is no sign is a blank
any_of_three : (a b c : Bool) → (a || b || c || false) ≡ true → (a || b || c) ≡ true
any_of_three true b c h = refl
any_of_three false true c h = refl
any_of_three false false true h = refl
any_of_three false false false h = h

only_blank : (w s a b c d : Bool) → (w || s || a || b || c || d) ≡ true → w ≡ false → s ≡ false → d ≡ false → (a || b || c) ≡ true
only_blank false false a b c false h i j k = any_of_three a b c h
only_blank true s a b c d h i j k = absurd cc
only_blank false true a b c d h i j k = absurd cc
only_blank false false a b c true h i j k = absurd cc

neither : (a b : Bool) → (a || b) ≡ false → a ≡ false
neither true b h = h
neither false b h = refl

no_point : (c : ℕ) (cs : List ℕ) → begins_word c cs ≡ false → (c == 46) ≡ false
no_point c cs h = neither (c == 46) (c == 45 && begins_with_digit cs) h

next_of : (at c : ℕ) (cs : List ℕ) (tokens : List Token) (s : Option Token) → is_allowed c ≡ true → is_word_char c ≡ false → begins_word c cs ≡ false → sign_of c ≡ s
    → AreTokens (at + 1) cs tokens → AreTokens at (c ∷ cs) (option_map_or (λ sign. sign ∷ []) s [] ++ tokens)
next_of at c cs tokens (Some token) a w b s rest = sign b s rest
next_of at c cs tokens None a w b s rest =
    blank (only_blank (is_word_char c) (is_some (sign_of c)) (c == 32) (c == 9) (c == 13) (c == 46) a w (ap is_some s) (no_point c cs b)) rest

are_tokens : (line : List ℕ) (cs : List ℕ) (start at : ℕ) (w : List ℕ) → drop start line ≡ w ++ cs → at ≡ start + length w → IsBegun w cs → list_all is_allowed cs ≡ true
    → AreTokens start (w ++ cs) (tokens_from line start at cs)
unfolding tokens_from
are_tokens line [] start at w h i b a =
    subst (λ tokens. AreTokens start (w ++ []) tokens) (append-nil (word_tokens line start at)) (ended line start at w [] [] h i b refl end)
are_tokens line (c ∷ cs) start at w h i b a =
    let allowed = and_left (is_allowed c) (list_all is_allowed cs) a in
    let rest = and_right (is_allowed c) (list_all is_allowed cs) a in
    let there = past line start at w (c ∷ cs) h i in
    let next : drop (at + 1) line ≡ cs = sym (drop-drop 1 at line) ∙ ap (drop 1) there in
    elim (cases_Bool (is_word_char c)) as (λ tells. AreTokens start (w ++ c ∷ cs) (tokens_from line start at (c ∷ cs))) [
      | inl is ↦ rw is (
          subst (λ chars. AreTokens start chars (tokens_from line start (at + 1) cs)) (append_assoc w (c ∷ []) cs)
          (are_tokens line cs start (at + 1) (w ++ c ∷ []) (h ∙ sym (append_assoc w (c ∷ []) cs)) (let long = length-append w (c ∷ []) in omega (arith, i, long)) (begun_more w c cs b is) rest))
      | inr other ↦ elim (cases_Bool (begins_word c cs)) as (λ tells. AreTokens start (w ++ c ∷ cs) (tokens_from line start at (c ∷ cs))) [
        | inl is ↦ rw (other, is) (
            ended line start at w (c ∷ cs) (tokens_from line at (at + 1) cs) h i b (ap not other)
            (are_tokens line cs at (at + 1) (c ∷ []) there refl (or_right (is_word_char c) (begins_word c cs) is, refl) rest))
        | inr none ↦ rw (other, none) (
            ended line start at w (c ∷ cs) (sign_tokens c ++ tokens_from line (at + 1) (at + 1) cs) h i b (ap not other)
            (next_of at c cs (tokens_from line (at + 1) (at + 1) cs) (sign_of c) allowed other none refl
            (are_tokens line cs (at + 1) (at + 1) [] next (omega arith) tt rest)))
      ]
    ]

-- ---- what is so is read

unless_at : (c k : ℕ) (rest : Option Token) (t token : Token) → is_word_char k ≡ false → cond (c == k) (Some t) rest ≡ Some token → (rest ≡ Some token → is_word_char c ≡ false)
    → is_word_char c ≡ false
unless_at c k rest t token h i else_ = elim (cases_Bool (c == k)) [
  | inl is ↦ ap is_word_char (eqb-true c k is) ∙ h
  | inr other ↦ else_ (let more = rw other at i in more)
]

sign_no_word : (c : ℕ) (token : Token) → sign_of c ≡ Some token → is_word_char c ≡ false
sign_no_word c token h =
    unless_at c 44 _ Comma token refl h (λ h. unless_at c 58 _ Colon token refl h (λ h. unless_at c 35 _ Hash token refl h (λ h.
    unless_at c 91 _ OpenBracket token refl h (λ h. unless_at c 93 _ CloseBracket token refl h (λ h. unless_at c 123 _ OpenBrace token refl h (λ h.
    unless_at c 125 _ CloseBrace token refl h (λ h. unless_at c 33 _ Bang token refl h (λ h. unless_at c 43 _ Plus token refl h (λ h.
    unless_at c 45 None Minus token refl h (λ h. absurd cc))))))))))

-- a blank goes on with no word, begins none and is no sign
record IsNothing (c : ℕ) (cs : List ℕ) : Type 0 where
  part : is_word_char c ≡ false
  begins : begins_word c cs ≡ false
  sign : sign_of c ≡ None

blank_nothing : (c : ℕ) (cs : List ℕ) → is_blank c ≡ true → IsNothing c cs
blank_nothing c cs h = elim (cases_Bool (c == 32)) [
  | inl is ↦ subst (λ c. IsNothing c cs) (sym (eqb-true c 32 is)) (record { part = refl; begins = refl; sign = refl })
  | inr other ↦ elim (cases_Bool (c == 9)) [
    | inl is ↦ subst (λ c. IsNothing c cs) (sym (eqb-true c 9 is)) (record { part = refl; begins = refl; sign = refl })
    | inr none ↦ let last : (c == 13) ≡ true = rw (other, none) at h in subst (λ c. IsNothing c cs) (sym (eqb-true c 13 last)) (record { part = refl; begins = refl; sign = refl })
  ]
]

-- at a place where no word has begun
from_sign : (line : List ℕ) (at c : ℕ) (cs : List ℕ) → is_word_char c ≡ false → begins_word c cs ≡ false → tokens_from line at at (c ∷ cs) ≡ sign_tokens c ++ tokens_from line (at + 1) (at + 1) cs
unfolding tokens_from
from_sign line at c cs h i = rw (h, i) (ap (λ front. front ++ (sign_tokens c ++ tokens_from line (at + 1) (at + 1) cs)) (no_word line at))

from_word : (line : List ℕ) (at c : ℕ) (cs : List ℕ) → (is_word_char c || begins_word c cs) ≡ true → tokens_from line at at (c ∷ cs) ≡ tokens_from line at (at + 1) cs
unfolding tokens_from
from_word line at c cs h = elim (cases_Bool (is_word_char c)) [
  | inl is ↦ rw is refl
  | inr other ↦ let begins : begins_word c cs ≡ true = rw other at h in rw (other, begins) (ap (λ front. front ++ tokens_from line at (at + 1) cs) (no_word line at))
]

-- the characters of a word
through : (line : List ℕ) (chars rest : List ℕ) (start at : ℕ) → list_all is_word_char chars ≡ true → tokens_from line start at (chars ++ rest) ≡ tokens_from line start (at + length chars) rest
unfolding tokens_from
through line [] rest start at h = ap (λ at. tokens_from line start at rest) (omega arith)
through line (c ∷ chars) rest start at h =
    let is = and_left (is_word_char c) (list_all is_word_char chars) h in
    rw is (through line chars rest start (at + 1) (and_right (is_word_char c) (list_all is_word_char chars) h)
    ∙ ap (λ at. tokens_from line start at rest) (omega arith))

-- a word ends where none goes on
at_end : (line : List ℕ) (rest : List ℕ) (start at : ℕ) → ends_word rest ≡ true → tokens_from line start at rest ≡ word_tokens line start at ++ tokens_from line at at rest
unfolding tokens_from
at_end line [] start at h = sym (append-nil (word_tokens line start at)) ∙ ap (λ back. word_tokens line start at ++ back) (sym (no_word line at))
at_end line (c ∷ cs) start at h = elim (cases_Bool (is_word_char c)) [
  | inl is ↦ absurd (let wrong = rw is at h in cc)
  | inr other ↦ elim (cases_Bool (begins_word c cs)) [
    | inl is ↦ rw (other, is) (ap (λ back. word_tokens line start at ++ back) (sym (ap (λ front. front ++ tokens_from line at (at + 1) cs) (no_word line at))))
    | inr none ↦ rw (other, none) (ap (λ back. word_tokens line start at ++ back)
        (sym (ap (λ front. front ++ (sign_tokens c ++ tokens_from line (at + 1) (at + 1) cs)) (no_word line at))))
  ]
]

tokens_are : (line : List ℕ) {at : ℕ} {chars : List ℕ} {tokens : List Token} → AreTokens at chars tokens → drop at line ≡ chars → tokens_from line at at chars ≡ tokens
unfolding tokens_from
tokens_are line {at = at} end h = no_word line at
tokens_are line (blank {at = at} {c = c} {rest = rest} b more) h =
    let nothing = blank_nothing c rest b in
    from_sign line at c rest nothing.part nothing.begins
    ∙ ap (λ s. option_map_or (λ sign. sign ∷ []) s [] ++ tokens_from line (at + 1) (at + 1) rest) nothing.sign
    ∙ tokens_are line more (sym (drop-drop 1 at line) ∙ ap (drop 1) h)
tokens_are line (sign {at = at} {c = c} {rest = rest} {token = token} b s more) h =
    from_sign line at c rest (sign_no_word c token s) b
    ∙ ap (λ s. option_map_or (λ sign. sign ∷ []) s [] ++ tokens_from line (at + 1) (at + 1) rest) s
    ∙ ap (λ tokens. token ∷ tokens) (tokens_are line more (sym (drop-drop 1 at line) ∙ ap (drop 1) h))
tokens_are line (word {at = at} {c = c} chars {rest = rest} b all e more) h =
    let long : at + 1 + length chars ≡ at + length (c ∷ chars) = omega arith in
    from_word line at c (chars ++ rest) b
    ∙ through line chars rest at (at + 1) all
    ∙ ap (λ at'. tokens_from line at at' rest) long
    ∙ at_end line rest at (at + length (c ∷ chars)) e
    ∙ ap (λ front. front ++ tokens_from line (at + length (c ∷ chars)) (at + length (c ∷ chars)) rest) (some_word line at (at + length (c ∷ chars)) c chars rest h refl)
    ∙ ap (λ tokens. word_token at (c ∷ chars) ∷ tokens) (tokens_are line more (past line at (at + length (c ∷ chars)) (c ∷ chars) rest h refl))

-- ---- lines

pub line_tokens : (code : List ℕ) → list_all is_allowed code ≡ true → AreTokens 0 code (tokens_of code)
unfolding tokens_of
line_tokens code h = are_tokens code code 0 0 [] refl refl tt h

pub tokens_only : (code : List ℕ) (tokens : List Token) → AreTokens 0 code tokens → tokens_of code ≡ tokens
unfolding tokens_of
tokens_only code tokens h = tokens_are code h refl
