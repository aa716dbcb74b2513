-- What is taken from a source, and how the taking ends.
use Rattle.reverse_debug.proofs.Shared.{Ahead, AnswersLines, Bool, Consumes, Err, HasNoEnd, Hears, IfOk, IsAfterLine, List, Ok, Option, Reads, RepliesTo, Result, SinkFault, Taking, Talk, [], ap, append_assoc, arith, behind, closes, complete_from, complete_lines, false, given_bytes, list_any, inl, inr, length, length-append, nat_lt, nat_tests, open_line, refl, rose_later, subst, suc, sym, take, true, unless_empty, until, without_cr, ℕ, ◌++◌, ◌+◌, ◌<◌, ◌==◌, ◌||◌, ◌∙◌, ◌∷◌, ◌≡◌, ◌≤◌}
use Rattle.std.proofs.lemmas.List.{append-nil}
use Rattle.reverse_debug.specs.declared.way.Way.{Way}
use Rattle.reverse_debug.specs.declared.way.Way.TheVariants.{Closed, Ended, Broken, Full}
use Rattle.reverse_debug.specs.declared.reader.Next.TheVariants as read
use Rattle.reverse_debug.specs.Hearing.{MayEnd, lines_heard, IsTaken, status_by}
use Rattle.reverse_debug.proofs.NextLines.{consumes_none, consumes_both}
use Rattle.reverse_debug.proofs.LineLists.{complete_append, lines_more, open_more, lines_open, all_open, closes_more, last_both, until_all, until_both, until_more}
use Rattle.reverse_debug.proofs.Talks.{tells_none, tells_both, tells_line, tells_so, cut_more}

-- ---- the open line at the end

abbrev pub no_byte : List ℕ → Bool
no_byte [] = true
no_byte (x ∷ xs) = false

zero_not : (n m : ℕ) → n ≡ suc m → (n == 0) ≡ false
zero_not n m e = grind (arith, nat_tests)

-- the bytes that are given of a line are none exactly where it has none
pub empty_same : (given whole : List ℕ) → given ≡ take given_bytes whole → (length given == 0) ≡ no_byte whole
empty_same given [] e = ap (λ g. length g == 0) e
empty_same given (x ∷ xs) e = zero_not (length given) (length (take 256 xs)) (ap length e)

pub end_empty : {T : Type 0} {x : T} (t : Talk) (cycle : ℕ) (whole : List ℕ) (a : Option (List ℕ)) (f p : ℕ) → no_byte whole ≡ true → AnswersLines t cycle (until t.last (unless_empty whole)) a a f f p p cycle (Ok x)
end_empty t cycle [] a f p is = tells_none t cycle a f p
end_empty t cycle (x ∷ xs) a f p is = absurd (cc is)

pub end_said : (t : Talk) (cycle : ℕ) (whole : List ℕ) {a b : Option (List ℕ)} {f g p q at : ℕ} (result : Result Bool SinkFault) → no_byte whole ≡ false → RepliesTo t cycle whole a b f g p q at result → AnswersLines t cycle (until t.last (unless_empty whole)) a b f g p q at result
end_said t cycle [] result other h = absurd (cc other)
end_said t cycle (x ∷ xs) result other h = tells_line t cycle (x ∷ xs) result h

-- ---- the ends of a hearing

hears : (t : Talk) (cycle limit : ℕ) (bytes : List ℕ) (way : Way) {left left' : Option (List ℕ)} {lost lost' : ℕ} {a b : Option (List ℕ)} {f g p q at : ℕ} (result : Result Way SinkFault) → IfOk result (λ w. w ≡ way) → length bytes ≤ limit →
    MayEnd limit (closes t.last bytes) (length bytes) way → IsTaken left left' lost lost' (status_by result) bytes way → AnswersLines t cycle (lines_heard t.last way bytes) a b f g p q at result → Hears t cycle limit left left' lost lost' a b f g p q at result
hears t cycle limit bytes way result is within may taken h =
    record { bytes = bytes; way = way; within = within; may = may; taken = taken; is = is; sends = h.sends; stands = h.stands; forward = h.forward; most = h.most }

-- where the sink failed the taking counts as ended after the bytes taken
hears_cut : (t : Talk) (cycle limit : ℕ) (bytes : List ℕ) {left left' : Option (List ℕ)} {lost lost' : ℕ} {a b : Option (List ℕ)} {f g p q at : ℕ} (fault : SinkFault) (closed short : Bool) → closes t.last bytes ≡ closed → nat_lt (length bytes) limit ≡ short → length bytes ≤ limit → Consumes left left' bytes → lost' ≡ lost →
    AnswersLines {T = Bool} t cycle (until t.last (complete_lines bytes)) a b f g p q at (Err fault) → Hears t cycle limit left left' lost lost' a b f g p q at (Err fault)
hears_cut t cycle limit bytes fault true short is lt le taken same h =
    hears t cycle limit bytes Closed (Err fault) tt le is (record { taken = taken; forward = omega (arith, same); borne = same }) (rw append-nil at (cut_more {T = Bool} {U = Way} t cycle (complete_lines bytes) [] h))
hears_cut t cycle limit bytes fault false true is lt le taken same h =
    hears t cycle limit bytes Ended (Err fault) tt le (is, grind (arith, lt)) (record { taken = taken; forward = omega (arith, same); borne = (same, inl refl) }) (cut_more t cycle (complete_lines bytes) (unless_empty (open_line bytes)) h)
hears_cut t cycle limit bytes fault false false is lt le taken same h =
    hears t cycle limit bytes Full (Err fault) tt le (is, grind (arith, lt, le)) (record { taken = taken; forward = omega (arith, same); borne = same }) (rw append-nil at (cut_more {T = Bool} {U = Way} t cycle (complete_lines bytes) [] h))

-- ---- one line after another

pub taking_first : (t : Talk) (cycle limit : ℕ) (left : Option (List ℕ)) (lost : ℕ) (old : Option (List ℕ)) (before steps : ℕ) (ahead : Ahead) → ahead ≡ record { rest = []; taken = 0 } → Taking t cycle limit left left lost lost old old before before steps steps cycle ahead
taking_first t cycle limit left lost old before steps ahead none =
    subst (λ (x : Ahead). Taking t cycle limit left left lost lost old old before before steps steps cycle x) (sym none) (record {
      bytes = [];
      long = refl;
      within = omega arith;
      consumed = consumes_none left;
      steady = refl;
      none = refl;
      whole = refl;
      tells = tells_none t cycle old before steps;
    })

-- with the bytes that were read, what was taken is longer by them: it is the bytes before, those that were read of a line, and what is
-- left over
taken_on : (left left' left'' : Option (List ℕ)) (bytes rest more line rest' : List ℕ) (count count' : ℕ) → Consumes left left' (bytes ++ rest) → Consumes left' left'' more → length (bytes ++ rest) ≡ count → count' ≡ count + length more → rest ++ more ≡ line ++ rest' →
    Consumes left left'' ((bytes ++ line) ++ rest') × (length ((bytes ++ line) ++ rest') ≡ count')
taken_on left left' left'' bytes rest more line rest' count count' before consumed long is splits =
    let e : (bytes ++ rest) ++ more ≡ (bytes ++ line) ++ rest' = append_assoc bytes rest more ∙ ap (λ x. bytes ++ x) splits ∙ sym (append_assoc bytes line rest') in
    (subst (Consumes left left'') e (consumes_both left left' left'' (bytes ++ rest) more before consumed), ap length (sym e) ∙ omega (arith, length-append (bytes ++ rest) more, long, is))

-- with a line fewer bytes stand in none
fewer_behind : (limit : ℕ) (a b : Ahead) (more line : List ℕ) → b.taken ≡ a.taken + length more → b.taken ≤ limit → a.rest ++ more ≡ line ++ 10 ∷ b.rest → behind limit b < behind limit a
fewer_behind limit a b more line count within splits =
    let long : length (a.rest ++ more) ≡ length (line ++ 10 ∷ b.rest) = ap length splits in
    omega (arith, count, within, long, length-append a.rest more, length-append line (10 ∷ b.rest))

or_none : (b : Bool) → (b || false) ≡ b
or_none true = refl
or_none false = refl

-- what was taken, once a line was read and answered: the bytes up to its LF, and those that are left over
record Fed (t : Talk) (cycle : ℕ) (left left' : Option (List ℕ)) (a b : Option (List ℕ)) (f g p q at : ℕ) (line : List ℕ) (ahead : Ahead) (result : Result Bool SinkFault) : Type 0 where
  bytes : List ℕ
  consumed : Consumes left left' (bytes ++ ahead.rest)
  long : length (bytes ++ ahead.rest) ≡ ahead.taken
  last : closes t.last bytes ≡ t.last (without_cr line)
  whole : open_line bytes ≡ []
  tells : AnswersLines t cycle (until t.last (complete_lines bytes)) a b f g p q at result

fed : (t : Talk) (cycle limit : ℕ) {left left' left'' : Option (List ℕ)} {lost lost' lost'' : ℕ} {o n n' : Option (List ℕ)} {f g h p q r at at' : ℕ} {a b : Ahead} {given : List ℕ} (result : Result Bool SinkFault) → Taking t cycle limit left left' lost lost' o n f g p q at a →
    (got : Reads limit a b left' left'' lost' lost'' given read.Line) → RepliesTo t at (without_cr got.line) n n' g h q r at' result → Fed t cycle left left'' o n' f h p r at' got.line b result
fed t cycle limit {left} {left'} {left''} {o} {n'} {f} {h} {p} {r} {at} {at'} {a} {b} result k got said =
    let line = without_cr got.line in
    let lines = lines_more k.bytes got.line k.whole got.unended in
    let taken = taken_on left left' left'' k.bytes a.rest got.bytes (got.line ++ 10 ∷ []) b.rest a.taken b.taken k.consumed got.consumed k.long got.count (got.splits ∙ sym (append_assoc got.line (10 ∷ []) b.rest)) in
    let front = ap (until t.last) lines ∙ until_both t.last (complete_lines k.bytes) (line ∷ []) k.none in
    record {
      bytes = k.bytes ++ (got.line ++ 10 ∷ []);
      consumed = taken.0;
      long = taken.1;
      last = ap (list_any t.last) lines ∙ last_both t.last (complete_lines k.bytes) (line ∷ []) k.none ∙ or_none (t.last line);
      whole = open_more k.bytes got.line got.unended;
      tells = subst (λ l. AnswersLines t cycle l o n' f h p r at' result) (sym front) (tells_both t cycle (complete_lines k.bytes) (until t.last (line ∷ [])) result k.tells (tells_line t at line result said));
    }

-- the line was answered, and it was no last one
pub next_more : (t : Talk) (cycle limit : ℕ) {left left' left'' : Option (List ℕ)} {lost lost' lost'' : ℕ} {o n n' : Option (List ℕ)} {f g h p q r at at' : ℕ} {a b : Ahead} {given : List ℕ} (m : Bool) → m ≡ true → Taking t cycle limit left left' lost lost' o n f g p q at a →
    (got : Reads limit a b left' left'' lost' lost'' given read.Line) → RepliesTo t at (without_cr got.line) n n' g h q r at' (Ok m) → (behind limit b < behind limit a) × Taking t cycle limit left left'' lost lost'' o n' f h p r at' b
next_more t cycle limit false goes k got said = absurd (cc goes)
next_more t cycle limit {lost} {lost'} {lost''} {o} {n'} {f} {h} {p} {r} {at'} {a} {b} true goes k got said =
    let x = fed t cycle limit (Ok true) k got said in
    let none = x.last ∙ said.more in
    let same : lost'' ≡ lost' = got.ends in (
      fewer_behind limit a b got.bytes got.line got.count got.within got.splits,
      record {
        bytes = x.bytes;
        long = x.long;
        within = got.within;
        consumed = x.consumed;
        steady = same ∙ k.steady;
        none = none;
        whole = x.whole;
        tells = subst (λ l. AnswersLines t cycle l o n' f h p r at' (Ok false)) (until_all t.last (complete_lines x.bytes) none) (tells_so t cycle (until t.last (complete_lines x.bytes)) x.tells);
      },
    )

-- it was a last one
pub next_last : (t : Talk) (cycle limit : ℕ) {left left' left'' : Option (List ℕ)} {lost lost' lost'' : ℕ} {o n n' : Option (List ℕ)} {f g h p q r at at' : ℕ} {a b : Ahead} {given : List ℕ} (m : Bool) → m ≡ false → Taking t cycle limit left left' lost lost' o n f g p q at a →
    (got : Reads limit a b left' left'' lost' lost'' given read.Line) → RepliesTo t at (without_cr got.line) n n' g h q r at' (Ok m) → Hears t cycle limit left left'' lost lost'' o n' f h p r at' (Ok Closed)
next_last t cycle limit true goes k got said = absurd (cc goes)
next_last t cycle limit {lost} {lost'} {lost''} {o} {n'} {f} {h} {p} {r} {at'} {a} {b} false goes k got said =
    let x = fed t cycle limit (Ok false) k got said in
    let is = x.last ∙ said.more in
    let same : lost'' ≡ lost' = got.ends in
    let lines = until_more t.last (complete_lines x.bytes) (complete_from (open_line x.bytes) b.rest) is ∙ ap (until t.last) (sym (complete_append [] x.bytes b.rest)) in
    hears t cycle limit (x.bytes ++ b.rest) Closed (Ok Closed) refl (omega (arith, x.long, got.within)) (closes_more t.last x.bytes b.rest is) (record { taken = x.consumed; forward = omega (arith, same, k.steady); borne = same ∙ k.steady })
    (subst (λ l. AnswersLines t cycle l o n' f h p r at' (Ok Closed)) lines (tells_so t cycle (until t.last (complete_lines x.bytes)) x.tells))

-- the sink failed at its reply
pub next_cut : (t : Talk) (cycle limit : ℕ) {left left' left'' : Option (List ℕ)} {lost lost' lost'' : ℕ} {o n n' : Option (List ℕ)} {f g h p q r at at' : ℕ} {a b : Ahead} {given : List ℕ} {fault : SinkFault} → Taking t cycle limit left left' lost lost' o n f g p q at a →
    (got : Reads limit a b left' left'' lost' lost'' given read.Line) → RepliesTo t at (without_cr got.line) n n' g h q r at' (Err fault) → Hears t cycle limit left left'' lost lost'' o n' f h p r at' (Err fault)
next_cut t cycle limit {lost} {lost'} {lost''} {o} {n'} {f} {h} {p} {r} {at'} {a} {b} {fault} k got said =
    let x = fed t cycle limit (Err fault) k got said in
    let same : lost'' ≡ lost' = got.ends in
    hears_cut t cycle limit (x.bytes ++ b.rest) fault _ _ refl refl (omega (arith, x.long, got.within)) x.consumed (same ∙ k.steady)
    (subst (λ l. AnswersLines {T = Bool} t cycle (until t.last l) o n' f h p r at' (Err fault)) (sym (complete_append [] x.bytes b.rest)) (cut_more t cycle (complete_lines x.bytes) (complete_from (open_line x.bytes) b.rest) x.tells))

-- where no LF came
open_taken : (t : Talk) (cycle limit : ℕ) {left left' : Option (List ℕ)} (left'' : Option (List ℕ)) {lost lost' : ℕ} {o n : Option (List ℕ)} {f g p q at : ℕ} {a : Ahead} (bytes line : List ℕ) (count : ℕ) (k : Taking t cycle limit left left' lost lost' o n f g p q at a) → Consumes left' left'' bytes → count ≡ a.taken + length bytes → a.rest ++ bytes ≡ line →
    Consumes left left'' (k.bytes ++ line) × (length (k.bytes ++ line) ≡ count)
open_taken t cycle limit {left} {left'} left'' {a} bytes line count k consumed is splits =
    rw append-nil at (taken_on left left' left'' k.bytes a.rest bytes line [] a.taken count k.consumed consumed k.long is (splits ∙ sym (append-nil line)))

-- the input has ended, and the open line was answered
pub next_end : (t : Talk) (cycle limit : ℕ) {left left' left'' : Option (List ℕ)} {lost lost' lost'' : ℕ} {o n n' : Option (List ℕ)} {f g h p q r at at' : ℕ} {a b : Ahead} {given : List ℕ} (result : Result Way SinkFault) → IfOk result (λ w. w ≡ Ended) → Taking t cycle limit left left' lost lost' o n f g p q at a →
    (got : Reads limit a b left' left'' lost' lost'' given read.Last) → AnswersLines t at (until t.last (unless_empty got.line)) n n' g h q r at' result → Hears t cycle limit left left'' lost lost'' o n' f h p r at' result
next_end t cycle limit {lost} {lost'} {lost''} {o} {n'} {f} {h} {p} {r} {at'} {a} {b} result is k got said =
    let taken = open_taken t cycle limit _ got.bytes got.line b.taken k got.consumed got.count got.splits.0 in
    let same : lost'' ≡ lost' = got.ends.0 in
    let lt = got.ends.1 in
    let lines = ap (until t.last) (all_open k.bytes got.line k.whole got.unended) ∙ until_both t.last (complete_lines k.bytes) (unless_empty got.line) k.none in
    hears t cycle limit (k.bytes ++ got.line) Ended result is (omega (arith, taken.1, lt)) (ap (list_any t.last) (lines_open k.bytes got.line got.unended) ∙ k.none, omega (arith, taken.1, lt))
    (record { taken = taken.0; forward = omega (arith, same, k.steady); borne = (same ∙ k.steady, inr got.ends.2) })
    (subst (λ l. AnswersLines t cycle l o n' f h p r at' result) (sym lines) (tells_both t cycle (complete_lines k.bytes) (until t.last (unless_empty got.line)) result k.tells said))

-- nothing more is heard
still_open : (t : Talk) (cycle limit : ℕ) {left left' : Option (List ℕ)} {lost lost' : ℕ} {o n : Option (List ℕ)} {f g p q at : ℕ} {a : Ahead} (line : List ℕ) (way : Way) (k : Taking t cycle limit left left' lost lost' o n f g p q at a) → HasNoEnd line →
    (closes t.last (k.bytes ++ line) ≡ false) × AnswersLines t cycle (until t.last (complete_lines (k.bytes ++ line))) o n f g p q at (Ok way)
still_open t cycle limit {o} {n} {f} {g} {p} {q} {at} line way k none =
    let lines = lines_open k.bytes line none in (
      ap (list_any t.last) lines ∙ k.none,
      subst (λ l. AnswersLines t cycle l o n f g p q at (Ok way)) (sym (ap (until t.last) lines ∙ until_all t.last (complete_lines k.bytes) k.none)) (tells_so t cycle (complete_lines k.bytes) k.tells),
    )

-- a take failed
pub next_failed : (t : Talk) (cycle limit : ℕ) {left left' left'' : Option (List ℕ)} {lost lost' lost'' : ℕ} {o n : Option (List ℕ)} {f g p q at : ℕ} {a b : Ahead} {given : List ℕ} → Taking t cycle limit left left' lost lost' o n f g p q at a → Reads limit a b left' left'' lost' lost'' given read.Failed → Hears t cycle limit left left'' lost lost'' o n f g p q at (Ok Broken)
next_failed t cycle limit {lost} {lost'} {lost''} {b} k got =
    let taken = open_taken t cycle limit _ got.bytes got.line b.taken k got.consumed got.count got.splits.0 in
    let still = still_open t cycle limit got.line Broken k got.unended in
    let lt = got.ends.1 in
    hears t cycle limit (k.bytes ++ got.line) Broken (Ok Broken) refl (omega (arith, taken.1, lt)) (still.0, omega (arith, taken.1, lt))
    (record { taken = taken.0; forward = omega (arith, k.steady, got.ends.0); borne = rose_later lost lost' lost'' (omega (arith, k.steady)) got.ends.2 }) still.1

-- the limit is reached
pub next_full : (t : Talk) (cycle limit : ℕ) {left left' left'' : Option (List ℕ)} {lost lost' lost'' : ℕ} {o n : Option (List ℕ)} {f g p q at : ℕ} {a b : Ahead} {given : List ℕ} → Taking t cycle limit left left' lost lost' o n f g p q at a → Reads limit a b left' left'' lost' lost'' given read.Full → Hears t cycle limit left left'' lost lost'' o n f g p q at (Ok Full)
next_full t cycle limit {lost} {lost'} {lost''} {b} k got =
    let taken = open_taken t cycle limit _ got.bytes got.line b.taken k got.consumed got.count got.splits.0 in
    let still = still_open t cycle limit got.line Full k got.unended in
    let same : lost'' ≡ lost' = got.ends.0 in
    hears t cycle limit (k.bytes ++ got.line) Full (Ok Full) refl (omega (arith, taken.1, got.within)) (still.0, omega (arith, taken.1, got.within, got.ends.1)) (record { taken = taken.0; forward = omega (arith, same, k.steady); borne = same ∙ k.steady }) still.1

-- ---- a talk that is this one

pub after_same : (t u : Talk) (cycle limit : ℕ) (left left' left'' : Option (List ℕ)) (lost lost' lost'' : ℕ) (o n n' : Option (List ℕ)) (f g h p q r at at' : ℕ) (a b : Ahead) (more : ℕ) (result result' : Result (Option Way) SinkFault) → u ≡ t → result ≡ result' →
    (Taking u cycle limit left left' lost lost' o n f g p q at a → IsAfterLine u cycle limit left left'' lost lost'' o n' f h p r at' b more result) → Taking t cycle limit left left' lost lost' o n f g p q at a → IsAfterLine t cycle limit left left'' lost lost'' o n' f h p r at' b more result'
after_same t u cycle limit left left' left'' lost lost' lost'' o n n' f g h p q r at at' a b more result result' same is came k =
    subst (λ x. IsAfterLine t cycle limit left left'' lost lost'' o n' f h p r at' b more x) is
    (subst (λ (x : Talk). Taking x cycle limit left left' lost lost' o n f g p q at a → IsAfterLine x cycle limit left left'' lost lost'' o n' f h p r at' b more result) same came k)
