-- Walks of dialogues, what was opened and where its walk ended, and the programs of a run, one behind another.
use Rattle.pico_top.proofs.Shared.{◌≡◌, ℕ, ◌<◌, ◌≤◌, List, [], ◌∷◌, length, Bool, true, false, nat_le, Option, Some, None, Result, Ok, Err, refl, sym, ap, ap₂, subst, inl, inr, ◌⊎◌, arith, IsSomeAnd, IsErrAnd, map, ◌∙◌, ◌==◌, if◌then◌else◌, zero, suc, ◌+◌, ◌++◌, drop, get_or, IfOk, IfErr, Vec, Global, DeviceMeaning, Files, Answers, Done, Large, Failed, Aim, Setting, setting_of, image_of, Image, image_of_source, script_of, plans_of, Subcommand, Run, RunImage, DebugImage, Disassemble, Assemble, AssembleThumb, Generate, Refusal, refused_line, status_of, BadWords, Lost, TooLarge, BadImage, BadScript, BadSource, BadThumb, BadStart, Memory, Refusing, closes, Way, MayEnd, Board, Sunk, Reply, Dialogue, Use, judge, say, hear, aims_in, device_in, dialogue_of, dialogue_from, with_first, with_program, with_programs, with_script, with_linked, with_run, say_run, hear_run, run_reply, input_limit, listing, plain, session_reply, source_limit, Load, Refuse, Say, Hear, Ending, IsHeard, AfterLoad, Walks, Verdict, heard_as, on_held, verdict, failed_names, Refuses, Says, Hears, Said, Heard, Refused, NoMemory, EndsUnopened, Leads, PutsRefusal, Judges, Boots, use_for, opened_dialogue, ArePlaced, Places, taken_by, at_drop_more, State, PioLoad, Opened, first_of, Unopened, quits, Puts, PioEntry, entry_in}
use Rattle.rp_ports.specs.declared.shelf.Loaded.{Loaded}
use Rattle.rp_ports.specs.declared.shelf.Loaded.TheVariants.{Memory as Starved}
use Rattle.startup_blocks.specs.Table.{linked, HaveBytes}
use Rattle.pin_script.specs.declared.entry.Entry.{Entry as ScriptEntry}
use Rattle.pio_asm.specs.Assembly.{Plan, ArePrograms, Assembles, IsProgram}
use Rattle.pio_program.specs.declared.program.Program.{Program}
use Rattle.command_words.specs.Lists.{Entry}
use Rattle.command_words.specs.Refusals.{meant}
use Rattle.pico_top.specs.Dialogue.{Placed, offset_of, loads_of, plans_in, placed_as, taken_from}
use Rattle.std.specs.List.{AllByRecursion}
use Rattle.uf2_image.specs.declared.parts.Part.{Part}
use Rattle.uf2_image.specs.Writing.{IsSized}
use Rattle.uf2_image.proofs.Writable.{what_is_read_can_be_written}
use Rattle.rp_machine.specs.State.{first_state}
use Rattle.rp_base.specs.Resettable.{with_block}
use Rattle.rp_machine.specs.Boot.{start, with_loads, with_load, block_loaded, IsLoad, AreLoads}
use Rattle.command_words.specs.declared.refusal.Refusal.{Refusal as Written}
use Rattle.command_words.specs.declared.refusal.Refusal.TheVariants.{Source}
use Rattle.pico_top.specs.declared.outcome.Opened.TheVariants.{Text}
use Rattle.pico_top.specs.declared.outcome.Pieces.{Pieces}
use Rattle.pico_top.specs.declared.outcome.Purpose.{Purpose}
use Rattle.pico_top.specs.declared.outcome.Purpose.TheVariants.{Run as ForRun, Debug as ForDebug}
use Rattle.pio_parse.specs.declared.fault.PioFault.{PioFault}
use Rattle.pio_asm.proofs.Wholeness.{words_length}
use Rattle.pio_asm.specs.Fitting.{IsFirst, IsRunnable}
use Rattle.pio_asm.specs.Placing.{placed, with_addresses}

-- memory may run out in every dialogue
pub no_memory : (files : Option Files) (d : Dialogue) → Walks files d NoMemory
no_memory files (Load name limit next) = (Starved, [], tt, refl)
no_memory files _ = inr refl

pub runs_out : (files : Option Files) (failed : List (List ℕ)) (d : Dialogue) → EndsUnopened files failed failed d Memory
runs_out files failed d = (NoMemory, no_memory files d, refl, tt)

-- a text that goes with no program is one that goes with these words of some
pub said_with : (files : Option Files) (plans : List Plan) (programs : List Program) (reply : List Program → Reply) (own : Reply) (e : Ending) → ArePrograms plans programs → reply programs ≡ own → Walks files (say own) e → Walks files (Say plans reply) e
said_with files plans programs reply own e have is w = elim w [
  | inl here ↦ inl (programs, have, subst (λ (r : Reply). e ≡ Said r) (sym is) here.2)
  | inr none ↦ inr none
]

-- and so are answers
pub heard_with : (files : Option Files) (plans : List Plan) (programs : List Program) (limit : ℕ) (last : List ℕ → Bool) (answers : List Program → List (List ℕ) → Reply) (own : List (List ℕ) → Reply) (e : Ending) → ArePrograms plans programs → answers programs ≡ own → Walks files (hear limit last own) e → Walks files (Hear plans limit last answers) e
heard_with files plans programs limit last answers own e have is w = elim w [
  | inl here ↦ inl (programs, have, subst (λ (a : List (List ℕ) → Reply). IsHeard limit last a e) (sym is) here.2)
  | inr none ↦ inr none
]

-- ---- no command's dialogue refuses the words

abbrev KeepsWords : Dialogue → Type 0
KeepsWords (Load name limit next) = (bytes : List ℕ) → KeepsWords (next bytes)
KeepsWords (Refuse refusal) = refusal ≡ BadWords → ⊥
KeepsWords _ = Unit {0}

after_load_keeps : (answer : Loaded) (name : List ℕ) (on : Type 0) → AfterLoad answer name (Refused BadWords) on → on
after_load_keeps Done name on h = h
after_load_keeps _ name on h = absurd (cc h)

walk_keeps : (files : Option Files) (d : Dialogue) → KeepsWords d → Walks files d (Refused BadWords) → ⊥
walk_keeps files (Load name limit next) keeps h = walk_keeps files (next h.1) (keeps h.1) (after_load_keeps h.0 name _ h.3)
walk_keeps files (Refuse refusal) keeps h = elim h [ inl e ↦ keeps (cc e) | inr e ↦ absurd (cc e) ]
walk_keeps files (Say plans reply) keeps h = elim h [ inl w ↦ absurd (let e = w.2 in cc e) | inr e ↦ absurd (cc e) ]
walk_keeps files (Hear plans limit last answers) keeps h = elim h [ inl w ↦ absurd (let e = w.2.4 in cc e) | inr e ↦ absurd (cc e) ]

judge_keeps : {A F : Type 0} (v : Result A F) (refused : F → Refusal) (next : A → Dialogue) → ((fault : F) → refused fault ≡ BadWords → ⊥) → ((a : A) → KeepsWords (next a)) → KeepsWords (judge v refused next)
judge_keeps (Ok a) refused next other on = on a
judge_keeps (Err fault) refused next other on = other fault

first_keeps : (entry : Entry) (others : List Placed) (next : List Placed → Dialogue) (plans : List Plan) → ((ps : List Placed) → KeepsWords (next ps)) → KeepsWords (with_first entry others next plans)
first_keeps entry others next [] on = on others
first_keeps entry others next (plan ∷ plans) on = judge_keeps (offset_of entry others plan) BadSource _ (λ fault e. cc e) (λ offset. on _)

programs_keep : (entries : List Entry) (placed : List Placed) (next : List Placed → Dialogue) → ((ps : List Placed) → KeepsWords (next ps)) → KeepsWords (with_programs entries placed next)
programs_keep [] placed next on = on placed
programs_keep (entry ∷ entries) placed next on = λ bytes.
    judge_keeps (plans_of bytes) BadSource _ (λ fault e. cc e) (λ plans. first_keeps entry placed _ plans (λ more. programs_keep entries more next on))

script_keeps : (script : Option (List ℕ)) (next : List ScriptEntry → Dialogue) → ((s : List ScriptEntry) → KeepsWords (next s)) → KeepsWords (with_script script next)
script_keeps None next on = judge_keeps (script_of []) BadScript next (λ fault e. cc e) on
script_keeps (Some name) next on = λ bytes. judge_keeps (script_of bytes) BadScript next (λ fault e. cc e) on

linked_keeps : (table : Bool) (next : Image → Dialogue) (image : Image) → ((i : Image) → KeepsWords (next i)) → KeepsWords (with_linked table next image)
linked_keeps true next image on = judge_keeps (linked image) BadStart next (λ fault e. cc e) on
linked_keeps false next image on = on image

run_keeps : (use_run : Use) (device : DeviceMeaning) (run : Run) → ((w : Setting) (image : Image) (ps : List Placed) → KeepsWords (use_run w image ps)) → KeepsWords (with_run use_run device run)
run_keeps use_run device run on = λ bytes.
    judge_keeps (image_of bytes) BadImage _ (λ fault e. cc e)
    (λ read. linked_keeps run.table _ read (λ image. script_keeps run.script _ (λ script. programs_keep run.pio [] _ (on _ image))))

command_keeps : (device : DeviceMeaning) (aims : List Aim) (command : Subcommand) → KeepsWords (dialogue_of device aims command)
command_keeps device aims (RunImage run) = run_keeps (say_run run.stats aims) device run (λ w image ps. tt)
command_keeps device aims (DebugImage run) = run_keeps hear_run device run (λ w image ps. tt)
command_keeps device aims (Disassemble words side) = tt
command_keeps device aims (Assemble name) = λ bytes. judge_keeps (plans_of bytes) BadSource _ (λ fault e. cc e) (λ plans. tt)
command_keeps device aims (AssembleThumb name) = λ bytes. judge_keeps (image_of_source bytes) BadThumb _ (λ fault e. cc e) (λ image. tt)
command_keeps device aims (Generate number cycles workers stats) = tt

pub words_refused : (files : Option Files) (b : Board) (asked : Option Subcommand) → Walks files (dialogue_from b asked) (Refused BadWords) → asked ≡ None
words_refused files b None h = refl
words_refused files b (Some command) h = absurd (walk_keeps files (dialogue_from b (Some command)) (command_keeps (device_in b command) (aims_in b.probes command) command) h)

-- ---- over files that the shelf tells

-- an ending is of a verdict: the refusal, a text, or what was heard up to the limit
abbrev pub IsOf : Verdict → Ending → Type 0
IsOf (Refuses refusal) e = e ≡ Refused refusal
IsOf Says e = (reply : Reply) × (e ≡ Said reply)
IsOf (Hears limit last) e =
    (bytes : List ℕ) × (way : Way) × (length bytes ≤ limit) × MayEnd limit (closes last bytes) (length bytes) way
    × (reply : Reply) × (e ≡ Heard bytes way reply)

-- a walk over files that are told found no memory, lost a file, or ends as the verdict says
abbrev pub Follows : Verdict → Ending → Type 0
Follows v e = (e ≡ NoMemory) ⊎ (((name : List ℕ) × (e ≡ Refused (Lost name))) ⊎ IsOf v e)

fits : (held : Option (List ℕ)) (bytes name : List ℕ) (limit : ℕ) (next : List ℕ → Verdict) → length bytes ≤ limit → held ≡ Some bytes → next bytes ≡ on_held held name limit next
fits held bytes name limit next le is =
    let small : nat_le (length bytes) limit ≡ true = grind (arith, le) in rw is (rw small refl)

long : (held : Option (List ℕ)) (name : List ℕ) (limit n : ℕ) (next : List ℕ → Verdict) → limit < n → IsSomeAnd held (λ bytes. length bytes ≡ n) → Refuses (TooLarge name n) ≡ on_held held name limit next
long None name limit n next lt h = absurd h
long (Some bytes) name limit n next lt h =
    let large : nat_le (length bytes) limit ≡ false = grind (arith, lt, h) in rw large (ap (λ k. Refuses (TooLarge name k)) (sym h))

after_load_follows : (f : Files) (e : Ending) (next : List ℕ → Verdict) (on : Type 0) (answer : Loaded) (bytes name : List ℕ) (limit : ℕ) → (on → Follows (next bytes) e) → Answers (Some f) name limit answer bytes → AfterLoad answer name e on → Follows (on_held (f name) name limit next) e
after_load_follows f e next on Done bytes name limit first answers h = subst (λ (v : Verdict). Follows v e) (fits (f name) bytes name limit next answers.0 answers.1) (first h)
after_load_follows f e next on (Large n) bytes name limit first answers h =
    inr (inr (subst (λ (v : Verdict). IsOf v e) (long (f name) name limit n next answers.0 answers.1) h))
after_load_follows f e next on Failed bytes name limit first answers h = inr (inl (name, h))
after_load_follows f e next on Starved bytes name limit first answers h = inl h

pub walk_follows : (f : Files) (d : Dialogue) (e : Ending) → Walks (Some f) d e → Follows (verdict f d) e
walk_follows f (Load name limit next) e h =
    after_load_follows f e (λ bytes. verdict f (next bytes)) _ h.0 h.1 name limit (λ w. walk_follows f (next h.1) e w) h.2 h.3
walk_follows f (Refuse refusal) e h = elim h [ inl is ↦ inr (inr is) | inr none ↦ inl none ]
walk_follows f (Say plans reply) e h = elim h [ inl w ↦ inr (inr (reply w.0, w.2)) | inr none ↦ inl none ]
walk_follows f (Hear plans limit last answers) e h = elim h [
  | inl w ↦ let t = w.2 in inr (inr (t.0, t.1, t.2, t.3, heard_as last (answers w.0) t.0 t.1, t.4))
  | inr none ↦ inl none
]

-- ---- what was found, and where a walk ended

-- one part of a dialogue behind another
pub leads_behind : {V W : Type 0} {files files' : Option Files} {a b c : List (List ℕ)} {mid : V → Dialogue} {last : W → Dialogue} {d : Dialogue} {v : V} (r : Result W Unopened)
    → Leads files a b mid d (Ok v) → files' ≡ files → Leads files' b c last (mid v) r → Leads files a c last d r
leads_behind {V} {W} {files} {files'} {a} {b} {c} {mid} {last} {d} {v} (Ok w) first same second =
    let s = subst (λ (f : Option Files). Leads f b c last (mid v) (Ok w)) same second in
    record { found = (s.found.0 ∙ first.found.0, λ e w. first.found.1 e (s.found.1 e w)); ended = tt }
leads_behind {V} {W} {files} {files'} {a} {b} {c} {mid} {last} {d} {v} (Err u) first same second =
    let s = (subst (λ (f : Option Files). Leads f b c last (mid v) (Err u)) same second).ended in
    record { found = tt; ended = (s.0, first.found.1 s.0 s.1, s.2 ∙ ap (λ f. failed_names f s.0) first.found.0, s.3) }

-- where the walk ended is handed on
pub leads_cut : {V W : Type 0} {files : Option Files} {a b : List (List ℕ)} {mid : V → Dialogue} {last : W → Dialogue} {d : Dialogue} {u : Unopened} (r : Result W Unopened)
    → IsErrAnd r (λ x. x ≡ u) → Leads files a b mid d (Err u) → Leads files a b last d r
leads_cut (Ok w) is h = absurd is
leads_cut {V} {W} {files} {a} {b} {mid} {last} {d} (Err x) is h = record { found = tt; ended = subst (λ (x : Unopened). EndsUnopened files a b d x) (sym is) h.ended }

-- memory ran out
pub leads_out : {W : Type 0} {files : Option Files} {a : List (List ℕ)} {last : W → Dialogue} {d : Dialogue} (r : Result W Unopened) → IsErrAnd r (λ x. x ≡ Memory) → Leads files a a last d r
leads_out (Ok w) is = absurd is
leads_out {W} {files} {a} {last} {d} (Err x) is = record { found = tt; ended = subst (λ (x : Unopened). EndsUnopened files a a d x) (sym is) (runs_out files a d) }

-- what is judged leads on, or the walk ends there
pub judge_leads : {A F : Type 0} {files : Option Files} {failed : List (List ℕ)} (verdict : Result A F) (refused : F → Refusal) (result : Result A Unopened) (next : A → Dialogue)
    → ((fault : F) → failed ≡ failed_names failed (Refused (refused fault))) → Judges verdict refused result → Leads files failed failed next (judge verdict refused next) result
judge_leads verdict refused (Ok a) next same is = record { found = (refl, λ e w. rw is w); ended = tt }
judge_leads verdict refused (Err (Refusing refusal)) next same is = record { found = tt; ended = (Refused (refused is.0), rw is.1 (inl refl), same is.0, ap Refused (sym is.2)) }
judge_leads {A} {F} {files} {failed} verdict refused (Err Memory) next same is = record { found = tt; ended = runs_out files failed (judge verdict refused next) }

-- a file was loaded, and what it has is judged
pub file_leads : {W A F : Type 0} {files : Option Files} {a b : List (List ℕ)} {name : List ℕ} {limit : ℕ} {bytes : Vec ℕ Global} {last : W → Dialogue} (read : List ℕ → Result A F) (refused : F → Refusal) (next : A → Dialogue) (r : Result W Unopened)
    → ((next : List ℕ → Dialogue) → Leads files a b (λ bytes. next bytes.items) (Load name limit next) (Ok bytes)) → Leads files b b last (judge (read bytes.items) refused next) r
    → Leads files a b last (Load name limit (λ b. judge (read b) refused next)) r
file_leads read refused next r first second = leads_behind r (first _) refl second

-- what is judged is refused
pub judge_refuses : {A F W : Type 0} {files : Option Files} {a : List (List ℕ)} {last : W → Dialogue} {verdict : Result A F} (refused : F → Refusal) (next : A → Dialogue) (fault : F) (refusal : Written)
    → verdict ≡ Err fault → meant refusal ≡ refused fault → a ≡ failed_names a (Refused (refused fault)) → Leads files a a last (judge verdict refused next) (Err (Refusing refusal))
judge_refuses refused next fault refusal is meaning same =
    record { found = tt; ended = (Refused (refused fault), rw is (inl refl), same, ap Refused (sym meaning)) }

-- the programs of a source are listed
pub listing_leads : {files : Option Files} {a : List (List ℕ)} (device : DeviceMeaning) (aims : List Aim) (verdict : Result (List Plan) PioFault) (programs : List Program) (text : Vec ℕ Global) (pieces : Pieces)
    → Assembles programs verdict → text.items ≡ listing programs
    → Leads files a a (opened_dialogue device aims) (judge verdict BadSource (λ plans. Say plans (λ programs. plain (listing programs)))) (Ok (Text text pieces))
listing_leads {files} device aims (Ok plans) programs text pieces have is =
    record { found = (refl, λ e w. said_with files plans programs (λ ps. plain (listing ps)) (plain text.items) e have (ap plain (sym is)) w); ended = tt }
listing_leads device aims (Err fault) programs text pieces have is = absurd have

-- each part of an image that was read has bytes
have_bytes : (parts : List Part) → AllByRecursion IsSized parts → HaveBytes parts
have_bytes [] h = tt
have_bytes (part ∷ parts) h = (h.0.some, have_bytes parts h.1)

pub read_has_bytes : (bytes : List ℕ) (image : Image) → length bytes ≤ 16777216 → image_of bytes ≡ Ok image → HaveBytes image.parts
read_has_bytes bytes image short is = have_bytes image.parts (what_is_read_can_be_written bytes image short is).sizes

-- ---- a run

-- the cycle of a first state is 0
load_cycle : (load : PioLoad) (s : State) → (with_load load s).cycle ≡ s.cycle
load_cycle load s = elim (load.block == 0) as (λ b. (if b then record s { pio0 = with_block s.pio0 (block_loaded load s.pio0.block) } else record s { pio1 = with_block s.pio1 (block_loaded load s.pio1.block) }).cycle ≡ s.cycle) [ true ↦ refl | false ↦ refl ]

loads_cycle : (loads : List PioLoad) (s : State) → (with_loads loads s).cycle ≡ s.cycle
loads_cycle [] s = refl
loads_cycle (load ∷ loads) s = loads_cycle loads (with_load load s) ∙ load_cycle load s

first_cycle : (device : DeviceMeaning) (image : Image) → (first_state device image).cycle ≡ 0
unfolding first_state
first_cycle device image = refl

pub start_cycle : (device : DeviceMeaning) (image : Image) (loads : List PioLoad) → (start device image loads).cycle ≡ 0
unfolding start
start_cycle device image loads = loads_cycle loads (first_state device image) ∙ first_cycle device image

-- the machine booted, or memory ran out
pub boots_leads : (aims : List Aim) (purpose : Purpose) (files : Option Files) (failed : List (List ℕ)) (device : DeviceMeaning) (script : List ScriptEntry) (limit : ℕ) (image : Image) (ps : List Placed) (loads : List PioLoad) (result : Result Opened Unopened)
    → ArePlaced ps loads → IfOk result (Boots purpose (start device image loads) script limit) → IfErr result (λ unopened. unopened ≡ Memory)
    → Leads files failed failed (opened_dialogue device aims) (use_for aims purpose (setting_of script device limit) image ps) result
boots_leads aims purpose files failed device script limit image ps loads (Err u) placed ok err = leads_out (Err u) err
boots_leads aims (ForRun stats) files failed device script limit image ps loads (Ok opened) placed ok err =
    let w : Setting = setting_of script device limit in
    let reply : List Program → Reply = λ programs. run_reply stats aims w (start device image (loads_of ps programs)) in
    let own : Reply = run_reply ok.0.stats aims (setting_of ok.0.script device ok.0.limit) ok.0.machine in
    let here : reply placed.programs ≡ own =
    ap (λ ls. run_reply stats aims w (start device image ls)) (sym placed.are) ∙ rw (sym ok.2, sym ok.3, sym ok.4, sym ok.5) refl in
    record {
      found = (refl, λ e walk. said_with files (plans_in ps) placed.programs reply own e placed.words here (subst (λ (o : Opened). Walks files (opened_dialogue device aims o) e) ok.1 walk));
      ended = tt;
    }
boots_leads aims ForDebug files failed device script limit image ps loads (Ok opened) placed ok err =
    let w : Setting = setting_of script device limit in
    let own = session_reply (setting_of ok.0.script device ok.0.limit) (first_of ok.0.session) in
    let answers : List Program → List (List ℕ) → Reply = λ programs. session_reply w (start device image (loads_of ps programs)) in
    let same : start device image (loads_of ps placed.programs) ≡ first_of ok.0.session = ap (start device image) (sym placed.are) ∙ sym ok.2.first in
    let here : answers placed.programs ≡ own = rw (same, sym ok.3, sym ok.4) refl in
    record {
      found = (refl, λ e walk. heard_with files (plans_in ps) placed.programs input_limit quits answers own e placed.words here (subst (λ (o : Opened). Walks files (opened_dialogue device aims o) e) ok.1 walk));
      ended = tt;
    }

-- the line of a refusal was put with its status
pub refuses_by : (a b : Sunk) (status : ℕ) (refusal : Written) (unopened : Unopened) (wanted : ℕ) (text : List ℕ) → unopened ≡ Refusing refusal → wanted ≡ status_of (meant refusal) → text ≡ refused_line (meant refusal) → Puts a b status wanted text → PutsRefusal a b status unopened
refuses_by a b status refusal unopened wanted text is w t puts =
    rw is (inl (subst (λ (x : ℕ). Puts a b status x (refused_line (meant refusal))) w (subst (λ (x : List ℕ). Puts a b status wanted x) t puts)))

-- ---- addresses that are taken

load_at : (loads : List PioLoad) (k : ℕ) (d : PioLoad) → AreLoads loads → k < length loads → IsLoad (get_or loads k d)
load_at [] k d h lt = absurd (omega (arith, lt))
load_at (load ∷ loads) zero d h lt = h.0
load_at (load ∷ loads) (suc k) d h lt = load_at loads k d h.1 (omega (arith, lt))

-- the words of a load lie in the block's memory
pub room_at : (loads : List PioLoad) (k n : ℕ) (load : PioLoad) → AreLoads loads → k < length loads → load ≡ get_or loads k load → n ≡ length load.program.words.items → load.offset + n ≤ 32
room_at loads k n load h lt is e =
    let fits : IsLoad load = subst IsLoad (sym is) (load_at loads k load h lt) in
    let room : load.offset + length load.program.words.items ≤ 32 = fits.room in omega (arith, room, e)

pub loads_push : (loads : List PioLoad) (load : PioLoad) → AreLoads loads → IsLoad load → AreLoads (loads ++ load ∷ [])
loads_push [] load h k = (k, tt)
loads_push (l ∷ loads) load h k = (h.0, loads_push loads load h.1 k)

-- one more placed program with its words
words_push : (ps : List Placed) (programs : List Program) (p : Placed) (program : Program) → ArePrograms (plans_in ps) programs → IsProgram p.plan program
    → ArePrograms (plans_in (ps ++ p ∷ [])) (programs ++ program ∷ []) × (loads_of (ps ++ p ∷ []) (programs ++ program ∷ []) ≡ loads_of ps programs ++ loads_of (p ∷ []) (program ∷ []))
words_push [] [] p program h is = ((is, tt), refl)
words_push [] (x ∷ programs) p program h is = absurd h
words_push (q ∷ ps) [] p program h is = absurd h
words_push (q ∷ ps) (x ∷ programs) p program h is =
    let more = words_push ps programs p program h.1 is in ((h.0, more.0), ap (λ (ls : List PioLoad). loads_of (q ∷ []) (x ∷ []) ++ ls) more.1)

-- loads take the addresses of the placed programs
taken_same : (used block : ℕ) (ps : List Placed) (programs : List Program) → ArePrograms (plans_in ps) programs → taken_from used block ps ≡ taken_by used block (loads_of ps programs)
taken_same used block [] [] h = refl
taken_same used block [] (x ∷ programs) h = absurd h
taken_same used block (p ∷ ps) [] h = absurd h
taken_same used block (p ∷ ps) (x ∷ programs) h =
    ap (λ n. taken_from (if p.block == block then with_addresses used p.offset n else used) block ps) (sym (words_length p.plan.members x.words.items h.0.words))
    ∙ taken_same (if p.block == block then with_addresses used p.offset (length x.words.items) else used) block ps programs h.1

-- the offset that a program gets
offset_same : (entry : Entry) (ps : List Placed) (loads : List PioLoad) (plan : Plan) (program : Program) → ArePlaced ps loads → IsProgram plan program → offset_of entry ps plan ≡ placed (taken_by 0 entry.block loads) program.origin (length program.words.items)
offset_same entry ps loads plan program h is =
    let long : length plan.members ≡ length program.words.items = sym (words_length plan.members program.words.items is.words) in
    rw (taken_same 0 entry.block ps h.programs h.words, long, sym is.origin) (ap (λ ls. placed (taken_by 0 entry.block ls) program.origin (length program.words.items)) (sym h.are))

-- the walk ended
pub places_end : {W : Type 0} {files : Option Files} {a b : List (List ℕ)} {part : (List Placed → Dialogue) → Dialogue} {rest : List Entry} {news : W → List PioLoad} (u : Unopened) (r : Result W Unopened)
    → IsErrAnd r (λ x. x ≡ u) → ((next : List Placed → Dialogue) → EndsUnopened files a b (part next) u) → Places files a b part rest news r
places_end u (Ok w) is ends = absurd is
places_end {W} {files} {a} {b} {part} u (Err x) is ends =
    record { after = []; placed = tt; leads = λ next. record { found = tt; ended = subst (λ (x : Unopened). EndsUnopened files a b (part next) x) (sym is) (ends next) } }

-- ---- the first program of a source

pub first_none : (verdict : Result (List Plan) PioFault) → IsFirst None verdict → verdict ≡ Ok []
first_none (Ok []) is = refl
first_none (Ok (plan ∷ plans)) is = absurd is
first_none (Err fault) is = absurd is

pub first_some : (verdict : Result (List Plan) PioFault) (program : Program) → IsFirst (Some program) verdict
    → (plan : Plan) × (plans : List Plan) × (verdict ≡ Ok (plan ∷ plans)) × IsProgram plan program × IsRunnable program
first_some (Ok []) program is = absurd (cc is)
first_some (Ok (plan ∷ plans)) program is = (plan, plans, refl, is.0, is.1)
first_some (Err fault) program is = absurd is

-- it is placed behind others
pub first_placed : {files : Option Files} {a b : List (List ℕ)} {bytes : Vec ℕ Global} (entry : Entry) (before : List Placed) (loads more : List PioLoad) (program : Program) (load : PioLoad)
    → ((next : List ℕ → Dialogue) → Leads files a b (λ bytes. next bytes.items) (Load entry.file source_limit next) (Ok bytes)) → ArePlaced before loads → IsFirst (Some program) (plans_of bytes.items)
    → more ≡ loads ++ load ∷ [] → load ≡ record { block = entry.block; machine = entry.machine; offset = load.offset; program = program }
    → placed (taken_by 0 entry.block loads) program.origin (length program.words.items) ≡ Ok load.offset → Places {V = Unit {0}} files a b (with_program entry before) [] (λ done. more) (Ok tt)
first_placed {bytes = bytes} entry before loads more program load file h first is parts at =
    let f = first_some (plans_of bytes.items) program first in
    let p : Placed = placed_as entry f.0 load.offset in
    let offset : offset_of entry before f.0 ≡ Ok load.offset = offset_same entry before loads f.0 program h f.3 ∙ at in
    let both = words_push before h.programs p program h.words f.3 in
    record {
      after = before ++ p ∷ [];
      placed = record { programs = h.programs ++ program ∷ []; words = both.0; are = is ∙ ap₂ (λ (xs : List PioLoad) (x : PioLoad). xs ++ x ∷ []) h.are parts ∙ sym both.1 };
      leads = λ next. leads_behind (Ok tt) (file _) refl (record { found = (refl, λ e w. rw f.2 (rw offset w)); ended = tt });
    }

-- it has no room
pub first_refused : {W : Type 0} {files : Option Files} {a b : List (List ℕ)} {bytes : Vec ℕ Global} (entry : Entry) (before : List Placed) (loads : List PioLoad) {news : W → List PioLoad} (program : Program) (fault : PioFault)
    → ((next : List ℕ → Dialogue) → Leads files a b (λ bytes. next bytes.items) (Load entry.file source_limit next) (Ok bytes)) → ArePlaced before loads → IsFirst (Some program) (plans_of bytes.items)
    → placed (taken_by 0 entry.block loads) program.origin (length program.words.items) ≡ Err fault → Places files a b (with_program entry before) [] news (Err (Refusing (Source fault)))
first_refused {bytes = bytes} entry before loads program fault file h first at =
    let f = first_some (plans_of bytes.items) program first in
    let offset : offset_of entry before f.0 ≡ Err fault = offset_same entry before loads f.0 program h f.3 ∙ at in
    record {
      after = [];
      placed = tt;
      leads = λ next. leads_behind (Err _) (file _) refl (record { found = tt; ended = (Refused (BadSource fault), rw f.2 (rw offset (inl refl)), refl, refl) });
    }

-- ---- all entries

-- one more entry
pub places_next : {V W : Type 0} {files files' : Option Files} {a b c : List (List ℕ)} {part : (List Placed → Dialogue) → Dialogue} {entry : Entry} {rest : List Entry} {loads : V → List PioLoad} {news : W → List PioLoad} {v : V} {r : Result W Unopened}
    (h : Places files a b part (entry ∷ rest) loads (Ok v)) → files' ≡ files → Places files' b c (with_program entry h.after) [] news r → Places files a c part rest news r
places_next {V} {W} {files} {files'} {a} {b} {c} {part} {entry} {rest} h same k =
    record { after = k.after; placed = k.placed; leads = λ next. leads_behind _ (h.leads next) same (k.leads (λ more. with_programs rest more next)) }

-- the loads are these
pub places_as : {V W : Type 0} {files : Option Files} {a b : List (List ℕ)} {part : (List Placed → Dialogue) → Dialogue} {rest : List Entry} {loads : V → List PioLoad} {news : W → List PioLoad} {v : V} {w : W}
    → Places files a b part rest loads (Ok v) → loads v ≡ news w → Places files a b part rest news (Ok w)
places_as h is = record { after = h.after; placed = subst (ArePlaced h.after) is h.placed; leads = λ next. record { found = (h.leads next).found; ended = tt } }

-- the entries from one on are this one and the others
pub entry_next : (entries : List PioEntry) (k : ℕ) (entry : PioEntry) → k < length entries → entry ≡ get_or entries k entry → map entry_in (drop k entries) ≡ entry_in entry ∷ map entry_in (drop (k + 1) entries)
entry_next entries k entry lt is =
    at_drop_more (map entry_in) entries k entry lt ∙ ap (λ x. entry_in x ∷ map entry_in (drop (k + 1) entries)) (sym is)
