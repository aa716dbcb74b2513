-- The table's rows that leave something out, and what no row fits.
use Rattle.std.proofs.Common.{◌≡◌, ◌≢◌, ℕ, ◌+◌, ◌*◌, ◌/◌, ◌%◌, ◌^◌, ◌<◌, refl, rules, arith}
use Rattle.std.specs.Prelude.{bit_and, ◌==◌}
use Rattle.thumb_rows.specs.Rows.{operation_of, field}
use Rattle.thumb_rows.proofs.Laws.{anything, begins, has, hint_bits, lacks, list_bits, long_law, no_word, pair_undefined, short_law, undefined_law, without, word}
use Rattle.thumb_rows.proofs.RowLaws.{row_Bkpt, row_Cpsie, row_Cpsid, row_Rev, row_Rev16, row_Revsh, row_Yield, row_Wfe, row_Wfi, row_Sev, row_Udf, row_Svc}
use Rattle.rp_base.specs.declared.op.Op.TheVariants.{Push, Pop, Nop, Stm, Ldm, BCond, Bl, Msr, Mrs, Dsb, Dmb, Isb, Undefined}

pub row_Push : (first second : ℕ) → first < 65536 → first / 512 ≡ 90 → first ≢ 0xB400 →
    operation_of first second ≡ Push (field first 8 8 == 1) (field first 7 0)
row_Push first second small starts some = short_law _ second (no_word 0xB400 small some (begins 9 90 refl small starts)) refl

pub undefined_Push : (first second : ℕ) → first ≡ 0xB400 → operation_of first second ≡ Undefined
undefined_Push first second same = undefined_law second (word 0xB400 (omega arith) same) refl

pub row_Pop : (first second : ℕ) → first < 65536 → first / 512 ≡ 94 → first ≢ 0xBC00 → operation_of first second ≡ Pop
    (field first 8 8 == 1) (field first 7 0)
row_Pop first second small starts some = short_law _ second (no_word 0xBC00 small some (begins 9 94 refl small starts)) refl

pub undefined_Pop : (first second : ℕ) → first ≡ 0xBC00 → operation_of first second ≡ Undefined
undefined_Pop first second same = undefined_law second (word 0xBC00 (omega arith) same) refl

pub undefined_state : (first second : ℕ) → first < 65536 → first / 256 ≡ 182 → first ≢ 0xB662 → first ≢ 0xB672 →
    operation_of first second ≡ Undefined
undefined_state first second small starts on off = undefined_law second
    (no_word 0xB662 small on (no_word 0xB672 small off (begins 8 182 refl small starts))) refl

pub undefined_reverse : (first second : ℕ) → first < 65536 → first / 64 ≡ 746 → operation_of first second ≡ Undefined
undefined_reverse first second small starts = undefined_law second (begins 6 746 refl small starts) refl

pub row_Nop : (first second : ℕ) → first < 65536 → first / 256 ≡ 191 → first % 16 ≡ 0 → first ≢ 0xBF10 →
    first ≢ 0xBF20 → first ≢ 0xBF30 → first ≢ 0xBF40 → operation_of first second ≡ Nop
row_Nop first second small starts ends yield wfe wfi sev =
    let hint = has 0xFF0F 0xBF00 {w = first} (omega (arith, hint_bits first small)) in
    short_law _ second
    (no_word 0xBF10 small yield (no_word 0xBF20 small wfe (no_word 0xBF30 small wfi (no_word 0xBF40 small sev hint)))) refl

pub undefined_hint : (first second : ℕ) → first < 65536 → first / 256 ≡ 191 → first % 16 ≢ 0 →
    operation_of first second ≡ Undefined
undefined_hint first second small starts ends =
    let none : bit_and first 0xFF0F ≢ 0xBF00 = λ e. ends (omega (arith, hint_bits first small, e)) in
    undefined_law second (lacks 0xFF0F 0xBF00 none (begins 8 191 refl small starts)) refl

pub row_Stm : (first second : ℕ) → first < 65536 → first / 2048 ≡ 24 → first % 256 ≢ 0 →
    operation_of first second ≡ Stm (field first 10 8) (field first 7 0)
row_Stm first second small starts some =
    let listed : bit_and first 0xF8FF ≢ 0xC000 = λ e. some (omega (arith, list_bits first small, e)) in
    short_law _ second (lacks 0xF8FF 0xC000 listed (begins 11 24 refl small starts)) refl

pub row_Ldm : (first second : ℕ) → first < 65536 → first / 2048 ≡ 25 → first % 256 ≢ 0 →
    operation_of first second ≡ Ldm (field first 10 8) (field first 7 0)
row_Ldm first second small starts some =
    let listed : bit_and first 0xF8FF ≢ 0xC800 = λ e. some (omega (arith, list_bits first small, e)) in
    short_law _ second (lacks 0xF8FF 0xC800 listed (begins 11 25 refl small starts)) refl

pub undefined_Stm : (first second : ℕ) → first < 65536 → first / 2048 ≡ 24 → first % 256 ≡ 0 →
    operation_of first second ≡ Undefined
undefined_Stm first second small starts none = undefined_law second
    (has 0xF8FF 0xC000 {w = first} (omega (arith, list_bits first small))) refl

pub undefined_Ldm : (first second : ℕ) → first < 65536 → first / 2048 ≡ 25 → first % 256 ≡ 0 →
    operation_of first second ≡ Undefined
undefined_Ldm first second small starts none = undefined_law second
    (has 0xF8FF 0xC800 {w = first} (omega (arith, list_bits first small))) refl

pub row_BCond : (first second : ℕ) → first < 65536 → first / 4096 ≡ 13 → first / 256 ≢ 222 → first / 256 ≢ 223 →
    operation_of first second ≡ BCond (field first 11 8) (field first 7 0)
row_BCond first second small starts udf svc = short_law _ second
    (without 8 222 refl small udf (without 8 223 refl small svc (begins 12 13 refl small starts))) refl

-- the other pages of the miscellaneous instructions are empty
pub undefined_pages : (first second : ℕ) → first < 65536 → first / 4096 ≡ 11 → first / 256 ≢ 176 → first / 256 ≢ 178 →
    first / 512 ≢ 90 → first / 256 ≢ 182 → first / 256 ≢ 186 → first / 512 ≢ 94 → first / 256 ≢ 190 →
    first / 256 ≢ 191 → operation_of first second ≡ Undefined
undefined_pages first second small starts not_B0 not_B2 not_5A not_B6 not_BA not_5E not_BE not_BF = undefined_law second
    (without 8 176 refl small not_B0 (without 8 178 refl small not_B2 (without 9 90 refl small not_5A
    (without 8 182 refl small not_B6 (without 8 186 refl small not_BA (without 9 94 refl small not_5E
    (without 8 190 refl small not_BE (without 8 191 refl small not_BF (begins 12 11 refl small starts))))))))) refl

pub undefined_E8 : (first second : ℕ) → first < 65536 → first / 2048 ≡ 29 → operation_of first second ≡ Undefined
undefined_E8 first second small starts = undefined_law second (begins 11 29 refl small starts) refl

pub undefined_F8 : (first second : ℕ) → first < 65536 → first / 2048 ≡ 31 → operation_of first second ≡ Undefined
undefined_F8 first second small starts = undefined_law second (begins 11 31 refl small starts) refl

pub row_Bl : (first second : ℕ) → first < 65536 → first / 2048 ≡ 30 → bit_and second 0xD000 ≡ 0xD000 →
    operation_of first second ≡ Bl (field first 10 10 == 1) (field first 9 0 * 2 ^ 11 + field second 10 0)
    (2 * field second 13 13 + field second 11 11)
row_Bl first second small starts link = long_law _ (begins 11 30 refl small starts) (has 0xD000 0xD000 {w = second} link) refl

pub row_Msr : (first second : ℕ) → first < 65536 → second < 65536 → first / 16 ≡ 3896 → first ≢ 0xF38D →
    first ≢ 0xF38F → second / 256 ≡ 136 → operation_of first second ≡ Msr (field first 3 0) (field second 7 0)
row_Msr first second small below starts sp pc special = long_law _
    (no_word 0xF38D small sp (no_word 0xF38F small pc (begins 4 3896 refl small starts))) (begins 8 136 refl below special) refl

pub row_Mrs : (second : ℕ) → second < 65536 → second / 4096 ≡ 8 → second / 256 ≢ 141 → second / 256 ≢ 143 →
    operation_of 0xF3EF second ≡ Mrs (field second 11 8) (field second 7 0)
row_Mrs second below starts sp pc = long_law (λ first second. Mrs (field second 11 8) (field second 7 0)) (word 0xF3EF (search rules) refl)
    (without 8 141 refl below sp (without 8 143 refl below pc (begins 12 8 refl below starts))) refl

pub row_Dsb : (second : ℕ) → second < 65536 → second / 16 ≡ 2292 → operation_of 0xF3BF second ≡ Dsb
row_Dsb second below starts = long_law (λ first second. Dsb) (word 0xF3BF (search rules) refl) (begins 4 2292 refl below starts) refl

pub row_Dmb : (second : ℕ) → second < 65536 → second / 16 ≡ 2293 → operation_of 0xF3BF second ≡ Dmb
row_Dmb second below starts = long_law (λ first second. Dmb) (word 0xF3BF (search rules) refl) (begins 4 2293 refl below starts) refl

pub row_Isb : (second : ℕ) → second < 65536 → second / 16 ≡ 2294 → operation_of 0xF3BF second ≡ Isb
row_Isb second below starts = long_law (λ first second. Isb) (word 0xF3BF (search rules) refl) (begins 4 2294 refl below starts) refl

pub undefined_control : (first second : ℕ) → first < 65536 → first / 2048 ≡ 30 → bit_and second 0xD000 ≢ 0xD000 →
    first / 16 ≢ 3896 → first ≢ 0xF3BF → first ≢ 0xF3EF → operation_of first second ≡ Undefined
undefined_control first second small starts link msr barrier mrs =
    pair_undefined
    (without 4 3896 refl small msr (no_word 0xF3BF small barrier (no_word 0xF3EF small mrs (begins 11 30 refl small starts))))
    (lacks 0xD000 0xD000 link anything) refl

pub undefined_Msr : (first second : ℕ) → first < 65536 → second < 65536 → first / 16 ≡ 3896 →
    bit_and second 0xD000 ≢ 0xD000 → second / 256 ≢ 136 → operation_of first second ≡ Undefined
undefined_Msr first second small below starts link special = pair_undefined (begins 4 3896 refl small starts)
    (lacks 0xD000 0xD000 link (without 8 136 refl below special anything)) refl

pub undefined_Msr_sp : (first second : ℕ) → first ≡ 0xF38D → bit_and second 0xD000 ≢ 0xD000 →
    operation_of first second ≡ Undefined
undefined_Msr_sp first second same link = pair_undefined (word 0xF38D (omega arith) same) (lacks 0xD000 0xD000 link anything) refl

pub undefined_Msr_pc : (first second : ℕ) → first ≡ 0xF38F → bit_and second 0xD000 ≢ 0xD000 →
    operation_of first second ≡ Undefined
undefined_Msr_pc first second same link = pair_undefined (word 0xF38F (omega arith) same) (lacks 0xD000 0xD000 link anything) refl

pub undefined_Mrs : (second : ℕ) → second < 65536 → bit_and second 0xD000 ≢ 0xD000 → second / 4096 ≢ 8 →
    operation_of 0xF3EF second ≡ Undefined
undefined_Mrs second below link special = pair_undefined (word 0xF3EF (search rules) refl)
    (lacks 0xD000 0xD000 link (without 12 8 refl below special anything)) refl

pub undefined_Mrs_sp : (second : ℕ) → second < 65536 → second / 256 ≡ 141 → operation_of 0xF3EF second ≡ Undefined
undefined_Mrs_sp second below starts = pair_undefined (word 0xF3EF (search rules) refl) (begins 8 141 refl below starts) refl

pub undefined_Mrs_pc : (second : ℕ) → second < 65536 → second / 256 ≡ 143 → operation_of 0xF3EF second ≡ Undefined
undefined_Mrs_pc second below starts = pair_undefined (word 0xF3EF (search rules) refl) (begins 8 143 refl below starts) refl

pub undefined_barrier : (second : ℕ) → second < 65536 → bit_and second 0xD000 ≢ 0xD000 → second / 16 ≢ 2292 →
    second / 16 ≢ 2293 → second / 16 ≢ 2294 → operation_of 0xF3BF second ≡ Undefined
undefined_barrier second below link dsb dmb isb = pair_undefined (word 0xF3BF (search rules) refl)
    (lacks 0xD000 0xD000 link (without 4 2292 refl below dsb (without 4 2293 refl below dmb (without 4 2294 refl below isb anything)))) refl

pub ruleset miscellaneous_rows = (row_Bkpt, undefined_pages)

pub ruleset push_rows = (row_Push, undefined_Push)

pub ruleset pop_rows = (row_Pop, undefined_Pop)

pub ruleset change_state_rows = (row_Cpsie, row_Cpsid, undefined_state)

pub ruleset reverse_rows = (row_Rev, row_Rev16, row_Revsh, undefined_reverse)

pub ruleset hint_rows = (row_Yield, row_Wfe, row_Wfi, row_Sev, row_Nop, undefined_hint)

pub ruleset multiple_rows = (row_Stm, row_Ldm, undefined_Stm, undefined_Ldm)

pub ruleset branch_on_condition_rows = (row_BCond, row_Udf, row_Svc)

pub ruleset decode_long_rows = (undefined_E8, undefined_F8)

pub ruleset branch_with_link_rows = (row_Bl)

pub ruleset control_rows = (undefined_control)

pub ruleset write_special_rows = (row_Msr, undefined_Msr, undefined_Msr_sp, undefined_Msr_pc)

pub ruleset read_special_rows = (row_Mrs, undefined_Mrs, undefined_Mrs_sp, undefined_Mrs_pc)

pub ruleset barrier_rows = (row_Dsb, row_Dmb, row_Isb, undefined_barrier)
