-- The program that is generated from a number: instructions on R0 to R7, without a branch, up to the BL that begins them anew. The
-- choice of the instructions is the project's own, their encodings are those of the ARMv6-M Architecture Reference Manual, A6.7.
use Rattle.std.specs.Prelude.{ℕ, zero, suc, ◌+◌, ◌*◌, ◌/◌, ◌%◌, ◌==◌, if◌then◌else◌, List, [], ◌∷◌, ◌++◌}
use Rattle.uf2_image.specs.declared.parts.Image.{Image}
use Rattle.uf2_image.specs.Words.{step, first_state, word_of}

-- an instruction with a register and eight bits of value, and one with two registers
abbrev pub with_value : ℕ → ℕ → ℕ → ℕ
with_value row d k = row + d * 256 + k

abbrev pub with_register : ℕ → ℕ → ℕ → ℕ
with_register row d m = row + m * 8 + d

-- MOVS d,#k, ADDS d,#k, EORS d,m, ADCS d,m, LSLS d,m, RORS d,m, MULS d,m or SUBS d,#k
abbrev pub chosen : ℕ → ℕ → ℕ → ℕ → ℕ
chosen kind d m k =
    if kind == 0 then with_value 0x2000 d k
    else if kind == 1 then with_value 0x3000 d k
    else if kind == 2 then with_register 0x4040 d m
    else if kind == 3 then with_register 0x4140 d m
    else if kind == 4 then with_register 0x4080 d m
    else if kind == 5 then with_register 0x41C0 d m
    else if kind == 6 then with_register 0x4340 d m
    else with_value 0x3800 d k

-- the instruction of a word: its kind by bits 2:0, d by bits 5:3, m by bits 8:6, k by bits 16:9
unfoldable pub instruction : ℕ → ℕ
instruction word = chosen (word % 8) (word / 8 % 8) (word / 64 % 8) (word / 512 % 256)

-- the two bytes of a halfword, before others
abbrev pub halfword : ℕ → List ℕ → List ℕ
halfword h rest = h % 256 ∷ h / 256 ∷ rest

-- the instructions of so many words, from a state on
unfoldable pub code_from : ℕ → ℕ → List ℕ
code_from zero state = []
code_from (suc count) state = halfword (instruction (word_of state)) (code_from count (step state))

-- 16,382 instructions, and then the BL, F7F8 F800 at 20007FFC, to the first of them
unfoldable pub program_of : ℕ → List ℕ
program_of number = code_from 16382 (first_state number) ++ halfword 0xF7F8 (halfword 0xF800 [])

-- the image
abbrev pub image_of_number : ℕ → Image
image_of_number number = record { parts = record { address = 0x20000000; bytes = program_of number } ∷ []; entry = 0x20000000 }
