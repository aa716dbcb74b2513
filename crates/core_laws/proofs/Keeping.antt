-- What every instruction keeps of the registers.
use Rattle.std.proofs.Common.{◌≡◌, ◌∙◌, ℕ, ◌+◌, ◌*◌, ◌/◌, ◌==◌, ◌&&◌, Bool, true, false, cond, List, [], ◌∷◌, length, refl, sym, ap, arith, true≢false, nat_lt}
use Rattle.core_laws.proofs.Shared.{◌^◌, slice_index, slice_set, length-set, bit_number, has_bit, Op, Regs, is_thread, with_sp, with_pc, with_register, moved_on, condition_holds, is_exception_return, registers_of, effect_of}
use Rattle.rp_base.specs.declared.op.Op.TheVariants as op
use Rattle.m0_beats.specs.Special.{with_special}
use Rattle.m0_beats.specs.Effects.{exchanged, with_loaded, with_all_loaded}

-- stack pointers stay multiples of 4 and PC even; the mode stays, and SPSEL in Handler mode
pub record Keeps (r t : Regs) : Type 0 where
  pub thirteen : length t.r ≡ length r.r
  pub main : r.msp / 4 * 4 ≡ r.msp → t.msp / 4 * 4 ≡ t.msp
  pub process : r.psp / 4 * 4 ≡ r.psp → t.psp / 4 * 4 ≡ t.psp
  pub even : r.pc / 2 * 2 ≡ r.pc → t.pc / 2 * 2 ≡ t.pc
  pub number : t.ipsr ≡ r.ipsr
  pub selection : is_thread r ≡ false → t.spsel ≡ r.spsel

self : (r : Regs) → Keeps r r
self r = record { thirteen = refl; main = λ h. h; process = λ h. h; even = λ h. h; number = refl; selection = λ h. refl }

then : (a b c : Regs) → Keeps a b → Keeps b c → Keeps a c
then a b c x y = record {
  thirteen = y.thirteen ∙ x.thirteen;
  main = λ h. y.main (x.main h);
  process = λ h. y.process (x.process h);
  even = λ h. y.even (x.even h);
  number = y.number ∙ x.number;
  selection = λ h. y.selection (ap (λ (i : ℕ). i == 0) x.number ∙ h) ∙ x.selection h;
}

either : (b : Bool) (r x y : Regs) → Keeps r x → Keeps r y → Keeps r (cond b x y)
either true r x y h k = h
either false r x y h k = k

-- ---- parts

pub quarters : (v : ℕ) → v / 4 * 4 / 4 * 4 ≡ v / 4 * 4
quarters v = omega arith

pub halves : (v : ℕ) → v / 2 * 2 / 2 * 2 ≡ v / 2 * 2
halves v = omega arith

flags : (r : Regs) (n z c v t mask : Bool) (lr : ℕ) → Keeps r (record r { n = n; z = z; c = c; v = v; t = t; primask = mask; lr = lr })
flags r n z c v t mask lr = record { thirteen = refl; main = λ h. h; process = λ h. h; even = λ h. h; number = refl; selection = λ h. refl }

main_set : (r : Regs) (v : ℕ) → Keeps r (record r { msp = v / 4 * 4 })
main_set r v = record { thirteen = refl; main = λ h. quarters v; process = λ h. h; even = λ h. h; number = refl; selection = λ h. refl }

process_set : (r : Regs) (v : ℕ) → Keeps r (record r { psp = v / 4 * 4 })
process_set r v = record { thirteen = refl; main = λ h. h; process = λ h. quarters v; even = λ h. h; number = refl; selection = λ h. refl }

pub sp_set : (r : Regs) (v : ℕ) → Keeps r (with_sp r v)
sp_set r v = either (is_thread r && r.spsel) r _ _ (process_set r v) (main_set r v)

pc_set : (r : Regs) (v : ℕ) → Keeps r (with_pc r v)
pc_set r v = record { thirteen = refl; main = λ h. h; process = λ h. h; even = λ h. halves v; number = refl; selection = λ h. refl }

list_set : (r : Regs) (k v : ℕ) → Keeps r (record r { r = slice_set r.r k v })
list_set r k v = record { thirteen = length-set r.r k v; main = λ h. h; process = λ h. h; even = λ h. h; number = refl; selection = λ h. refl }

pub register_set : (r : Regs) (k v : ℕ) → Keeps r (with_register r k v)
register_set r k v =
    either (nat_lt k 13) r _ _ (list_set r k v)
    (either (k == 13) r _ _ (sp_set r v) (either (k == 14) r _ _ (flags r r.n r.z r.c r.v r.t r.primask v) (pc_set r v)))

moved : (r : Regs) (half : ℕ) → Keeps r (moved_on r (half * 2))
moved r half = record {
  thirteen = refl;
  main = λ h. h;
  process = λ h. h;
  even = λ h. omega (arith, h);
  number = refl;
  selection = λ h. refl;
}

-- ---- instructions

-- a register takes a value, behind an instruction of so many halfwords, and with these flags
sets : (r : Regs) (half d v : ℕ) (n z c o : Bool) → Keeps r (with_register (record (moved_on r (half * 2)) { n = n; z = z; c = c; v = o }) d v)
sets r half d v n z c o =
    let m = moved_on r (half * 2) in
    let f = record m { n = n; z = z; c = c; v = o } in
    then r m _ (moved r half) (then m f _ (flags m n z c o m.t m.primask m.lr) (register_set f d v))

-- the same behind one halfword
one : (r : Regs) (d v : ℕ) (n z c o : Bool) → Keeps r (with_register (record (moved_on r 2) { n = n; z = z; c = c; v = o }) d v)
one r d v n z c o = sets r 1 d v n z c o

next : (r : Regs) → Keeps r (moved_on r 2)
next r = moved r 1

compares : (r : Regs) (n z c o : Bool) → Keeps r (record (moved_on r 2) { n = n; z = z; c = c; v = o })
compares r n z c o = let m = moved_on r 2 in then r m _ (moved r 1) (flags m n z c o m.t m.primask m.lr)

masks : (r : Regs) (set : Bool) → Keeps r (record (moved_on r 2) { primask = set })
masks r set = let m = moved_on r 2 in then r m _ (moved r 1) (flags m m.n m.z m.c m.v m.t set m.lr)

exchange : (r : Regs) (v : ℕ) → Keeps r (exchanged r v)
exchange r v =
    let p = with_pc r v in
    either (is_exception_return r.ipsr v) r _ _ (self r) (then r p _ (pc_set r v) (flags p p.n p.z p.c p.v (has_bit v 0) p.primask p.lr))

loads : (r : Regs) (k v : ℕ) → Keeps r (with_loaded r k v)
loads r k v = either (k == 15) r _ _ (exchange r v) (register_set r k v)

loads_all : (r : Regs) (ks : List ℕ) (read : List ℕ) (index : ℕ) → Keeps r (with_all_loaded r ks read index)
loads_all r [] read index = self r
loads_all r (k ∷ ks) read index =
    then r (with_loaded r k (slice_index read index)) _ (loads r k (slice_index read index)) (loads_all (with_loaded r k (slice_index read index)) ks read (index + 1))

selects : (r : Regs) (v : ℕ) (thread : Bool) → is_thread r ≡ thread → Keeps r (cond thread (record r { spsel = has_bit v 1 }) r)
selects r v true e = record { thirteen = refl; main = λ h. h; process = λ h. h; even = λ h. h; number = refl; selection = λ h. absurd (true≢false (sym e ∙ h)) }
selects r v false e = self r

special : (r : Regs) (number v : ℕ) → Keeps r (with_special r number v)
special r number v =
    either (nat_lt number 4) r _ _ (flags r (has_bit v 31) (has_bit v 30) (has_bit v 29) (has_bit v 28) r.t r.primask r.lr)
    (either (number == 8) r _ _ (main_set r v)
    (either (number == 9) r _ _ (process_set r v)
    (either (number == 16) r _ _ (flags r r.n r.z r.c r.v r.t (has_bit v 0) r.lr)
    (either (number == 20) r _ _ (selects r v (is_thread r) refl) (self r)))))

pub keeps_effect : (op : Op) (r : Regs) (read : List ℕ) → Keeps r (effect_of op r read)
unfolding effect_of
keeps_effect (op.Blx m) r read = then r (with_pc r _) _ (pc_set r _) (flags (with_pc r _) r.n r.z r.c r.v _ r.primask _)
keeps_effect (op.Push b l) r read = then r (moved_on r 2) _ (moved r 1) (sp_set (moved_on r 2) _)
keeps_effect (op.Pop b l) r read =
    let list = bit_number b * 2 ^ 15 + l in
    let p = cond (has_bit list 15) r (moved_on r 2) in
    then r p _ (either (has_bit list 15) r _ _ (self r) (moved r 1)) (then p (with_sp p _) _ (sp_set p _) (loads_all (with_sp p _) (registers_of list) read 0))
keeps_effect (op.Ldm n list) r read =
    let m = moved_on r 2 in
    let l = with_all_loaded m (registers_of list) read 0 in
    let loaded = then r m l (moved r 1) (loads_all m (registers_of list) read 0) in
    either (has_bit list n) r _ _ loaded (then r l _ loaded (register_set l n _))
keeps_effect (op.BCond c i) r read = either (condition_holds c r) r _ _ (pc_set r _) (moved r 1)
keeps_effect (op.Bl s i j) r read =
    let l = record r { lr = _ } in
    then r l _ (flags r r.n r.z r.c r.v r.t r.primask _) (pc_set l _)
keeps_effect (op.Msr n s) r read = then r (moved_on r 4) _ (moved r 2) (special (moved_on r 4) s _)
keeps_effect (op.Mrs d s) r read = sets r 2 d _ _ _ _ _
keeps_effect op.Dsb r read = moved r 2
keeps_effect op.Dmb r read = moved r 2
keeps_effect op.Isb r read = moved r 2
keeps_effect _ r read = search (one, next, compares, masks, self, exchange, pc_set)
