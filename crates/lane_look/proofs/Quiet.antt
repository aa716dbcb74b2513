-- Devices that are quiet.
use Rattle.std.proofs.Common.{◌≡◌, ℕ, zero, suc, ◌+◌, ◌≤◌, List, ◌++◌, length, take, drop, refl, sym, ap, ◌∙◌, length-append, arith}
use Rattle.std.proofs.lemmas.List.{take-append-drop}
use Rattle.std.proofs.Math.Seq.{take-append_seam, drop-append_seam}
use Rattle.lane_look.specs.declared.device.Wires.{Wires}
use Rattle.lane_look.specs.Device.{DeviceMeaning, no_device, joined, paired}
use Rattle.lane_look.specs.Quiet.{device_step, device_after, IsDeviceQuiet}
use Rattle.lane_look.specs.Times.{times}
use Rattle.lane_look.proofs.Times.{times_none, times_more, times_rest}

-- for no cycle
pub quiet_none : (d : DeviceMeaning) (state : List ℕ) (cycle pads : ℕ) → length state ≡ d.count → IsDeviceQuiet d state cycle pads 0
quiet_none d state cycle pads fits = record {
  drives = λ k lt. absurd (omega arith);
  words = λ k le. let e : k ≡ 0 = omega arith in ap length (times_none (device_step d pads) cycle k state e) ∙ fits;
}

-- for fewer cycles
pub quiet_less : (d : DeviceMeaning) (state : List ℕ) (cycle pads n k : ℕ) → IsDeviceQuiet d state cycle pads n → k ≤ n → IsDeviceQuiet d state cycle pads k
quiet_less d state cycle pads n k q le = record {
  drives = λ j lt. q.drives j (omega arith);
  words = λ j lt. q.words j (omega arith);
}

-- a device that no cycle changes, and that drives the same in each
pub quiet_rest : (d : DeviceMeaning) (state : List ℕ) (cycle pads n : ℕ) → length state ≡ d.count → ((c : ℕ) → d.after_step state c pads ≡ state) → ((c : ℕ) → d.wires state c pads ≡ d.wires state cycle pads) → IsDeviceQuiet d state cycle pads n
quiet_rest d state cycle pads n fits still same = record {
  drives = λ k lt. ap (λ (x : List ℕ). d.wires x (cycle + k) pads) (times_rest (device_step d pads) cycle k state still) ∙ same (cycle + k);
  words = λ k le. ap length (times_rest (device_step d pads) cycle k state still) ∙ fits;
}

-- no device is quiet without end
pub none_after : (pads first n : ℕ) (state : List ℕ) → device_after no_device pads first n state ≡ state
none_after pads first n state = times_rest (device_step no_device pads) first n state (λ cycle. refl)

pub none_quiet : (state : List ℕ) (cycle pads n : ℕ) → length state ≡ 0 → IsDeviceQuiet no_device state cycle pads n
none_quiet state cycle pads n fits = quiet_rest no_device state cycle pads n fits (λ c. refl) (λ c. refl)

-- ---- two devices, each quiet

-- the two parts of a state after so many cycles, as long as the first one keeps its number of words
pub paired_after : (a b : DeviceMeaning) (pads first n : ℕ) (front back : List ℕ) → ((k : ℕ) → k ≤ n → length (device_after a pads first k front) ≡ a.count) → device_after (paired a b) pads first n (front ++ back) ≡ device_after a pads first n front ++ device_after b pads first n back
unfolding times
paired_after a b pads first zero front back fits = refl
paired_after a b pads first (suc n) front back fits =
    let x = device_after a pads first n front in
    let y = device_after b pads first n back in
    let e : a.count ≡ length x = sym (fits n (omega arith)) in
    let split : device_after (paired a b) pads first n (front ++ back) ≡ x ++ y = paired_after a b pads first n front back (λ k le. fits k (omega arith)) in
    let x_is : take a.count (x ++ y) ≡ x = ap (λ (c : ℕ). take c (x ++ y)) e ∙ take-append_seam x y in
    let y_is : drop a.count (x ++ y) ≡ y = ap (λ (c : ℕ). drop c (x ++ y)) e ∙ drop-append_seam x y in
    ap (device_step (paired a b) pads (first + n)) split
    ∙ ap (λ (z : List ℕ). a.after_step z (first + n) pads ++ b.after_step (drop a.count (x ++ y)) (first + n) pads) x_is
    ∙ ap (λ (z : List ℕ). a.after_step x (first + n) pads ++ b.after_step z (first + n) pads) y_is

-- the same by the state of both
pub both_after : (a b : DeviceMeaning) (pads first n : ℕ) (state : List ℕ) → ((k : ℕ) → k ≤ n → length (device_after a pads first k (take a.count state)) ≡ a.count) → device_after (paired a b) pads first n state ≡ device_after a pads first n (take a.count state) ++ device_after b pads first n (drop a.count state)
both_after a b pads first n state fits =
    ap (device_after (paired a b) pads first n) (sym (take-append-drop a.count state))
    ∙ paired_after a b pads first n (take a.count state) (drop a.count state) fits

both_drive : (a b : DeviceMeaning) (state : List ℕ) (cycle pads k : ℕ) → device_after (paired a b) pads cycle k state ≡ device_after a pads cycle k (take a.count state) ++ device_after b pads cycle k (drop a.count state) → length (device_after a pads cycle k (take a.count state)) ≡ a.count → a.wires (device_after a pads cycle k (take a.count state)) (cycle + k) pads ≡ a.wires (take a.count state) cycle pads → b.wires (device_after b pads cycle k (drop a.count state)) (cycle + k) pads ≡ b.wires (drop a.count state) cycle pads → (paired a b).wires (device_after (paired a b) pads cycle k state) (cycle + k) pads ≡ (paired a b).wires state cycle pads
both_drive a b state cycle pads k at fits first second =
    let x = device_after a pads cycle k (take a.count state) in
    let y = device_after b pads cycle k (drop a.count state) in
    let e : a.count ≡ length x = sym fits in
    let x_is : take a.count (x ++ y) ≡ x = ap (λ (c : ℕ). take c (x ++ y)) e ∙ take-append_seam x y in
    let y_is : drop a.count (x ++ y) ≡ y = ap (λ (c : ℕ). drop c (x ++ y)) e ∙ drop-append_seam x y in
    ap (λ (z : List ℕ). (paired a b).wires z (cycle + k) pads) at
    ∙ ap (λ (z : List ℕ). joined (a.wires z (cycle + k) pads) (b.wires (drop a.count (x ++ y)) (cycle + k) pads)) x_is
    ∙ ap (λ (z : List ℕ). joined (a.wires x (cycle + k) pads) (b.wires z (cycle + k) pads)) y_is
    ∙ ap (λ (w : Wires). joined w (b.wires y (cycle + k) pads)) first
    ∙ ap (λ (w : Wires). joined (a.wires (take a.count state) cycle pads) w) second

pub both_quiet : (a b : DeviceMeaning) (state : List ℕ) (cycle pads n : ℕ) → IsDeviceQuiet a (take a.count state) cycle pads n → IsDeviceQuiet b (drop a.count state) cycle pads n → IsDeviceQuiet (paired a b) state cycle pads n
both_quiet a b state cycle pads n q r =
    let at : (k : ℕ) → k ≤ n → device_after (paired a b) pads cycle k state ≡ device_after a pads cycle k (take a.count state) ++ device_after b pads cycle k (drop a.count state) =
    λ k le. both_after a b pads cycle k state (λ j lt. q.words j (omega arith)) in
    record {
      drives = λ k lt. both_drive a b state cycle pads k (at k (omega arith)) (q.words k (omega arith)) (q.drives k lt) (r.drives k lt);
      words = λ k le.
          ap length (at k le) ∙ length-append (device_after a pads cycle k (take a.count state)) (device_after b pads cycle k (drop a.count state))
          ∙ ap (λ (x : ℕ). x + length (device_after b pads cycle k (drop a.count state))) (q.words k le)
          ∙ ap (λ (x : ℕ). a.count + x) (r.words k le);
    }

-- the same by the words of each
pub both_quiet_by : (a b : DeviceMeaning) (state front back : List ℕ) (cycle pads i j n : ℕ) → front ≡ take a.count state → back ≡ drop a.count state → IsDeviceQuiet a front cycle pads i → IsDeviceQuiet b back cycle pads j → n ≤ i → n ≤ j → IsDeviceQuiet (paired a b) state cycle pads n
both_quiet_by a b state front back cycle pads i j n e f q r le lt =
    both_quiet a b state cycle pads n (quiet_less a _ cycle pads i n (rw e at q) le) (quiet_less b _ cycle pads j n (rw f at r) lt)

pub pass_both : (a b : DeviceMeaning) (state front front' back' : List ℕ) (first pads i n : ℕ) → front ≡ take a.count state → IsDeviceQuiet a front first pads i → n ≤ i → front' ≡ device_after a pads first n (take a.count state) → back' ≡ device_after b pads first n (drop a.count state) → front' ++ back' ≡ device_after (paired a b) pads first n state
pass_both a b state front front' back' first pads i n e q le g h =
    let q' : IsDeviceQuiet a (take a.count state) first pads i = rw e at q in
    rw (g, h) (sym (both_after a b pads first n state (λ k lt. q'.words k (omega arith))))

pub step_both : (a b : DeviceMeaning) (state front back front' back' : List ℕ) (pads first k : ℕ) (before : List ℕ) → front ≡ take a.count state → back ≡ drop a.count state → front' ≡ a.after_step front (first + k) pads → back' ≡ b.after_step back (first + k) pads → state ≡ device_after (paired a b) pads first k before → front' ++ back' ≡ device_after (paired a b) pads first (k + 1) before
step_both a b state front back front' back' pads first k before e f g h so_far =
    rw (g, h, e, f)
    (ap (device_step (paired a b) pads (first + k)) so_far
    ∙ sym (times_more (device_step (paired a b) pads) first k (k + 1) before refl))
