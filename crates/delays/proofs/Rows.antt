-- One turn of the loop over the columns: what it may rely on at column c (bounds under which nothing overflows), and what it leaves. The row's other entries
-- and the other rows are as they were, so a turn reads what the loop began with.
use mathlib.Core.Path.{◌≡◌, refl}
use mathlib.Core.List.{List}
use Prim.Native.Nat.{ℕ, ◌+◌, ◌*◌, ◌≤◌, ◌<◌}
use native.Mathlib.Omega.{arith}
use native.Mathlib.Nat.{mul-le-mul}
use lib.ListN.{set}
use Rattle.rules.specs.declared.Kind.{Kind}
use Rattle.rules.specs.Tree.{Net}
use Rattle.rules.specs.Bytes.{max_via_res, max_gate_res, max_input_cap}
use Rattle.rules.specs.Timing.{layer}
use Rattle.facts.specs.Ranges.{max_edge_cap, via_res_in}
use Rattle.facts.specs.Loads.{max_load}
use Rattle.facts.specs.Bounds.{max_edge_delay}
use Rattle.facts.specs.Fits.{half_range}
use Rattle.words.specs.Words.{net_in}
use Rattle.words.specs.Held.{Held, held-accepted}
use Rattle.tree.specs.declared.Gate.{Gate}
use Rattle.tree.specs.declared.Gate.TheVariants.{Root, Wire}
use Rattle.slices.specs.Rows.{entry, Setting, row_kept, next-kept, setting_more}
use Rattle.loads.specs.Tables.{NodeRow, RowMost}
use Rattle.loads.specs.Edges.{lower_of, cap_on, edge_on, EdgeIn}
use Rattle.delays.specs.Delayed.{GateIn, ViaIn, start_of, delay_on, via_added}

-- A start of an edge is no later than half the range of times.
start-low : (gate : Gate) {via load delay : ℕ} → GateIn gate → via ≤ max_via_res → load ≤ max_load → (gate ≡ Wire → delay ≤ half_range)
    → start_of gate via load delay ≤ half_range
start-low (Root r d) {via} {load} (a, b) v c e =
    let p : r * load ≤ max_gate_res * max_load = mul-le-mul a c in
    let q : via * load ≤ max_via_res * max_load = mul-le-mul v c in
    omega arith
start-low Wire g v c e = e refl

-- Setting the delay to a node, but for the via at it.
pub record DelaySet (n : Net) (w : ℕ) (table old delay : List ℕ) (gate : Gate) (len : ℕ) (kind : Kind) (l parent j c : ℕ) : Type 0 where
  pub load_in : entry w table parent c ≤ max_load
  pub via_in : (layer n (l + c)).via_res ≤ max_via_res
  pub sum_in : delay_on n w table delay gate len kind l parent j c ≤ half_range + max_edge_delay
  pub onward : Setting 0 w old (set delay (j * w + c) (delay_on n w table delay gate len kind l parent j c)) j w (c + 1)
      (delay_on n w table old gate len kind l parent j)

pub delay-set : {words : List ℕ} {nodes layers w : ℕ} {table old delay : List ℕ} {gate : Gate} {len : ℕ} {kind : Kind} {l parent j c : ℕ}
    → Held words nodes layers → l + w ≤ layers → GateIn gate → RowMost w table parent max_load → (gate ≡ Wire → RowMost w old parent half_range)
    → parent < j → NodeRow w old j → EdgeIn (net_in words) w table len kind l j
    → Setting 0 w old delay j w c (delay_on (net_in words) w table old gate len kind l parent j) → c < w
    → DelaySet (net_in words) w table old delay gate len kind l parent j c
delay-set {words} {w = w} {table} {old} {delay} {gate} {len} {kind} {l} {parent} {j} {c} H few G P U less R E F h =
    let n : Net = net_in words in
    let above : entry w delay parent c ≡ entry w old parent c = row_kept F.so_far parent c h (λ q. omega arith) in
    let via = via_res_in (held-accepted H) (l + c) in
    let lower = E.lower_in c h in
    let cap = E.cap_in c h in
    let sum : cap_on n len (l + c) + 2 * lower_of kind (entry w table j c) ≤ max_edge_cap + 2 * max_load = omega arith in
    let edge : edge_on n w table len kind l j c ≤ max_edge_delay = mul-le-mul (E.res_in c h) sum in
    let start = start-low gate {delay = entry w delay parent c} G via (P.each c h) (λ q. rw above ((U q).each c h)) in
    record {
      load_in = P.each c h;
      via_in = via;
      sum_in = omega (arith, start, edge);
      onward = setting_more _ R (omega arith) F h (rw above refl);
    }

-- Paying the via at a node.
pub record ViaPaid (n : Net) (w : ℕ) (old delay : List ℕ) (l pin j c : ℕ) : Type 0 where
  pub via_in : (layer n (l + c)).via_res ≤ max_via_res
  pub product_in : 2 * (layer n (l + c)).via_res * pin ≤ 2 * (max_via_res * max_input_cap)
  pub sum_in : via_added n w delay l pin j c ≤ half_range + 2 * (max_via_res * max_input_cap)
  pub onward : Setting 0 w old (set delay (j * w + c) (via_added n w delay l pin j c)) j w (c + 1) (via_added n w old l pin j)

pub via-paid : {words : List ℕ} {nodes layers w : ℕ} {old delay : List ℕ} {l pin j c : ℕ} → Held words nodes layers → ViaIn (net_in words) w old pin l j
    → Setting 0 w old delay j w c (via_added (net_in words) w old l pin j) → c < w → ViaPaid (net_in words) w old delay l pin j c
via-paid {words} {w = w} {old} {delay} {l} {pin} {j} {c} H U F h =
    let n : Net = net_in words in
    let before : entry w delay j c ≡ entry w old j c = next-kept F (omega arith) h in
    let via = via_res_in (held-accepted H) (l + c) in
    let product : (layer n (l + c)).via_res * pin ≤ max_via_res * max_input_cap = mul-le-mul via U.pin_in in
    record {
      via_in = via;
      product_in = omega (arith, product);
      sum_in = rw before (omega (arith, product, U.row.each c h));
      onward = setting_more _ U.row.row (omega arith) F h (rw before refl);
    }
