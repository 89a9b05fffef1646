-- The delays, from the first node to the last: the delay to a node is the delay to the upper end of its edge, the edge delay, and at a terminal the via there
-- (02, wish 5); at a root the wire starts with the gate delay, at any other node with the delay to that node (01, Timing rule; source 001, section 2:
-- root-terminal path delay).
use Rattle.std.specs.Prelude.{◌≡◌, Bool, true, false, ◌⊎◌, List, length, get_or, if◌then◌else◌}
use Rattle.std.proofs.Math.Path.{refl}
use Rattle.std.proofs.Common.{ap, sym, ◌∙◌, inl, inr, arith}
use Prim.Native.Nat.{ℕ, ◌+◌, ◌*◌, ◌≤◌, ◌<◌}
use Rattle.laws.specs.Booleans.{same_or}
use Rattle.rules.specs.declared.Kind.{Kind}
use Rattle.rules.specs.Tree.{Net, at, layer_count, is_root, drives, stage_of, on}
use Rattle.rules.specs.Bytes.{max_gate_res, max_input_cap, max_intrinsic, max_nodes}
use Rattle.rules.specs.Timing.{layer, load, edge_delay, gate_res, gate_intrinsic, root_via, gate_delay, input_cap, terminal_via, wire_delay}
use Rattle.facts.specs.Accepted.{Accepted}
use Rattle.facts.specs.Layers.{NoVias}
use Rattle.facts.specs.Stages.{not_root, root-drives, stage-root, stage-up}
use Rattle.facts.specs.Words.{wire-root, wire-up}
use Rattle.facts.specs.Ranges.{input_cap_in, gate_res_in, gate_intrinsic_in}
use Rattle.facts.specs.Loads.{max_load, load_in}
use Rattle.facts.specs.Fits.{half_range, delay-fits}
use Rattle.tree.specs.declared.Gate.{Gate}
use Rattle.tree.specs.declared.Gate.TheVariants.{Root, Wire}
use Rattle.tree.specs.Gates.{gate_of, root_gate, no_gate}
use Rattle.slices.specs.Rows.{entry, RowSet, row_kept}
use Rattle.loads.specs.Tables.{NodeRow, RowMost}
use Rattle.loads.specs.Columns.{Staging, layer-above, layer_below}
use Rattle.loads.specs.Edges.{edge_on, EdgeIn, LoadAt, edge-is, edge-rows}
use Rattle.loads.specs.Loaded.{Loaded}

-- The delay from the gate input of its stage to node j, on layer l.
unfoldable pub delay_to : Net → ℕ → ℕ → ℕ
delay_to n l j = gate_delay n l (stage_of n j) + wire_delay n l j

-- The delay to the upper end i of an edge: that of the gate at a root, else the delay to i.
unfoldable pub start_delay : Net → ℕ → ℕ → ℕ
start_delay n l i = if is_root n i then gate_delay n l (drives n i) else delay_to n l i

-- Entry j * w + c is the delay to node j, on the layer that column c of the stage of edge j stands for.
pub record Delayed (n : Net) (first : List ℕ) (w : ℕ) (delay : List ℕ) : Type 0 where
  pub each : (j c : ℕ) → 1 ≤ j → j ≤ length n.nodes → c < w → entry w delay j c ≡ delay_to n (on first (stage_of n j) + c) j
  pub long : (max_nodes + 1) * w ≤ length delay

-- Under a plan, with one column: entry j is the delay to node j.
pub record PlanDelays (n : Net) (plan delay : List ℕ) : Type 0 where
  pub each : (j : ℕ) → 1 ≤ j → j ≤ length n.nodes → get_or delay j 0 ≡ delay_to n (on plan (stage_of n j)) j
  pub long : max_nodes + 1 ≤ length delay

pub plan-delays : {n : Net} {plan delay : List ℕ} → Delayed n plan 1 delay → PlanDelays n plan delay
plan-delays {n} {plan} {delay} D = record { each = λ j a b. here j a b; long = D.long }
  where
    here : (j : ℕ) → 1 ≤ j → j ≤ length n.nodes → get_or delay j 0 ≡ delay_to n (on plan (stage_of n j)) j
    here j a b =
        let p : j * 1 + 0 ≡ j = omega arith in
        let q : on plan (stage_of n j) + 0 ≡ on plan (stage_of n j) = omega arith in
        rw (p, q) at (D.each j 0 a b (omega arith))

-- On every layer, with a column for each: entry j * w + l is the delay to node j on layer l, w being the number of layers.
pub record LayerDelays (n : Net) (w : ℕ) (delay : List ℕ) : Type 0 where
  pub each : (j l : ℕ) → 1 ≤ j → j ≤ length n.nodes → l < w → entry w delay j l ≡ delay_to n l j
  pub long : (max_nodes + 1) * w ≤ length delay

pub layer-delays : {n : Net} {first : List ℕ} {w : ℕ} {delay : List ℕ} → ((t : ℕ) → on first t ≡ 0) → Delayed n first w delay → LayerDelays n w delay
layer-delays {n} {first} {w} {delay} zeros D = record { each = λ j l a b h. here j l a b h; long = D.long }
  where
    here : (j l : ℕ) → 1 ≤ j → j ≤ length n.nodes → l < w → entry w delay j l ≡ delay_to n l j
    here j l a b h = let q : on first (stage_of n j) + l ≡ l = omega (arith, zeros (stage_of n j)) in rw q at (D.each j l a b h)

-- The delay to the upper end of an edge, by what drives it: a gate with this load, behind a via of this resistance, or the wire above, to whose lower end
-- the delay is this.
abbrev pub start_of : Gate → ℕ → ℕ → ℕ → ℕ
start_of gate via load delay = elim gate [ Root r d ↦ 2 * r * load + d + 2 * via * load | Wire ↦ delay ]

-- A gate with numbers in their ranges.
abbrev pub GateIn : Gate → Type 0
GateIn gate = elim gate [ Root r d ↦ (r ≤ max_gate_res) × (d ≤ max_intrinsic) | Wire ↦ Unit {0} ]

-- The delay to node j in column c but for the via at it, from the tables: i is its parent.
abbrev pub delay_on : Net → ℕ → List ℕ → List ℕ → Gate → ℕ → Kind → ℕ → ℕ → ℕ → ℕ → ℕ
delay_on n w table delay gate len kind l i j c =
    start_of gate (layer n (l + c)).via_res (entry w table i c) (entry w delay i c) + edge_on n w table len kind l j c

-- The delay to node j in column c, with the via at it: its pin has this input capacitance, and column 0 stands for layer l.
abbrev pub via_added : Net → ℕ → List ℕ → ℕ → ℕ → ℕ → ℕ → ℕ
via_added n w delay l pin j c = entry w delay j c + 2 * (layer n (l + c)).via_res * pin

-- What the code that pays the via at node j has in hand: numbers in their bounds, and columns that stand for layers that there are, from layer l on.
pub record ViaIn (n : Net) (w : ℕ) (delay : List ℕ) (pin l j : ℕ) : Type 0 where
  pub pin_in : pin ≤ max_input_cap
  pub row : RowMost w delay j half_range
  pub columns_in : l + w ≤ layer_count n

module _ {n : Net} (A : Accepted n) where
  -- The delay to a node is the delay to the upper end of its edge, the edge delay and the via.
  pub delay-is : (l j : ℕ) → 1 ≤ j → j ≤ length n.nodes → delay_to n l j ≡ start_delay n l (at n j).parent + edge_delay n l j + terminal_via n l j
  unfolding delay_to start_delay
  delay-is l j h b = go (is_root n p) refl
    where
      p : ℕ
      p = (at n j).parent

      go : (b : Bool) → is_root n p ≡ b
          → gate_delay n l (stage_of n j) + wire_delay n l j ≡ (if b then gate_delay n l (drives n p) else gate_delay n l
          (stage_of n p) + wire_delay n l p) + edge_delay n l j + terminal_via n l j
      go true e = omega (arith, ap (gate_delay n l) (stage-root A j h e), wire-root A l j h e)
      go false e = omega (arith, ap (gate_delay n l) (stage-up A j h e), wire-up A l j h b e)

  pub delay-below : (l j : ℕ) → 1 ≤ j → j ≤ length n.nodes → delay_to n l j < half_range
  unfolding delay_to
  delay-below l j a b = delay-fits A l (record { after = a; inside = b; stage = refl })

  -- The gate delay at a root, by its node.
  gate_is : (l i : ℕ) → i ≤ length n.nodes → is_root n i ≡ true
      → gate_delay n l (drives n i) ≡ 2 * gate_res n i * load n l i + gate_intrinsic n i + 2 * (layer n l).via_res * load n l i
  unfolding gate_delay root_via
  gate_is l i h e = rw (root-drives n i h e) refl

-- The pass before node j.
pub record Delaying (n : Net) (first : List ℕ) (w : ℕ) (delay : List ℕ) (j : ℕ) : Type 0 where
  pub some : 1 ≤ j
  pub inside : j ≤ length n.nodes + 1
  pub each : (i c : ℕ) → 1 ≤ i → i < j → c < w → entry w delay i c ≡ delay_to n (on first (stage_of n i) + c) i
  pub long : (max_nodes + 1) * w ≤ length delay

pub delaying_start : (n : Net) (first : List ℕ) {w : ℕ} {delay : List ℕ} → (max_nodes + 1) * w ≤ length delay → Delaying n first w delay 1
delaying_start n first e = record { some = omega arith; inside = omega arith; each = λ i c a b d. absurd (omega arith); long = e }

pub delaying_end : {n : Net} {first : List ℕ} {w : ℕ} {delay : List ℕ} {j : ℕ} → Delaying n first w delay j → length n.nodes < j → Delayed n first w delay
delaying_end D h = record { each = λ j c a b d. D.each j c a (omega arith) d; long = D.long }

-- What a turn at node j may rely on, l being the first layer of its stage and `gate` what drives the wire below its parent, and what it leaves. First the
-- delay but for the via is set (`delay'`), then the via is paid (`delay''`), if there is anything to pay.
pub record DelayTurn (n : Net) (first : List ℕ) (w : ℕ) (table delay : List ℕ) (gate : Gate) (l j : ℕ) : Type 0 where
  pub parent-lower : (at n j).parent < j
  pub gate_in : GateIn gate
  pub parent_row : RowMost w table (at n j).parent max_load
  pub upper-row : gate ≡ Wire → RowMost w delay (at n j).parent half_range
  pub own_row : NodeRow w delay j
  pub edge : EdgeIn n w table (at n j).len (at n j).kind l j
  pub via : {delay' : List ℕ} {pin : ℕ} → RowSet 0 w delay delay' j w (delay_on n w table delay gate (at n j).len (at n j).kind l (at n j).parent j)
      → pin ≡ input_cap (at n j).kind → ViaIn n w delay' pin l j
  pub onward : {delay' delay'' : List ℕ} {pin : ℕ}
      → RowSet 0 w delay delay' j w (delay_on n w table delay gate (at n j).len (at n j).kind l (at n j).parent j)
      → pin ≡ input_cap (at n j).kind → RowSet 0 w delay' delay'' j w (via_added n w delay' l pin j)
      → Delaying n first w delay'' (j + 1)
  pub onward_bare : {delay' : List ℕ}
      → RowSet 0 w delay delay' j w (delay_on n w table delay gate (at n j).len (at n j).kind l (at n j).parent j)
      → ((c : ℕ) → terminal_via n (l + c) j ≡ 0) → Delaying n first w delay' (j + 1)

-- What is paid for at node j, as the code has it by whether there are vias: something, and then it is the pin's capacitance; or nothing, and then no via costs.
pub paid-is : (vias : Bool) {cap pin : ℕ} → pin ≡ (if vias then cap else 0) → 0 < pin → pin ≡ cap
paid-is true e h = e
paid-is false e h = absurd (omega arith)

pub none-paid : (n : Net) (l j : ℕ) {pin : ℕ} (vias : Bool) → pin ≡ (if vias then input_cap (at n j).kind else 0) → pin ≤ 0 → (vias ≡ false → NoVias n)
    → terminal_via n l j ≡ 0
unfolding terminal_via
none-paid n l j {pin} true e z free = let none : input_cap (at n j).kind ≡ 0 = omega arith in rw none (omega arith)
none-paid n l j false e z free = rw (free refl l) (omega arith)

module _ {n : Net} (A : Accepted n) {below first : List ℕ} {w : ℕ} {table delay : List ℕ} {gate : Gate} {l j : ℕ}
    (T : Loaded n first w table) (S : Staging n below first w j) (D : Delaying n first w delay j) (h : j ≤ length n.nodes) (e : l ≡ on first (stage_of n j))
    (g : gate ≡ gate_of n (at n j).parent) where
  abbrev p : ℕ
  p = (at n j).parent

  lower : p < j
  lower = A.parent-lower j D.some

  own : NodeRow w delay j
  own = record { row_in = omega (arith, A.few-nodes); long = D.long }

  lower-load : LoadAt n w table l j
  lower-load = record {
    is = λ s c b. rw (← layer_below A first D.some e s) (T.each j c h b);
  }

  -- The load at the parent and the delay to it, on the layers of the edge's stage.
  load_is : (c : ℕ) → c < w → entry w table p c ≡ load n (l + c) p
  load_is c b = rw (layer-above A first D.some e) at (T.each p c (omega (arith, lower)) b)

  wire-is : is_root n p ≡ false → (c : ℕ) → c < w → entry w delay p c ≡ delay_to n (l + c) p
  wire-is r c b =
      let q : on first (stage_of n p) ≡ l = sym (e ∙ ap (on first) (stage-up A j D.some r)) in
      rw q at (D.each p c (not_root A p r).0 lower b)

  start_is : (c : ℕ) → c < w → start_of gate (layer n (l + c)).via_res (entry w table p c) (entry w delay p c) ≡ start_delay n (l + c) p
  unfolding start_delay
  start_is c b = go gate g
    where
      go : (x : Gate) → x ≡ gate_of n p → start_of x (layer n (l + c)).via_res (entry w table p c) (entry w delay p c) ≡ (if is_root n p then gate_delay n
          (l + c) (drives n p) else delay_to n (l + c) p)
      go (Root r d) q =
          let R = root_gate n p q in
          rw (R.is-root, R.res_is, R.intrinsic-is, load_is c b) (sym (gate_is A (l + c) p (omega (arith, lower)) R.is-root))
      go Wire q = let r = no_gate n p q in rw r (wire-is r c b)

  gate_fine : GateIn gate
  gate_fine = go gate g
    where
      go : (x : Gate) → x ≡ gate_of n p → GateIn x
      go (Root r d) q = let R = root_gate n p q in rw (R.res_is, R.intrinsic-is) (gate_res_in A p, gate_intrinsic_in A p)
      go Wire q = tt

  is-wire : gate ≡ Wire → is_root n p ≡ false
  is-wire q = no_gate n p (sym q ∙ g)

  -- The delay that is set, with the via: the delay to the node.
  module _ {delay' : List ℕ} (F : RowSet 0 w delay delay' j w (delay_on n w table delay gate (at n j).len (at n j).kind l p j)) where
    set_is : (c : ℕ) → c < w → entry w delay' j c ≡ start_delay n (l + c) p + edge_delay n (l + c) j
    set_is c d = F.set_to c d ∙ rw (start_is c d, edge-is lower-load c d) refl

    with_via : (c : ℕ) → c < w → entry w delay' j c + terminal_via n (l + c) j ≡ delay_to n (l + c) j
    with_via c d = omega (arith, set_is c d, delay-is A (l + c) j D.some h)

    low : (c : ℕ) → c < w → entry w delay' j c ≤ half_range
    low c d = omega (arith, with_via c d, delay-below A (l + c) j D.some h)

    -- With the right delay in row j, and all other rows as they were, the pass is before the next node.
    passed : {new : List ℕ} → length new ≡ length delay → ((i c : ℕ) → c < w → (i ≡ j → ⊥) → entry w new i c ≡ entry w delay i c)
        → ((c : ℕ) → c < w → entry w new j c ≡ delay_to n (l + c) j) → Delaying n first w new (j + 1)
    passed {new} long others is = record {
      some = omega arith;
      inside = omega arith;
      each = λ i c a b d. go i c a b d (same_or j i);
      long = omega (arith, D.long);
    }
      where
        go : (i c : ℕ) → 1 ≤ i → i < j + 1 → c < w → (i ≡ j) ⊎ (i ≡ j → ⊥) → entry w new i c ≡ delay_to n (on first (stage_of n i) + c) i
        go i c a b d (inl q) = rw (q, ← e) (is c d)
        go i c a b d (inr ne) = others i c d ne ∙ D.each i c a (omega arith) d

    module _ {pin : ℕ} (is-pin : pin ≡ input_cap (at n j).kind) where
      via-is : (c : ℕ) → 2 * (layer n (l + c)).via_res * pin ≡ terminal_via n (l + c) j
      unfolding terminal_via
      via-is c = rw is-pin refl

      via-row : ViaIn n w delay' pin l j
      via-row = record {
        pin_in = rw is-pin (input_cap_in A j);
        row = record { row = record { row_in = own.row_in; long = omega (arith, F.long, D.long) }; each = low };
        columns_in = omega (arith, e, ap (on first) S.stage_is, S.columns_in p (omega (arith, lower)));
      }

      paid : {delay'' : List ℕ} → RowSet 0 w delay' delay'' j w (via_added n w delay' l pin j) → Delaying n first w delay'' (j + 1)
      paid G =
          passed (G.long ∙ F.long) (λ i c d ne. row_kept G i c d ne ∙ row_kept F i c d ne) (λ c d. G.set_to c d ∙ rw (via-is c) (with_via c d))

    unpaid : ((c : ℕ) → terminal_via n (l + c) j ≡ 0) → Delaying n first w delay' (j + 1)
    unpaid none = passed F.long (λ i c d ne. row_kept F i c d ne) (λ c d. omega (arith, with_via c d, none c))

  pub delay-turn : DelayTurn n first w table delay gate l j
  delay-turn = record {
    parent-lower = lower;
    gate_in = gate_fine;
    parent_row = record {
      row = record { row_in = omega (arith, lower, A.few-nodes); long = T.long };
      each = λ c b. rw (load_is c b) (load_in A (l + c) p);
    };
    upper-row = λ q. record {
      row = record { row_in = omega (arith, lower, A.few-nodes); long = D.long };
      each = λ c b. omega (arith, wire-is (is-wire q) c b, delay-below A (l + c) p (not_root A p (is-wire q)).0 (omega (arith, lower)));
    };
    own_row = own;
    edge = edge-rows lower-load A (record { row_in = own.row_in; long = T.long });
    via = λ F q. via-row F q;
    onward = λ F q G. paid F q G;
    onward_bare = λ F none. unpaid F none;
  }
