-- What the code of required times may rely on at its places, and what a turn of its loop leaves.
use mathlib.Core.Path.{◌≡◌, ap, sym, ◌∙◌}
use mathlib.Core.Bool.{true}
use mathlib.Core.List.{List}
use Prim.Native.Nat.{ℕ, suc, ◌+◌, ◌^◌, ◌≤◌, ◌<◌}
use native.Mathlib.Omega.{arith}
use lib.ListN.{length, get_or}
use lib.IntN.{ℤ, pos, ◌-ℤ◌}
use mir.Syntax.{w64}
use mir.Val.{SFits}
use Rattle.laws.specs.Basic.{min_z}
use Rattle.laws.specs.Links.{NextOf}
use Rattle.rules.specs.Tree.{Net, at, is_root, is_buffer, root, drives, on}
use Rattle.rules.specs.Bytes.{max_nodes, max_stages, max_time}
use Rattle.rules.specs.Timing.{terminal_time, required}
use Rattle.rules.specs.declared.Kind.TheVariants.{Steiner, Buffer, Sink}
use Rattle.facts.specs.Accepted.{Accepted}
use Rattle.facts.specs.Stages.{TerminalOf, climb_root, root_before, root-drives, root-is-buffer, drives-below}
use Rattle.facts.specs.Words.{sink_time, buffer_time}
use Rattle.words.specs.Words.{net_in}
use Rattle.words.specs.Net.{held}
use Rattle.words.specs.Held.{Held, held-accepted}
use Rattle.tree.specs.Staged.{stage_below}
use Rattle.delays.specs.Delayed.{delay_to}
use Rattle.required.specs.Links.{no_terminal}
use Rattle.required.specs.Timed.{Timed}
use Rattle.required.specs.Scan.{TerminalsSoFar, terminals-start, terminals_jump, terminals-take, terminals_end, asked_is, asked-fits, delay-small}

-- Below a root begins the stage that it drives.
below_root : (n : Net) (i : ℕ) → is_root n i ≡ true → stage_below n i ≡ drives n i
unfolding stage_below
below_root n i e = ap (drives n) (climb_root n i i (omega arith) e)

-- A net that was read has few nodes.
pub few_nodes : {w : List ℕ} {nodes layers : ℕ} → ∥ Held w nodes layers ∥₁ → nodes ≤ max_nodes
few_nodes t = omega (arith, (held t).accepted.few-nodes, (held t).nodes-are)

-- How long the tables are.
pub record Sizes (nodes : ℕ) (below first next delay : List ℕ) : Type 0 where
  pub nodes_in_lem : nodes ≤ max_nodes
  pub below-long : length below ≡ max_nodes + 1
  pub first-long : length first ≡ max_stages
  pub next-long : length next ≡ max_nodes + 1
  pub delay-long : max_nodes + 1 ≤ length delay

-- The table has the stage that root i drives, and there are links for it.
pub record Entered (w below : List ℕ) (i : ℕ) : Type 0 where
  pub is : get_or below i 0 ≡ drives (net_in w) i
  pub low : get_or below i 0 < max_stages

-- The loop of the stage that node i drives: the terminals before node j have asked r, and j, if it is a node, is a terminal of the stage.
pub record LeastSoFar (w plan : List ℕ) (nodes i j : ℕ) (r : ℤ) : Type 0 where
  pub some : 1 ≤ j
  pub own : j ≤ nodes → TerminalOf (net_in w) (drives (net_in w) i) j
  pub scan : TerminalsSoFar (net_in w) plan (drives (net_in w) i) j r

module _ {w : List ℕ} {nodes layers : ℕ} {below first next delay plan : List ℕ} (net : ∥ Held w nodes layers ∥₁)
    (T : Timed (net_in w) below first next delay plan) where
  -- The array holds the net.
  H : Held w nodes layers
  H = held net

  -- The net was accepted.
  A : Accepted (net_in w)
  A = held-accepted H

  -- Node j of the code is one of the net.
  inside : {j : ℕ} → j ≤ nodes → j ≤ length (net_in w).nodes
  inside h = omega (arith, H.nodes-are)

  -- The tables are as long as the code needs.
  pub sizes : Sizes nodes below first next delay
  sizes = record {
    nodes_in_lem = omega (arith, A.few-nodes, H.nodes-are);
    below-long = T.staged.below-long;
    first-long = T.linked.first-long;
    next-long = T.linked.next-long;
    delay-long = T.delayed.long;
  }

  -- The loop comes along a link to the next terminal of the stage: those that the link passes over are none.
  landed : {i k j : ℕ} {r : ℤ} → TerminalsSoFar (net_in w) plan (drives (net_in w) i) (suc k) r
      → NextOf (TerminalOf (net_in w)) no_terminal (drives (net_in w) i) k j → LeastSoFar w plan nodes i j r
  landed S N = record {
    some = omega (arith, N.low);
    own = λ b. N.owned (omega (arith, sizes.nodes_in_lem));
    scan = terminals_jump S (λ m u v d. N.passed m (omega arith) v d);
  }

  module _ {i : ℕ} (h : i ≤ nodes) (e : is_root (net_in w) i ≡ true) where
    -- Root i drives a stage of the net.
    pub entered : Entered w below i
    entered =
        let q : get_or below i 0 ≡ drives (net_in w) i = T.staged.below-is i (inside h) ∙ below_root (net_in w) i e in
        record { is = q; low = omega (arith, drives-below (net_in w) i (inside h), A.few-stages) }

    -- At first: the driver is no terminal.
    pub required-start : LeastSoFar w plan nodes i (get_or first (get_or below i 0) 0) (pos max_time)
    required-start = landed (terminals_jump (terminals-start (net_in w) plan (drives (net_in w) i)) (λ m u v d. omega (arith, d.edge.after))) link
      where
        link : NextOf (TerminalOf (net_in w)) no_terminal (drives (net_in w) i) 0 (get_or first (get_or below i 0) 0)
        link = rw entered.is (T.linked.links.first-is (drives (net_in w) i) (drives-below (net_in w) i (inside h)))

    module _ {j : ℕ} {r : ℤ} (g : LeastSoFar w plan nodes i j r) where
      -- After the last node the least is the required time of the stage.
      pub required_end : nodes < j → r ≡ required (net_in w) plan (drives (net_in w) i)
      required_end b = terminals_end g.scan A (omega (arith, H.nodes-are)) (drives-below (net_in w) i (inside h))

      module _ (b : j ≤ nodes) where
        -- A terminal of the stage comes after the root.
        pub after-root : i < j
        after-root = omega (arith, root_before A j g.some (inside b), ap (root (net_in w)) (g.own b).edge.stage, root-drives (net_in w) i (inside h) e)

        -- The link from it leads on.
        pub onward : j < get_or next j 0
        onward = (T.linked.links.next-is (g.own b) g.some).low

        -- The delay to it stands in the table,
        delay-is : get_or delay j 0 ≡ delay_to (net_in w) (on plan (drives (net_in w) i)) j
        delay-is = T.delayed.each j g.some (inside b) ∙ ap (λ (t : ℕ). delay_to (net_in w) (on plan t) j) (g.own b).edge.stage

        module _ {z : ℤ} (ez : z ≡ terminal_time (net_in w) (required (net_in w) plan) j) where
          -- the code can take the delay from its time,
          pub asked_fine : (get_or delay j 0 < 2 ^ 63) × SFits w64 (z -ℤ pos (get_or delay j 0))
          asked_fine = rw delay-is (delay-small A plan (g.own b) ez, asked-fits A plan (g.own b) ez)

          -- and what it asks is taken.
          pub required-take : LeastSoFar w plan nodes i (get_or next j 0) (min_z r (z -ℤ pos (get_or delay j 0)))
          required-take =
              landed (terminals-take g.scan (g.own b) (ap (λ (k : ℕ). z -ℤ pos k) delay-is ∙ asked_is A plan (g.own b) ez))
              (T.linked.links.next-is (g.own b) g.some)

-- The required time of a terminal, by its kind.
module _ (n : Net) (plan : List ℕ) (j : ℕ) where
  -- No terminal: 0.
  pub at_steiner : (at n j).kind ≡ Steiner → pos 0 ≡ terminal_time n (required n plan) j
  at_steiner e = rw (e, terminal_time)

  -- A sink's is given.
  pub at-sink : {c : ℕ} {t : ℤ} → (at n j).kind ≡ Sink c t → t ≡ terminal_time n (required n plan) j
  at-sink e = sym (sink_time n (required n plan) j e)

  -- A buffer's is that of the stage it drives.
  pub at-buffer : {c r d : ℕ} {t : ℤ} → (at n j).kind ≡ Buffer c r d → t ≡ required n plan (drives n j) → t ≡ terminal_time n (required n plan) j
  at-buffer e q = q ∙ sym (buffer_time n (required n plan) j (ap is_buffer e))

-- A buffer is a root.
pub buffer-root : (n : Net) (j : ℕ) {c r d : ℕ} → (at n j).kind ≡ Buffer c r d → 1 ≤ j → is_root n j ≡ true
buffer-root n j e h = root-is-buffer n j h ∙ ap is_buffer e
