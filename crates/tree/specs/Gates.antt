-- What drives the wire below a node: at a root its own gate, with gate resistance and intrinsic delay, at any other node the wire above it.
use Rattle.std.specs.Prelude.{◌≡◌, refl, Bool, true, false, List, ℕ, zero, suc, ◌≤◌, if◌then◌else◌}
use Rattle.std.proofs.Common.{ap, ◌∙◌, arith}
use Rattle.rules.specs.declared.Kind.{Kind}
use Rattle.rules.specs.declared.Kind.TheVariants.{Steiner, Buffer, Sink}
use Rattle.rules.specs.Bytes.{buffer_tag}
use Rattle.rules.specs.Tree.{Net, node, at, is_buffer, is_root}
use Rattle.rules.specs.Timing.{gate_res, gate_intrinsic}
use Rattle.facts.specs.Stages.{root-is-buffer}
use Rattle.tree.specs.declared.Gate.{Gate}
use Rattle.tree.specs.declared.Gate.TheVariants.{Root, Wire}
use Rattle.words.specs.Held.{Held, row_in}
use Rattle.words.specs.declared.Node as words
use Rattle.words.specs.Words.{cell, kind_of, kind_in, record_in, driver_in, net_in}

-- What drives the wire below node i.
unfoldable pub gate_of : Net → ℕ → Gate
gate_of n i = if is_root n i then Root (gate_res n i) (gate_intrinsic n i) else Wire

-- What drives the wire below a node of this kind, where it is not the driver.
abbrev pub kind_gate : Kind → Gate
kind_gate Steiner = Wire
kind_gate (Buffer c r d) = Root r d
kind_gate (Sink c t) = Wire

node_gate : (n : Net) (i : ℕ) (k : Kind) → 1 ≤ i → (at n i).kind ≡ k → kind_gate k ≡ gate_of n i
unfolding gate_of gate_res gate_intrinsic
node_gate n i Steiner h e = rw (root-is-buffer n i h ∙ ap is_buffer e) refl
node_gate n i (Buffer c r d) h e = rw (root-is-buffer n i h ∙ ap is_buffer e, e, gate_res, gate_intrinsic)
node_gate n i (Sink c t) h e = rw (root-is-buffer n i h ∙ ap is_buffer e) refl

-- The driver, whose row has the tag of a buffer.
driver_gate : (w : List ℕ) → cell w 0 0 ≡ buffer_tag → kind_gate (record_in w 0).kind ≡ gate_of (net_in w) 0
unfolding gate_of gate_res gate_intrinsic net_in driver_in node record_in kind_in kind_of
driver_gate w e = simp e

-- What drives the wire below node i, from the kind in row i.
pub gate_is : {w : List ℕ} {nodes layers : ℕ} (i : ℕ) → Held w nodes layers → i ≤ nodes → kind_gate (record_in w i).kind ≡ gate_of (net_in w) i
gate_is {w} zero H h = driver_gate w H.driver-tag
gate_is {w} (suc i) H h = ap (λ (r : words.Node). kind_gate r.kind) (row_in H (omega arith) h).is ∙ node_gate (net_in w) (suc i) _ (omega arith) refl

-- What each case says of node i.
pub record RootGate (n : Net) (i r d : ℕ) : Type 0 where
  pub is-root : is_root n i ≡ true
  pub res_is : r ≡ gate_res n i
  pub intrinsic-is : d ≡ gate_intrinsic n i

pub root_gate : (n : Net) (i : ℕ) {r d : ℕ} → Root r d ≡ gate_of n i → RootGate n i r d
unfolding gate_of
root_gate n i {r} {d} e = go (is_root n i) refl e
  where
    go : (b : Bool) → is_root n i ≡ b → Root r d ≡ (if b then Root (gate_res n i) (gate_intrinsic n i) else Wire) → RootGate n i r d
    go true q e = record { is-root = q; res_is = cc; intrinsic-is = cc }
    go false q e = let z : ◌≡◌ {A = ℕ} 0 1 = cc in absurd (omega arith)

pub no_gate : (n : Net) (i : ℕ) → Wire ≡ gate_of n i → is_root n i ≡ false
unfolding gate_of
no_gate n i e = go (is_root n i) refl e
  where
    go : (b : Bool) → is_root n i ≡ b → Wire ≡ (if b then Root (gate_res n i) (gate_intrinsic n i) else Wire) → is_root n i ≡ false
    go true q e = let z : ◌≡◌ {A = ℕ} 0 1 = cc in absurd (omega arith)
    go false q e = q
