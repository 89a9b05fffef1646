-- `gate_at` is right: the kind in a node's row tells what drives the wire below it, the driver's row being that of a buffer.
use mathlib.Core.Path.{◌≡◌, ap, sym, ◌∙◌}
use mathlib.Core.List.{List}
use mathlib.Core.Logic.{inl, inr}
use Prim.Native.Nat.{ℕ, ◌≤◌}
use Rattle.rules.specs.declared.Kind.{Kind}
use Rattle.words.specs.declared.Node.{Node}
use Rattle.words.specs.Words.{record_in, net_in}
use Rattle.words.specs.Held.{Held}
use Rattle.words.specs.Net.{held}
use Rattle.tree.specs.Gates.{kind_gate, gate_of, gate_is}
use Rattle.tree.proofs.gate_at.Goals as goal

-- The node that was read from row i, and its kind.
gate : {w : List ℕ} {nodes layers i : ℕ} {node : Node} {k : Kind} → Held w nodes layers → i ≤ nodes → node ≡ record_in w i → node.kind ≡ k
    → kind_gate k ≡ gate_of (net_in w) i
gate {i = i} H h r e = ap kind_gate (sym e) ∙ ap (λ (n : Node). kind_gate n.kind) r ∙ gate_is i H h

pub returns-in-Buffer : goal.returns-in-Buffer
returns-in-Buffer c = gate (held c.args.net.now.held) c.requires c.node_in.ensures c.in-Buffer.is

pub returns-in-Steiner : goal.returns-in-Steiner
returns-in-Steiner c =
    elim c.in-Steiner.is [
      | inl e ↦ gate (held c.args.net.now.held) c.requires c.node_in.ensures e
      | inr s ↦ gate (held c.args.net.now.held) c.requires c.node_in.ensures s.2
    ]
