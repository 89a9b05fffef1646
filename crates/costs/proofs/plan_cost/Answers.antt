-- `plan_cost` is right: before node j the total is what the edges before it cost on the layers of their stages.
use Prim.Native.Nat.{ℕ, ◌-◌, ◌+◌}
use mathlib.Core.Path.{◌≡◌, sym, ap, ◌∙◌}
use mathlib.Core.List.{List}
use native.Mathlib.Omega.{arith}
use lib.ListN.{length}
use Rattle.rules.specs.Tree.{Net}
use Rattle.rules.specs.Timing.{cost}
use Rattle.words.specs.Net.{held}
use Rattle.tree.specs.Staged.{edges_staged}
use Rattle.costs.specs.Priced.{cost_to, cost_under, cost-none, plan-cost-all}
use Rattle.costs.proofs.Turns.{cost-turn}
use Rattle.costs.proofs.plan_cost.Goals as goal

pub loop-j-init : goal.loop-j-init
loop-j-init c = (omega arith, omega arith, sym (cost-none _))

pub bounds-plan-edges : goal.bounds-plan-edges
bounds-plan-edges c = (cost-turn (held c.args.edges.now.net.held) (edges_staged c.args.edges.now.net.held c.args.edges.now.staged) c.requires c.loop-j.invariant.0 (omega arith)).stage_in

pub edge_cost-total-requires : goal.edge_cost-total-requires
edge_cost-total-requires c =
    let t = cost-turn (held c.args.edges.now.net.held) (edges_staged c.args.edges.now.net.held c.args.edges.now.staged) c.requires c.loop-j.invariant.0 (omega arith) in
    (c.loop-j.invariant.0, omega arith, omega (arith, t.layer_in_lem, c.from-l.ensures))

pub overflow_add-total : goal.overflow_add-total
overflow_add-total c =
    let t = cost-turn (held c.args.edges.now.net.held) (edges_staged c.args.edges.now.net.held c.args.edges.now.staged) c.requires c.loop-j.invariant.0 (omega arith) in
    let q = rw (← c.from-l.ensures) at t.cost_in_lem in
    omega (arith, t.before_in, q, c.edge_cost-total.ensures, c.loop-j.invariant.2)

pub loop-j-preserved : goal.loop-j-preserved
loop-j-preserved c = (
  omega arith,
  omega arith,
  rw (c.edge_cost-total.ensures, c.from-l.ensures, c.loop-j.invariant.2) (cost-turn (held c.args.edges.now.net.held) (edges_staged c.args.edges.now.net.held c.args.edges.now.staged) c.requires c.loop-j.invariant.0 (omega arith)).more,
)

-- After the last node the total is the plan's cost.
all-edges : (n : Net) (x : List ℕ) {j total : ℕ} → total ≡ cost_to (cost_under n x) (j - 1) → j ≡ length n.nodes + 1 → total ≡ cost n x
all-edges n x e h = e ∙ (ap (cost_to (cost_under n x)) (omega arith) ∙ plan-cost-all n x)

pub returns : goal.returns
returns c = all-edges _ _ c.loop-j.invariant.2 (omega (arith, c.loop-j.invariant.1, c.loop-j-test.false, (held c.args.edges.now.net.held).nodes-are))

pub returns-2 : goal.returns-2
returns-2 c =
    all-edges _ _ {j = c.loop-j.j + 1}
    (rw (c.edge_cost-total.ensures, c.from-l.ensures, c.loop-j.invariant.2) (cost-turn (held c.args.edges.now.net.held) (edges_staged c.args.edges.now.net.held c.args.edges.now.staged) c.requires c.loop-j.invariant.0 (omega arith)).more)
    (omega (arith, (held c.args.edges.now.net.held).nodes-are))
