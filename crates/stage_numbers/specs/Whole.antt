-- After the pass the tables hold the numbers of the net's tree of stages: the root of a stage is the buffer that drives it, and all sinks are noted.
use Rattle.std.specs.Prelude.{◌≡◌, List, ℕ, ◌+◌, ◌*◌, ◌-◌, ◌≤◌, ◌<◌, length, ℤ}
use Rattle.std.proofs.Math.Path.{ap}
use Rattle.std.proofs.Common.{sym, ◌∙◌, arith}
use Rattle.std.proofs.Math.ListN.{get_or}
use Rattle.rules.specs.Tree.{Net, root, stages, layer_count}
use Rattle.facts.specs.Accepted.{Accepted}
use Rattle.facts.specs.Stages.{stage_at, stage-buffer, root_before}
use Rattle.facts.specs.Ranges.{arrival_in}
use Rattle.facts.specs.Bounds.{max_node_delay, delay_in}
use Rattle.facts.specs.Costs.{stage-small}
use Rattle.demands.specs.StageNumbers.{driving_stage, stage_delay, sink_limits, tree_of, root-edge}
use Rattle.delays.specs.Delayed as delays
use Rattle.costs.specs.Priced.{Priced}
use Rattle.slices.specs.Laid.{on_layer, limit_on, limit_of, Laid}
use Rattle.stage_numbers.specs.Limits.{limits_to, limits-all, least_in}
use Rattle.stage_numbers.specs.Numbered.{Numbering}

module _ {n : Net} (A : Accepted n) {driver wire : List ℕ} {limit : List ℤ} {j : ℕ} (N : Numbering n driver wire limit j) (end : length n.nodes < j) where
  driver-is : (t : ℕ) → 0 < t → t < stages n → get_or driver t 0 ≡ driving_stage n t
  unfolding driving_stage
  driver-is t a b =
      let (some, buffer) = stage-buffer n t a b in
      let s = stage_at n t b in
      ap (λ (k : ℕ). get_or driver k 0) (sym s.drives_it) ∙ N.driven.driver-is (root n t) some (omega (arith, s.inside)) buffer

  wire-is : (t l : ℕ) → 0 < t → t < stages n → l < layer_count n → on_layer wire t l ≡ stage_delay n t l
  unfolding stage_delay driving_stage delays.delay_to
  wire-is t l a b h =
      let (some, buffer) = stage-buffer n t a b in
      let s = stage_at n t b in
      ap (λ (k : ℕ). on_layer wire k l) (sym s.drives_it) ∙ N.driven.wire-is (root n t) l some (omega (arith, s.inside)) buffer h

  limit_is : (t l : ℕ) → t < stages n → l < layer_count n → limit_on limit t l ≡ limit_of (sink_limits n t l)
  limit_is t l a b =
      let e : j - 1 ≡ length n.nodes = omega (arith, N.inside) in
      N.limited.limit_is t l a b ∙ ap limit_of (ap (limits_to n t l) e ∙ limits-all n t l)

  -- On the way to a stage the node numbers rise, and the delays are at most so much for each.
  delay-most : (t l : ℕ) → 0 < t → t < stages n → root n (driving_stage n t) * max_node_delay + stage_delay n t l ≤ root n t * max_node_delay
  unfolding stage_delay driving_stage
  delay-most t l a b =
      let e = root-edge A t a b in
      omega (arith, delay_in A l e, root_before A (root n t) e.after e.inside)

  pub numbering_end : {cost : List ℕ} → Priced n cost → Laid (tree_of n) driver wire limit cost
  numbering_end {cost} P = record {
    delays = record {
      few-stages = A.few-stages;
      few-layers = A.few-layers;
      driver-long = omega (arith, A.few-stages, N.driven.driver-long);
      delay-long = omega (arith, A.few-stages, N.driven.wire-long);
      driver-at = driver-is;
      delay-at = wire-is;
      delays-to = λ t. root n t * max_node_delay;
      delay-most = λ t l a b h. delay-most t l a b;
      delays-most = λ t b. omega (arith, (stage_at n t b).inside, A.few-nodes);
      arrival-most = arrival_in A;
    };
    limit_long = omega (arith, A.few-stages, N.limited.limit_long);
    limit_at = limit_is;
    limit_most = λ t l a b. least_in A t l;
    costs = record { cost-long = omega (arith, A.few-stages, P.long); cost-at = P.each; cost-most = λ t l a b. stage-small A l t };
  }
