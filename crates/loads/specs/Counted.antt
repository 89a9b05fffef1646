-- The edges of each stage, counted in the walk from the last node to the first (02, wish 4): before node j is taken each count is that of the stage's edges
-- after j, and the edge to j is counted to its own stage, whatever it leads to.
use Rattle.std.specs.Prelude.{◌≡◌, ◌⊎◌, List, map, ℕ, suc, ◌+◌, ◌-◌, ◌≤◌, ◌<◌, eqb, length, get_or, set, replicate, if◌then◌else◌}
use Rattle.std.proofs.Common.{ap, sym, ◌∙◌, inl, inr, arith, length-set, get_or-set_same, get_or-set_other, Fits, eq-eqb, ne_eqb}
use Rattle.std.proofs.Math.Nat.{sub-zero}
use Rattle.std.proofs.lemmas.List.{length-replicate}
use Rattle.std.specs.Int.{w64}
use Rattle.laws.specs.Basic.{from, sum}
use Rattle.laws.specs.Booleans.{same_or}
use Rattle.laws.specs.Lists.{map_same}
use Rattle.rules.specs.Tree.{Net, edges_of, stage_of, stages}
use Rattle.rules.specs.Bytes.{max_stages}
use Rattle.facts.specs.Accepted.{Accepted}
use Rattle.facts.specs.EdgeCounts.{edges_from, edges_none, edges_more, edges_few, edges-all, edges-by-stage}
use Rattle.loads.specs.Columns.{zeros}

-- The counts when nodes 1 to j are still to come.
pub record Counting (n : Net) (edges : List ℕ) (j : ℕ) : Type 0 where
  pub each : (t : ℕ) → get_or edges t 0 ≡ edges_from n t (suc j) (length n.nodes - j)
  pub long : length edges ≡ max_stages

-- At first nothing is counted.
pub counting_start : (n : Net) {nodes : ℕ} → nodes ≡ length n.nodes → Counting n (replicate {A = ℕ} max_stages 0) nodes
counting_start n {nodes} e = record {
  each = λ t.
      let none : length n.nodes - nodes ≡ 0 = omega arith in
      zeros max_stages t ∙ sym (ap (edges_from n t (suc nodes)) none ∙ edges_none n t (suc nodes));
  long = length-replicate {A = ℕ} max_stages 0;
}

module _ {n : Net} {edges : List ℕ} {j : ℕ} (C : Counting n edges j) where
  -- A count is no higher than the nodes that were taken, so that there is room for one more.
  pub count_fits : Accepted n → (t : ℕ) {x : ℕ} → x ≤ 1 → Fits w64 (get_or edges t 0 + x)
  count_fits A t h = record { fits = omega (arith, C.each t, edges_few n t (suc j) (length n.nodes - j), A.few-nodes) }

  -- The edge to node j is one more of its stage t.
  pub counting_more : {t : ℕ} → 1 ≤ j → j ≤ length n.nodes → t ≡ stage_of n j → t < max_stages → Counting n (set edges t (get_or edges t 0 + 1)) (j - 1)
  counting_more {t} a b e h = record { each = λ u. count u (same_or t u); long = length-set edges t (get_or edges t 0 + 1) ∙ C.long }
    where
      more : (u : ℕ) → edges_from n u (suc (j - 1)) (length n.nodes - (j - 1))
          ≡ (if eqb (stage_of n j) u then 1 else 0) + edges_from n u (suc j) (length n.nodes - j)
      more u =
          let q : suc (j - 1) ≡ j = omega arith in
          let r : length n.nodes - (j - 1) ≡ suc (length n.nodes - j) = omega arith in
          rw (q, r) (edges_more n u j (length n.nodes - j))

      count : (u : ℕ) → (u ≡ t) ⊎ (u ≡ t → ⊥)
          → get_or (set edges t (get_or edges t 0 + 1)) u 0 ≡ edges_from n u (suc (j - 1)) (length n.nodes - (j - 1))
      count u (inl q) =
          let m = rw (eq-eqb (stage_of n j) t (sym e)) at (more t) in
          rw q (omega (arith, get_or-set_same edges t (get_or edges t 0 + 1) 0 (omega (arith, C.long)), C.each t))
      count u (inr ne) =
          let m = rw (ne_eqb (stage_of n j) u (λ q. ne (sym q ∙ sym e))) at (more u) in
          omega (arith, get_or-set_other edges t u (get_or edges t 0 + 1) 0 ne, C.each u)

  -- At last each count is the number of the stage's edges,
  pub counted-each : j ≡ 0 → (t : ℕ) → get_or edges t 0 ≡ length (edges_of n t)
  counted-each e t = C.each t ∙ rw (e, sub-zero) (edges-all n t)

  -- and the counts add up to the nodes after the driver.
  pub counted-total : Accepted n → j ≡ 0 → sum (map (λ t. get_or edges t 0) (from 0 (stages n))) ≡ length n.nodes
  counted-total A e =
      ap sum (map_same (λ t. get_or edges t 0) (λ t. length (edges_of n t)) (from 0 (stages n)) (λ t m. counted-each e t)) ∙ edges-by-stage A
