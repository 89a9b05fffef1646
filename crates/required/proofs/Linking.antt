-- The links of the terminals, made from the last node to the first: a terminal comes in front of those of its stage that have higher numbers.
use mathlib.Core.Path.{◌≡◌, ap, sym, ◌∙◌}
use mathlib.Core.Bool.{true, false}
use mathlib.Core.List.{List}
use Prim.Native.Nat.{ℕ, ◌+◌, ◌-◌, ◌<◌}
use native.Mathlib.Omega.{arith}
use lib.ListN.{length, get_or, set, replicate, length-set, length-replicate, get_or-replicate}
use Rattle.laws.specs.Links.{link-skip, link-take}
use Rattle.rules.specs.Tree.{Net, at, is_terminal, stages}
use Rattle.rules.specs.Bytes.{max_nodes, max_stages}
use Rattle.words.specs.Words.{net_in}
use Rattle.words.specs.Held.{Held, held-accepted}
use Rattle.words.specs.Net.{held}
use Rattle.facts.specs.Accepted.{Accepted}
use Rattle.facts.specs.Stages.{TerminalOf, stage-below}
use Rattle.tree.specs.Staged.{Staged}
use Rattle.required.specs.Links.{no_terminal, TerminalsAfter}

-- After the last node there is no terminal.
pub links-start : {n : Net} → Accepted n → {nodes : ℕ} {first next : List ℕ} → nodes ≡ length n.nodes → first ≡ replicate max_stages no_terminal
    → length next ≡ max_nodes + 1 → TerminalsAfter n first next nodes
links-start {n} A k e l = record {
  most = omega arith;
  first-long = ap length e ∙ length-replicate {A = ℕ} max_stages no_terminal;
  next-long = l;
  links = record {
    first-is = λ t h. rw (e, get_or-replicate max_stages t no_terminal 0 (omega (arith, A.few-stages))) (record {
      low = omega (arith, A.few-nodes);
      most = omega arith;
      owned = λ h. absurd (omega arith);
      passed = λ m a b d. omega (arith, d.edge.inside);
    });
    next-is = λ d h. absurd (omega (arith, d.edge.inside));
  };
}

-- The places that a turn at node j reads and writes are in the tables.
pub record LinkPlaces (stage first next : List ℕ) (j : ℕ) : Type 0 where
  pub node_in : j < max_nodes + 1
  pub stage_in : get_or stage j 0 < max_stages
  pub stage-long : length stage ≡ max_nodes + 1
  pub first-long : length first ≡ max_stages
  pub next-long : length next ≡ max_nodes + 1

module _ {n : Net} (A : Accepted n) {stage below first next : List ℕ} {j : ℕ} (S : Staged n stage below) (L : TerminalsAfter n first next j)
    (h : 0 < j) where
  -- The stage of edge j is a stage of the net,
  stage-here : get_or stage j 0 < stages n
  stage-here = omega (arith, S.stage_is j h L.most, stage-below A j h L.most)

  -- so it has its place among the first links.
  pub link-places : LinkPlaces stage first next j
  link-places = record {
    node_in = omega (arith, L.most, A.few-nodes);
    stage_in = omega (arith, stage-here, A.few-stages);
    stage-long = S.stage-long;
    first-long = L.first-long;
    next-long = L.next-long;
  }

  -- A node that is no terminal is passed over.
  pub links-skip : is_terminal (at n j).kind ≡ false → TerminalsAfter n first next (j - 1)
  links-skip q = record {
    most = omega (arith, L.most);
    first-long = L.first-long;
    next-long = L.next-long;
    links = link-skip L.links (λ t d. none d);
  }
    where
      none : {t : ℕ} → TerminalOf n t j → ⊥
      none d = let p = d.ends in let z : ◌≡◌ {A = ℕ} 0 1 = cc in omega arith

  -- A terminal comes in front of those that its stage has; it is one of no other stage.
  pub links-take : is_terminal (at n j).kind ≡ true
      → TerminalsAfter n (set first (get_or stage j 0) j) (set next j (get_or first (get_or stage j 0) 0)) (j - 1)
  links-take q = record {
    most = omega (arith, L.most);
    first-long = length-set first (get_or stage j 0) j ∙ L.first-long;
    next-long = length-set next j (get_or first (get_or stage j 0) 0) ∙ L.next-long;
    links = link-take L.links h (omega (arith, link-places.node_in)) stage-here (omega (arith, link-places.first-long, link-places.stage_in))
        (omega (arith, link-places.next-long, link-places.node_in)) here (λ t d. sym d.edge.stage ∙ here.edge.stage);
  }
    where
      here : TerminalOf n (get_or stage j 0) j
      here = record { edge = record { after = h; inside = L.most; stage = sym (S.stage_is j h L.most) }; ends = q }

-- The stage of a node has its place among the first links.
pub stage_in : {w : List ℕ} {nodes layers : ℕ} {stage below first next : List ℕ} {j : ℕ} → ∥ Held w nodes layers ∥₁ → Staged (net_in w) stage below
    → TerminalsAfter (net_in w) first next j → 0 < j → get_or stage j 0 < max_stages
stage_in t S L h = (link-places (held-accepted (held t)) S L h).stage_in
