-- What code has in hand of an edge on layer l: its length, of the lower end its kind and the load below it. With a node of the net in hand, these give
-- edge R, edge C and the load at the lower end (01, Timing rule), and in the bounds that follow from the ranges of 01.
use Rattle.std.specs.Prelude.{◌≡◌, List, ℕ, ◌+◌, ◌*◌, ◌≤◌, ◌<◌}
use Rattle.std.proofs.Math.Path.{refl}
use Rattle.rules.specs.declared.Kind.{Kind}
use Rattle.rules.specs.declared.Kind.TheVariants.{Steiner, Buffer, Sink}
use Rattle.rules.specs.Tree.{Net, at}
use Rattle.rules.specs.Timing.{layer, edge_res, edge_cap, load, edge_delay}
use Rattle.facts.specs.Accepted.{Accepted}
use Rattle.facts.specs.Ranges.{max_edge_res, max_edge_cap, edge_res_in, edge_cap_in}
use Rattle.facts.specs.Loads.{max_load, added_load, lower_in}
use Rattle.slices.specs.Rows.{entry}
use Rattle.loads.specs.Tables.{NodeRow}

-- The load at the lower end of an edge to a node of this kind: what is below a Steiner point, a terminal's input capacitance.
abbrev pub lower_of : Kind → ℕ → ℕ
lower_of kind below = elim kind [ Steiner ↦ below | Buffer c r d ↦ c | Sink c t ↦ c ]

-- Edge R and edge C of an edge of this length on layer l.
abbrev pub res_on : Net → ℕ → ℕ → ℕ
res_on n len l = len * (layer n l).unit_res

abbrev pub cap_on : Net → ℕ → ℕ → ℕ
cap_on n len l = len * (layer n l).unit_cap

-- What the edge to node j, of this length, where j is of this kind, adds to the load at its upper end, and its delay: by the table of loads in column c,
-- which stands for layer l + c.
abbrev pub added_on : Net → ℕ → List ℕ → ℕ → Kind → ℕ → ℕ → ℕ → ℕ
added_on n w table len kind l j c = cap_on n len (l + c) + lower_of kind (entry w table j c)

abbrev pub edge_on : Net → ℕ → List ℕ → ℕ → Kind → ℕ → ℕ → ℕ → ℕ
edge_on n w table len kind l j c = res_on n len (l + c) * (cap_on n len (l + c) + 2 * lower_of kind (entry w table j c))

-- These numbers are in their bounds in each of the columns.
pub record EdgeIn (n : Net) (w : ℕ) (table : List ℕ) (len : ℕ) (kind : Kind) (l j : ℕ) : Type 0 where
  pub row : NodeRow w table j
  pub res_in : (c : ℕ) → c < w → res_on n len (l + c) ≤ max_edge_res
  pub cap_in : (c : ℕ) → c < w → cap_on n len (l + c) ≤ max_edge_cap
  pub lower_in : (c : ℕ) → c < w → lower_of kind (entry w table j c) ≤ max_load

-- Where j is a Steiner point, row j of the table holds the load at it. (At a terminal the load below is another stage's, and is not asked for.)
pub record LoadAt (n : Net) (w : ℕ) (table : List ℕ) (l j : ℕ) : Type 0 where
  pub is : (at n j).kind ≡ Steiner → (c : ℕ) → c < w → entry w table j c ≡ load n (l + c) j

-- With it the numbers above are those of edge j.
module _ {n : Net} {w : ℕ} {table : List ℕ} {l j : ℕ} (B : LoadAt n w table l j) where
  lower-is : (c : ℕ) → c < w → lower_of (at n j).kind (entry w table j c) ≡ lower_of (at n j).kind (load n (l + c) j)
  lower-is c h = go (at n j).kind refl
    where
      go : (k : Kind) → (at n j).kind ≡ k → lower_of k (entry w table j c) ≡ lower_of k (load n (l + c) j)
      go Steiner e = B.is e c h
      go (Buffer a r d) e = refl
      go (Sink a t) e = refl

  pub added_is : (c : ℕ) → c < w → added_on n w table (at n j).len (at n j).kind l j c ≡ added_load n (l + c) j
  unfolding added_load edge_cap
  added_is c h = rw (lower-is c h) refl

  pub edge-is : (c : ℕ) → c < w → edge_on n w table (at n j).len (at n j).kind l j c ≡ edge_delay n (l + c) j
  unfolding edge_delay edge_res edge_cap
  edge-is c h = rw (lower-is c h) refl

  pub edge-rows : Accepted n → NodeRow w table j → EdgeIn n w table (at n j).len (at n j).kind l j
  unfolding edge_res edge_cap
  edge-rows A R = record {
    row = R;
    res_in = λ c h. edge_res_in A (l + c) j;
    cap_in = λ c h. edge_cap_in A (l + c) j;
    lower_in = λ c h. rw (lower-is c h) (lower_in A (l + c) j);
  }
