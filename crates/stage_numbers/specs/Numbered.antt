-- The pass over the nodes: before node j the tables hold what the buffers and sinks before it give. No two buffers drive one stage, so what a buffer gives
-- stays; a sink's limit is joined to those of its stage.
use Rattle.std.specs.Prelude.{◌≡◌, Bool, true, false, ◌⊎◌, List, ℕ, ◌+◌, ◌*◌, ◌-◌, ◌≤◌, ◌<◌, length, get_or, replicate, set, ℤ, ◌-ℤ◌, if◌then◌else◌}
use Rattle.std.proofs.Math.Path.{refl, ap}
use Rattle.std.proofs.Common.{sym, ◌∙◌, inl, inr, arith, length-set, get_or-set_same, get_or-set_other}
use Rattle.std.proofs.lemmas.List.{get_or-replicate, length-replicate}
use Rattle.std.proofs.Math.IntN.{pos}
use Rattle.laws.specs.Basic.{min_z}
use Rattle.laws.specs.Booleans.{same_or}
use Rattle.rules.specs.declared.Kind.{Kind}
use Rattle.rules.specs.declared.Kind.TheVariants.{Steiner, Buffer, Sink}
use Rattle.rules.specs.Tree.{Net, at, is_buffer, is_sink, drives, root, stage_of, stages, layer_count}
use Rattle.rules.specs.Bytes.{max_layers, max_nodes, max_stages}
use Rattle.facts.specs.Accepted.{Accepted}
use Rattle.facts.specs.Stages.{root-is-buffer, root-drives, drives-below, stage-below}
use Rattle.facts.specs.Ranges.{kind_in_lem}
use Rattle.tree.specs.Staged.{stage_below, below-is}
use Rattle.delays.specs.Delayed.{LayerDelays, delay_to, delay-below}
use Rattle.demands.specs.StageNumbers.{sink_limit}
use Rattle.slices.specs.Rows.{entry, RowSet, row_kept}
use Rattle.slices.specs.Laid.{on_layer, limit_on, limit_of, no_limit}
use Rattle.stage_numbers.specs.LimitRows.{lowered}
use Rattle.stage_numbers.specs.Limits.{limits_to, limits-none, limits-more, limits-skip, limit_last, sink_limit_lem, limit_in}
use Rattle.stage_numbers.specs.Noted.{NoteIn, Noted}

-- What the buffers before node j give: the driver of the stage below each, and the delay to that stage on each layer.
pub record BuffersNoted (n : Net) (driver wire : List ℕ) (j : ℕ) : Type 0 where
  pub driver-is : (i : ℕ) → 1 ≤ i → i < j → is_buffer (at n i).kind ≡ true → get_or driver (drives n i) 0 ≡ stage_of n i
  pub wire-is : (i l : ℕ) → 1 ≤ i → i < j → is_buffer (at n i).kind ≡ true → l < layer_count n → on_layer wire (drives n i) l ≡ delay_to n l i
  pub driver-long : length driver ≡ max_stages
  pub wire-long : length wire ≡ max_stages * max_layers

-- What the sinks before node j give: the least of the limits that they set each stage.
pub record SinksNoted (n : Net) (limit : List ℤ) (j : ℕ) : Type 0 where
  pub limit_is : (t l : ℕ) → t < stages n → l < layer_count n → limit_on limit t l ≡ limit_of (limits_to n t l (j - 1))
  pub limit_long : length limit ≡ max_stages * max_layers

-- The pass before node j.
pub record Numbering (n : Net) (driver wire : List ℕ) (limit : List ℤ) (j : ℕ) : Type 0 where
  pub some : 1 ≤ j
  pub inside : j ≤ length n.nodes + 1
  pub driven : BuffersNoted n driver wire j
  pub limited : SinksNoted n limit j

pub numbering_start : {n : Net} → Accepted n → {driver wire : List ℕ} {limit : List ℤ} → length driver ≡ max_stages → length wire ≡ max_stages * max_layers
    → limit ≡ replicate (max_stages * max_layers) no_limit → Numbering n driver wire limit 1
numbering_start {n} A {limit = limit} ld lw ll = record {
  some = omega arith;
  inside = omega arith;
  driven = record { driver-is = λ i a b. absurd (omega arith); wire-is = λ i l a b. absurd (omega arith); driver-long = ld; wire-long = lw };
  limited = record {
    limit_is = λ t l a b.
        unset (t * max_layers + l) (omega (arith, A.few-stages, A.few-layers)) ∙ ap limit_of (sym (ap (limits_to n t l) none ∙ limits-none n t l));
    limit_long = ap length ll ∙ length-replicate (max_stages * max_layers) no_limit;
  };
}
  where
    none : 1 - 1 ≡ 0
    none = omega arith

    unset : (k : ℕ) → k < max_stages * max_layers → get_or limit k (pos 0) ≡ no_limit
    unset k h = rw ll (get_or-replicate (max_stages * max_layers) k no_limit (pos 0) h)

-- Two buffers that drive one stage are one.
drives-apart : (n : Net) (i j : ℕ) → 1 ≤ i → 1 ≤ j → i ≤ length n.nodes → j ≤ length n.nodes → is_buffer (at n i).kind ≡ true
    → is_buffer (at n j).kind ≡ true → drives n i ≡ drives n j → i ≡ j
drives-apart n i j a b c d p q e =
    sym (root-drives n i c (root-is-buffer n i a ∙ p)) ∙ (ap (root n) e ∙ root-drives n j d (root-is-buffer n j b ∙ q))

module _ {n : Net} (A : Accepted n) {driver wire : List ℕ} {j : ℕ} (D : BuffersNoted n driver wire j) (a : 1 ≤ j) (b : j ≤ length n.nodes) where
  -- A node that is no buffer gives no driver.
  buffers-skip : is_buffer (at n j).kind ≡ false → BuffersNoted n driver wire (j + 1)
  buffers-skip e = record {
    driver-is = λ i c d p. D.driver-is i c (before i d p (same_or j i)) p;
    wire-is = λ i l c d p. D.wire-is i l c (before i d p (same_or j i)) p;
    driver-long = D.driver-long;
    wire-long = D.wire-long;
  }
    where
      before : (i : ℕ) → i < j + 1 → is_buffer (at n i).kind ≡ true → (i ≡ j) ⊎ (i ≡ j → ⊥) → i < j
      before i d p (inl q) = let z : ◌≡◌ {A = ℕ} 0 1 = let y = ap (λ (k : ℕ). is_buffer (at n k).kind) q in cc in absurd (omega arith)
      before i d p (inr ne) = omega arith

  -- A buffer gives one, and no other buffer's is lost.
  buffers-more : {wire' : List ℕ} {layers : ℕ} {f : ℕ → ℕ} → layers ≡ layer_count n → ((l : ℕ) → l < layers → f l ≡ delay_to n l j)
      → is_buffer (at n j).kind ≡ true → RowSet 0 max_layers wire wire' (drives n j) layers f
      → BuffersNoted n (set driver (drives n j) (stage_of n j)) wire' (j + 1)
  buffers-more {wire'} {layers} {f} el ef e R = record {
    driver-is = λ i c d p. driver-at i c d p (same_or j i);
    wire-is = λ i l c d p h. wire-at i l c d p h (same_or j i);
    driver-long = length-set driver (drives n j) (stage_of n j) ∙ D.driver-long;
    wire-long = R.long ∙ D.wire-long;
  }
    where
      apart : (i : ℕ) → 1 ≤ i → i < j → is_buffer (at n i).kind ≡ true → drives n i ≡ drives n j → ⊥
      apart i c d p q = let z = drives-apart n i j c a (omega arith) b p e q in omega arith

      driver-at : (i : ℕ) → 1 ≤ i → i < j + 1 → is_buffer (at n i).kind ≡ true → (i ≡ j) ⊎ (i ≡ j → ⊥)
          → get_or (set driver (drives n j) (stage_of n j)) (drives n i) 0 ≡ stage_of n i
      driver-at i c d p (inl q) = rw q (get_or-set_same driver (drives n j) (stage_of n j) 0 (omega (arith, D.driver-long, drives-below n j b, A.few-stages)))
      driver-at i c d p (inr ne) =
          let h : i < j = omega arith in
          get_or-set_other driver (drives n j) (drives n i) (stage_of n j) 0 (apart i c h p) ∙ D.driver-is i c h p

      wire-at : (i l : ℕ) → 1 ≤ i → i < j + 1 → is_buffer (at n i).kind ≡ true → l < layer_count n → (i ≡ j) ⊎ (i ≡ j → ⊥)
          → on_layer wire' (drives n i) l ≡ delay_to n l i
      wire-at i l c d p h (inl q) = let k : l < layers = omega arith in rw q (R.set_to l k ∙ ef l k)
      wire-at i l c d p h (inr ne) =
          let k : i < j = omega arith in
          row_kept R (drives n i) l (omega (arith, A.few-layers)) (λ s. apart i c k p s) ∙ D.wire-is i l c k p h

module _ {n : Net} (A : Accepted n) {limit : List ℤ} {j : ℕ} (L : SinksNoted n limit j) (a : 1 ≤ j) (b : j ≤ length n.nodes) where
  here : j + 1 - 1 ≡ j
  here = omega arith

  -- A node that is no sink sets no limit.
  sinks-skip : is_sink (at n j).kind ≡ false → SinksNoted n limit (j + 1)
  sinks-skip e = record {
    limit_is = λ t l c d. L.limit_is t l c d ∙ ap limit_of (sym (ap (limits_to n t l) here ∙ limits-skip n t l j a (λ p q. never q)));
    limit_long = L.limit_long;
  }
    where
      never : is_sink (at n j).kind ≡ true → ⊥
      never q = let z : ◌≡◌ {A = ℕ} 0 1 = cc in omega arith

  -- A sink lowers the limit of its stage to what it asks.
  sinks-more : {limit' : List ℤ} {delay : List ℕ} {layers c : ℕ} {r : ℤ} → LayerDelays n layers delay → layers ≡ layer_count n → (at n j).kind ≡ Sink c r
      → RowSet (pos 0) max_layers limit limit' (stage_of n j) layers (lowered layers limit delay j r (stage_of n j)) → SinksNoted n limit' (j + 1)
  unfolding lowered
  sinks-more {limit'} {delay} {layers} {c} {r} D el e R = record {
    limit_is = λ t l c d. at_each_stage t l c d (same_or (stage_of n j) t);
    limit_long = R.long ∙ L.limit_long;
  }
    where
      at_each_stage : (t l : ℕ) → t < stages n → l < layer_count n → (t ≡ stage_of n j) ⊎ (t ≡ stage_of n j → ⊥)
          → limit_on limit' t l ≡ limit_of (limits_to n t l (j + 1 - 1))
      at_each_stage t l c d (inl q) =
          let s = stage_of n j in
          let asks : sink_limit n s l j ≡ r -ℤ pos (entry layers delay j l) =
          sink_limit_lem n l j e ∙ ap (λ (k : ℕ). r -ℤ pos k) (sym (D.each j l a b (omega arith))) in
          let in_range = (limit_in A l {t = s} {j = j} (record { edge = record { after = a; inside = b; stage = refl }; sink = ap is_sink e })).0 in
          rw (q, here) (
          R.set_to l (omega arith) ∙
          (ap (λ (z : ℤ). min_z z (r -ℤ pos (entry layers delay j l))) (L.limit_is s l (stage-below A j a b) d) ∙
          (ap (min_z (limit_of (limits_to n s l (j - 1)))) (sym asks) ∙
          (sym (limit_last (limits_to n s l (j - 1)) (sink_limit n s l j) (omega arith)) ∙
          ap limit_of (sym (limits-more n s l j a refl (ap is_sink e)))))))
      at_each_stage t l c d (inr ne) =
          row_kept R t l (omega (arith, A.few-layers)) ne ∙
          (L.limit_is t l c d ∙ ap limit_of (sym (ap (limits_to n t l) here ∙ limits-skip n t l j a (λ p q. ne (sym p)))))

-- What a turn at node j may rely on, and what it leaves.
pub record NumberTurn (n : Net) (layers : ℕ) (delay : List ℕ) (j above own : ℕ) (driver wire : List ℕ) (limit : List ℤ) : Type 0 where
  pub node_in : j < max_nodes + 1
  pub note_in : NoteIn (at n j).kind layers delay j above own driver wire limit
  pub onward : {driver' wire' : List ℕ} {limit' : List ℤ} → Noted (at n j).kind layers delay j above own driver wire limit driver' wire' limit'
      → Numbering n driver' wire' limit' (j + 1)

module _ {n : Net} (A : Accepted n) {delay : List ℕ} {layers : ℕ} (D : LayerDelays n layers delay) (el : layers ≡ layer_count n)
    {driver wire : List ℕ} {limit : List ℤ} {j : ℕ} (N : Numbering n driver wire limit j) (b : j ≤ length n.nodes) where
  a : 1 ≤ j
  a = N.some

  -- The wire below node j belongs to a stage of the net.
  own_below : stage_below n j < stages n
  own_below = rw (below-is A j a) (go (is_buffer (at n j).kind))
    where
      go : (t : Bool) → (if t then drives n j else stage_of n j) < stages n
      go true = drives-below n j b
      go false = stage-below A j a b

  own-drives : is_buffer (at n j).kind ≡ true → stage_below n j ≡ drives n j
  own-drives e = below-is A j a ∙ rw e refl

  few : layers ≤ max_layers
  few = omega (arith, A.few-layers)

  node_in : j < max_nodes + 1
  node_in = omega (arith, A.few-nodes)

  noted : (k : Kind) → (at n j).kind ≡ k → {driver' wire' : List ℕ} {limit' : List ℤ}
      → Noted k layers delay j (stage_of n j) (stage_below n j) driver wire limit driver' wire' limit' → Numbering n driver' wire' limit' (j + 1)
  noted Steiner e (p, q, r) = rw (p, q, r) (record {
    some = omega arith;
    inside = omega arith;
    driven = buffers-skip A N.driven a b (ap is_buffer e);
    limited = sinks-skip A N.limited a b (ap is_sink e);
  })
  noted (Buffer c r d) e (p, q, s) = rw (p, s, own-drives (ap is_buffer e)) (record {
    some = omega arith;
    inside = omega arith;
    driven = buffers-more A N.driven a b el (λ l h. D.each j l a b h) (ap is_buffer e) (rw (own-drives (ap is_buffer e)) at q);
    limited = sinks-skip A N.limited a b (ap is_sink e);
  })
  noted (Sink c r) e (p, q, s) = rw (p, q) (record {
    some = omega arith;
    inside = omega arith;
    driven = buffers-skip A N.driven a b (ap is_buffer e);
    limited = sinks-more A N.limited a b D el e s;
  })

  pub number-turn : {above own : ℕ} → above ≡ stage_of n j → own ≡ stage_below n j → NumberTurn n layers delay j above own driver wire limit
  number-turn ea eo = rw (ea, eo) (record {
    node_in = node_in;
    note_in = record {
      few = few;
      delays = record {
        row = record { row_in = node_in; long = D.long };
        each = λ l h. omega (arith, D.each j l a b h, delay-below A l j a b);
      };
      driver-long = N.driven.driver-long;
      wire-row = record { row_in = omega (arith, own_below, A.few-stages); long = omega (arith, N.driven.wire-long) };
      limit_row = record { row_in = omega (arith, stage-below A j a b, A.few-stages); long = omega (arith, N.limited.limit_long) };
      kind_in_lem = kind_in_lem A j;
    };
    onward = noted (at n j).kind refl;
  })
