-- The limits that the sinks up to a node set the stages, by one pass over the nodes: each sink lowers the limit of its own stage to what it asks (01, Timing
-- rule: a stage's required time is the least over its terminals).
use Rattle.std.specs.Prelude.{◌≡◌, Bool, true, false, length, ℤ, pos, ◌-ℤ◌}
use Rattle.std.proofs.Math.Path.{refl, ap}
use Rattle.std.proofs.Common.{◌∙◌, arith, eqb-true, eq-eqb}
use mathlib.Core.List.{List, [], ◌∷◌, ◌++◌, map, map-append, append-nil}
use Prim.Native.Nat.{ℕ, ◌+◌, ◌-◌, ◌≤◌, ◌<◌}
use Rattle.std.proofs.Math.Dec.{eqb}
use Rattle.laws.specs.Basic.{from, keep, min_z, least_of}
use Rattle.laws.specs.Integers.{up, down, false_le, pos_view, least-mem, minus_up, minus_down}
use Rattle.rules.specs.declared.Kind.{Kind}
use Rattle.rules.specs.declared.Kind.TheVariants.{Steiner, Buffer, Sink}
use Rattle.rules.specs.Tree.{Net, at, is_sink, edges, edges_of, stage_of}
use Rattle.rules.specs.Bytes.{max_time}
use Rattle.rules.specs.Timing.{gate_delay, wire_delay, terminal_time}
use Rattle.facts.specs.Accepted.{Accepted}
use Rattle.facts.specs.Words.{sink_time}
use Rattle.facts.specs.Ranges.{TimeInRange, kind_in_lem}
use Rattle.facts.specs.Fits.{half_range}
use Rattle.facts.specs.Bounds.{delay_in}
use Rattle.demands.specs.StageNumbers.{sink_limit, sink_limits, sinks_of, SinkOf, limit_mem}
use Rattle.delays.specs.Delayed.{delay_to}
use Rattle.slices.specs.Laid.{max_entry, limit_of, no_limit}
use Rattle.laws.specs.Appending.{keep_append, from_last, least-last}

-- The sinks of stage t among these nodes.
abbrev sinks_among : Net → ℕ → List ℕ → List ℕ
sinks_among n t js = keep (λ j. is_sink (at n j).kind) (keep (λ j. eqb (stage_of n j) t) js)

-- The limits that the sinks up to node m set stage t on layer l: none at first, and at the end those of the definition.
unfoldable pub limits_to : Net → ℕ → ℕ → ℕ → List ℤ
limits_to n t l m = map (sink_limit n t l) (sinks_among n t (from 1 m))

pub limits-none : (n : Net) (t l : ℕ) → limits_to n t l 0 ≡ []
unfolding limits_to
limits-none n t l = refl

pub limits-all : (n : Net) (t l : ℕ) → limits_to n t l (length n.nodes) ≡ sink_limits n t l
unfolding limits_to sink_limits sinks_of edges_of edges
limits-all n t l = refl

module _ (n : Net) (t l j : ℕ) (h : 1 ≤ j) where
  -- The limits of the nodes up to j are those of the nodes before it, then that of j if it is a sink of stage t.
  apart : limits_to n t l j ≡ limits_to n t l (j - 1) ++ map (sink_limit n t l) (sinks_among n t (j ∷ []))
  unfolding limits_to
  apart =
      ap (λ (js : List ℕ). map (sink_limit n t l) (sinks_among n t js)) (from_last j h) ∙
      (ap (λ (js : List ℕ). map (sink_limit n t l) (keep (λ j. is_sink (at n j).kind) js)) (keep_append (λ j. eqb (stage_of n j) t) (from 1 (j - 1)) (j ∷ [])) ∙
      (ap (map (sink_limit n t l)) (keep_append (λ j. is_sink (at n j).kind) (keep (λ j. eqb (stage_of n j) t) (from 1 (j - 1)))
      (keep (λ j. eqb (stage_of n j) t) (j ∷ []))) ∙
      map-append (sink_limit n t l) (sinks_among n t (from 1 (j - 1))) (sinks_among n t (j ∷ []))))

  -- A sink of stage t adds its limit.
  pub limits-more : stage_of n j ≡ t → is_sink (at n j).kind ≡ true → limits_to n t l j ≡ limits_to n t l (j - 1) ++ (sink_limit n t l j ∷ [])
  limits-more e s = apart ∙ ap (λ (js : List ℕ). limits_to n t l (j - 1) ++ map (sink_limit n t l) js) one
    where
      one : sinks_among n t (j ∷ []) ≡ j ∷ []
      one = rw (eq-eqb (stage_of n j) t e, s) refl

  -- Any other node adds none.
  pub limits-skip : (stage_of n j ≡ t → is_sink (at n j).kind ≡ true → ⊥) → limits_to n t l j ≡ limits_to n t l (j - 1)
  limits-skip other =
      apart ∙
      (ap (λ (js : List ℕ). limits_to n t l (j - 1) ++ map (sink_limit n t l) js) (none (eqb (stage_of n j) t) (is_sink (at n j).kind) refl refl) ∙
      append-nil (limits_to n t l (j - 1)))
    where
      none : (a b : Bool) → eqb (stage_of n j) t ≡ a → is_sink (at n j).kind ≡ b → sinks_among n t (j ∷ []) ≡ []
      none true true p q = absurd (other (eqb-true (stage_of n j) t p) q)
      none true false p q = rw (p, q) refl
      none false b p q = rw p refl

-- One limit more, of a time that can be compared with `no_limit`.
pub limit_last : (rs : List ℤ) (r : ℤ) → up r < max_entry → limit_of (rs ++ (r ∷ [])) ≡ min_z (limit_of rs) r
limit_last [] r h = rw (false_le no_limit r (omega (arith, pos_view max_entry))) refl
limit_last (x ∷ xs) r h = least-last x xs r

-- The limit of a sink, by its required time and the delay to it.
pub sink_limit_lem : (n : Net) (l j : ℕ) {c : ℕ} {r : ℤ} → (at n j).kind ≡ Sink c r → sink_limit n (stage_of n j) l j ≡ r -ℤ pos (delay_to n l j)
unfolding sink_limit delay_to
sink_limit_lem n l j e = rw (sink_time n (λ u. pos 0) j e) refl

module _ {n : Net} (A : Accepted n) where
  -- A sink's limit is no later than its required time, and no earlier than that minus the greatest delay.
  pub limit_in : (l : ℕ) {t j : ℕ} → SinkOf n t j → (up (sink_limit n t l j) ≤ max_time) × (down (sink_limit n t l j) < half_range)
  unfolding sink_limit
  limit_in l {t} {j} s = go (at n j).kind refl s.sink
    where
      d : ℕ
      d = gate_delay n l t + wire_delay n l j

      asks : (r : ℤ) → TimeInRange r → (up (r -ℤ pos d) ≤ max_time) × (down (r -ℤ pos d) < half_range)
      asks r (high, low) = (
        omega (arith, minus_up r (pos d), pos_view d),
        omega (arith, minus_down r (pos d), pos_view d, delay_in A l s.edge, s.edge.inside, A.few-nodes),
      )

      go : (k : Kind) → (at n j).kind ≡ k → is_sink k ≡ true
          → (up (terminal_time n (λ u. pos 0) j -ℤ pos d) ≤ max_time) × (down (terminal_time n (λ u. pos 0) j -ℤ pos d) < half_range)
      go Steiner e i = let z : ◌≡◌ {A = ℕ} 0 1 = cc in absurd (omega arith)
      go (Buffer c r i) e i' = let z : ◌≡◌ {A = ℕ} 0 1 = cc in absurd (omega arith)
      go (Sink c r) e i = rw (sink_time n (λ u. pos 0) j e) (asks r (rw e at (kind_in_lem A j)).1)

  -- So is the least of a stage's limits, if there is one.
  pub least_in : (t l : ℕ) → (up (limit_of (sink_limits n t l)) ≤ max_entry) × (down (limit_of (sink_limits n t l)) ≤ max_entry)
  least_in t l = go (sink_limits n t l) refl
    where
      go : (rs : List ℤ) → sink_limits n t l ≡ rs → (up (limit_of rs) ≤ max_entry) × (down (limit_of rs) ≤ max_entry)
      go [] e = (omega (arith, pos_view max_entry), omega (arith, pos_view max_entry))
      go (r ∷ rs) e =
          let (j, s, q) = limit_mem n t l {z = least_of (r ∷ rs)} (rw e (least-mem (r ∷ rs) tt)) in
          let (high, low) = limit_in l s in
          rw q (omega arith, omega arith)
