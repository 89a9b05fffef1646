-- What the search is given: the numbers of a tree of stages in slices, and a share. The windows and the rows ask for a part of it.
use Rattle.std.specs.Prelude.{◌≡◌, refl, false, List, ℕ, ◌^◌, ◌≤◌, ◌<◌, ℤ, pos, negsuc}
use Rattle.std.proofs.Common.{arith}
use Rattle.std.specs.Int.Signed.{le_z}
use Rattle.laws.specs.Basic.{sum}
use Rattle.laws.specs.Integers.{up, down, true_le, false_le, le_self, pos_view}
use Rattle.rules.specs.Bytes.{max_time}
use Rattle.rules.specs.Grain.{max_exponent}
use Rattle.rules.specs.Planning.{max_share}
use Rattle.oracle.specs.Stages.{StageTree, WellFormed, plan_costs}
use Rattle.slices.specs.declared.Tree.{Tree}
use Rattle.slices.specs.Laid.{max_entry, no_limit, time_at, Laid}
use Rattle.bands.specs.Entries.{never}
use Rattle.rows.specs.Clauses.{Represents}
use Rattle.windows.specs.Clauses.{WindowsIn, Opened}

-- The slices and numbers of a call are those of the tree T, and every plan's cost is below the largest grain.
pub record Numbers (T : StageTree) (driver delay : List ℕ) (limit : List ℤ) (cost : List ℕ) (stages layers : ℕ) (arrival : ℤ) : Type 0 where
  pub laid : Laid T driver delay limit cost
  pub tree : WellFormed T
  pub stages-are : stages ≡ T.stages
  pub layers-are : layers ≡ T.layers
  pub arrival-is : arrival ≡ T.arrival
  pub cheap : (x : List ℕ) → sum (plan_costs T x) < 2 ^ max_exponent

-- The same of the tree as it is lent.
abbrev pub NumbersOf : StageTree → Tree → Type 0
NumbersOf T tree = Numbers T tree.driver.now tree.delay.now tree.limit.now tree.cost.now tree.stages tree.layers tree.arrival

-- The same with a share p/q (01, Planning: p up to max_share, q from 1 to max_share).
pub record Problem (T : StageTree) (driver delay : List ℕ) (limit : List ℤ) (cost : List ℕ) (stages layers : ℕ) (arrival : ℤ) (p q : ℕ) : Type 0 where
  pub numbers : Numbers T driver delay limit cost stages layers arrival
  pub share : p ≤ max_share
  pub some-part : 0 < q
  pub parts : q ≤ max_share

-- A time within its range is after `never`.
after_never : (t : ℤ) → down t ≤ max_time → le_z t never ≡ false
unfolding up down
after_never (pos x) h = refl
after_never (negsuc x) h = false_le (negsuc x) never (omega arith)

module _ {T : StageTree} {driver delay : List ℕ} {limit : List ℤ} {cost : List ℕ} where
  -- The same arrival time in another form.
  pub numbers-same : {stages layers : ℕ} {arrival a : ℤ} → a ≡ arrival → Numbers T driver delay limit cost stages layers arrival
      → Numbers T driver delay limit cost stages layers a
  numbers-same e N = rw e N

  pub problem-same : {stages layers : ℕ} {arrival a : ℤ} {p q : ℕ} → a ≡ arrival → Problem T driver delay limit cost stages layers arrival p q
      → Problem T driver delay limit cost stages layers a p q
  problem-same e P = rw e P

  module _ {stages layers : ℕ} {arrival : ℤ} (N : Numbers T driver delay limit cost stages layers arrival) where
    -- What the windows ask of the slices, ..
    pub windows-asked : WindowsIn T driver delay stages layers arrival
    windows-asked = record {
      laid = N.laid.delays;
      some-stage = N.tree.some-stage;
      some-layer = N.tree.some-layer;
      lower = N.tree.lower;
      stages-are = N.stages-are;
      layers-are = N.layers-are;
      arrival-is = N.arrival-is;
    }

    -- .. and between them times are looked at.
    pub represents : {k g width : ℕ} {early late : List ℤ} → g ≡ 2 ^ k → Opened T early late
        → Represents T k early late driver delay limit cost stages layers g width
    represents {early = early} {late = late} e O = record {
      laid = N.laid;
      tree = N.tree;
      stages-are = N.stages-are;
      layers-are = N.layers-are;
      grain-is = e;
      windows = record {
        from-arrival = rw O.steps.first.0 (le_self T.arrival);
        to-arrival = rw O.steps.first.1 (le_self T.arrival);
        earlier = λ j l a b c p. O.steps.earlier j l a b c;
        later = λ j l a b c p. O.steps.later j l a b c;
      };
      after_never = λ i h. after_never (time_at early i) (O.early-most i (omega (arith, N.stages-are))).1;
      under_limit = λ i h. true_le (time_at late i) no_limit (omega (arith, O.late-most i (omega (arith, N.stages-are)), pos_view max_entry));
    }
