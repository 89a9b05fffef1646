-- The second walk: the sums so far are the totals of the nets so far, and the nets from here on are those still to come.
use Rattle.std.specs.Prelude.{◌≡◌, refl, true, ℕ, zero, suc, ◌+◌, ◌*◌, ◌<◌, ◌≤◌, leb}
use Rattle.std.proofs.Math.Path.{ap}
use Rattle.std.proofs.Common.{sym, ◌∙◌, subst, arith}
use mathlib.Core.List.{List, [], ◌∷◌, ◌++◌, map, append_assoc, append-nil}
use Rattle.std.proofs.Math.ListN.{length}
use borrow.Author.Tests.{le-leb, leb-true}
use Rattle.laws.specs.Lists.{length_more}
use Rattle.rules.specs.declared.Report.{Report}
use Rattle.rules.specs.Bytes.{Field, field_at, next}
use Rattle.rules.specs.Reading.{Answer, accept, refuse}
use Rattle.rules.specs.Program.{program_planned}
use Rattle.rules.specs.Block.{max_block, due_net, net_field, payload, nets_from, block, over_planned, refused_nets, totals, no_totals, report}
use Rattle.facts.specs.Answers.{accept_injective, then_accepted, unless_accepted}
use Rattle.facts.specs.Fields.{FieldThere, field-there}
use Rattle.facts.specs.Block.{max_nets}
use Rattle.demands.specs.Totals.{plus, nets_more, Small, totals-small}
use Rattle.block.specs.Walks.{is_accepted, is_block, net-field-is, step, next-later}

-- what an answer that accepts holds
accepted-is : {A : Type 0} (x : Answer A) → is_accepted x ≡ true → (a : A) × (x ≡ accept a)
accepted-is (accept a) e = (a, refl)
accepted-is (refuse r) e = let z : ◌≡◌ {A = ℕ} 0 1 = cc in absurd (omega arith)

module _ (bs : List ℕ) where
  -- what is known before the field at `at`: the nets so far and those still to come are the block's, and the sums are those of the nets so far. k bounds
  -- the nets to come; a field has three bytes or more, so the nets so far are few
  pub record Adding (at : ℕ) (sums : Report) : Type 0 where
    pub k : ℕ
    pub enough : length bs < k + at
    pub inside : at ≤ length bs
    pub done : List (List ℕ)
    pub rest : List (List ℕ)
    pub all : block bs ≡ accept (done ++ rest)
    pub left : nets_from k bs at ≡ accept rest
    pub few : 3 * length done ≤ at
    pub short : length bs ≤ max_block
    pub sums_are : sums ≡ totals (map program_planned done)

  -- before the first net
  pub sums_start : is_block bs ≡ true → Adding 0 (no_totals 0)
  unfolding is_block block totals no_totals over_planned refused_nets
  sums_start e =
      let (ns, a) = accepted-is (block bs) e in
      let (t, b) = unless_accepted 13 (leb (length bs) max_block) _ a in
      record {
        k = length bs + 1;
        enough = omega arith;
        inside = omega arith;
        done = [];
        rest = ns;
        all = a;
        left = b;
        few = omega arith;
        short = leb-true (length bs) max_block t;
        sums_are = refl;
      }

  module _ {at : ℕ} {sums : Report} (A : Adding at sums) where
    -- few enough nets so far: the sums have room for one more
    pub sums_small : Small max_nets sums
    sums_small = rw A.sums_are (totals-small max_nets A.done (omega (arith, A.few, A.inside, A.short)))

    -- at the end nothing is still to come
    pub sums_end : length bs ≤ at → sums ≡ report bs
    unfolding report nets_from
    sums_end h = go A.k A.enough A.left
      where
        told : A.rest ≡ [] → sums ≡ report bs
        told e =
            let q : block bs ≡ accept (A.done ++ []) = A.all ∙ ap (λ (ns : List (List ℕ)). accept (A.done ++ ns)) e in
            A.sums_are ∙ ap (λ (ns : List (List ℕ)). totals (map program_planned ns)) (sym (append-nil A.done)) ∙ (rw (q, report) refl)

        go : (k : ℕ) → length bs < k + at → nets_from k bs at ≡ accept A.rest → sums ≡ report bs
        go zero l e = absurd (omega arith)
        go (suc k) l e = told (sym (accept_injective (rw (le-leb (length bs) at h, nets_from) at e)))

    -- before the end a field is there, and its payload is the next net
    pub record Turn (f : Field) : Type 0 where
      pub there : FieldThere due_net bs at f
      pub onward : (more : Report) → more ≡ plus sums (program_planned (payload bs f)) → Adding (next f) more

    pub sums_turn : at < length bs → Turn (field_at bs at)
    sums_turn h = go A.k A.enough A.left
      where
        go : (k : ℕ) → length bs < k + at → nets_from k bs at ≡ accept A.rest → Turn (field_at bs at)
        go zero l e = absurd (omega (arith, A.inside))
        go (suc k) l e =
            let (f, a, e1) = then_accepted (net_field bs at) _ (sym (step bs k at h) ∙ e) in
            let (ns, b, e2) = then_accepted (nets_from k bs (next f)) _ e1 in
            let F = field-there due_net bs at (net-field-is bs at a) in
            turn f ns F b (accept_injective e2)
          where
            turn : (f : Field) (ns : List (List ℕ)) → FieldThere due_net bs at f → nets_from k bs (next f) ≡ accept ns → payload bs f ∷ ns ≡ A.rest
                → Turn (field_at bs at)
            turn f ns F b w = subst Turn F.is (record {
              there = F;
              onward = λ more e. record {
                k = k;
                enough = omega (arith, next-later bs F);
                inside = F.whole;
                done = A.done ++ (payload bs f ∷ []);
                rest = ns;
                all = A.all ∙ ap accept (ap (λ (ms : List (List ℕ)). A.done ++ ms) (sym w) ∙ sym (append_assoc A.done (payload bs f ∷ []) ns));
                left = b;
                few = omega (arith, length_more A.done (payload bs f), next-later bs F, A.few);
                short = A.short;
                sums_are =
                    e ∙ ap (λ (s : Report). plus s (program_planned (payload bs f))) A.sums_are
                    ∙ sym (nets_more A.done (payload bs f));
              };
            })
