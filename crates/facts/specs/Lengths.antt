-- Reading with two bounds on lengths (02, wish 3: 4,000 where 01 had 1,000). Both take the same steps; they part only at a node whose length lies
-- between the bounds, and there the lower refuses with 3. So what the lower bound accepts the higher accepts, with the same net.
use Rattle.std.specs.Prelude.{◌≡◌, Bool, ◌⊎◌, leb, length, ℤ}
use Rattle.std.proofs.Math.Path.{refl, sym}
use Rattle.std.proofs.Common.{ap, ◌∙◌, inl, arith}
use Rattle.std.proofs.Math.Bool.{true, false}
use Rattle.std.proofs.Math.Logic.{inr}
use mathlib.Core.List.{List, [], ◌∷◌, ◌++◌, map}
use Prim.Native.Nat.{ℕ, zero, suc, ◌+◌, ◌≤◌}
use borrow.Author.Tests.{leb-true, le-leb}
use Rattle.laws.specs.Basic.{all}
use Rattle.laws.specs.Booleans.{and_three}
use Rattle.laws.specs.Lists.{length_more}
use Rattle.rules.specs.Tree.{Node, Net, node, at}
use Rattle.rules.specs.Bytes.{Field, max_length, max_nodes, next, due_layers, due_driver, due_node}
use Rattle.rules.specs.Bytes.{layers_at, is_layer, driver_at, is_driver, node_at, is_costs, is_kind, is_node}
use Rattle.rules.specs.Reading.{Answer, accept, refuse, ◌>>=◌, ◌>>◌, ◌unless◌, field, has_room, is_parent, node_field, nodes_from, is_whole, read_to, read, check}
use Rattle.rules.specs.Judging.{judged, judge}
use Rattle.rules.specs.Planning.{planned, plan}
use Rattle.rules.specs.Rounds.{planned_rounds, plan_rounds}
use Rattle.facts.specs.Answers.{not-refused, accept_injective, then_accepted, unless_accepted}
use Rattle.facts.specs.Nodes.{after_field, nodes_turn, field-taken, taken-field}
use Rattle.facts.specs.Accepted.{node-last, node-other}

-- What two readings answer: the same, unless the first refuses with 3.
abbrev pub Alike : {A : Type 0} → Answer A → Answer A → Type 0
Alike x y = (x ≡ refuse 3) ⊎ (x ≡ y)

then_alike : {A B : Type 0} {x y : Answer A} (f g : A → Answer B) → Alike x y → ((a : A) → Alike (f a) (g a)) → Alike (x >>= f) (y >>= g)
then_alike f g (inl e) h = inl (rw e refl)
then_alike {x = accept a} f g (inr e) h = rw (← e) (h a)
then_alike {x = refuse r} f g (inr e) h = inr (rw (← e) refl)

unless_alike : {B : Type 0} (r : ℕ) (t : Bool) {x y : Answer B} → Alike x y → Alike (◌>>◌ (r unless t) x) (◌>>◌ (r unless t) y)
unless_alike r true h = h
unless_alike r false h = inr refl

-- The bounds.
module _ {low high : ℕ} (le : low ≤ high) where
  node-wider : (n : Node) → is_node low n ≡ true → is_node high n ≡ true
  unfolding is_node
  node-wider n e =
      let (len, costs, kind) = and_three (leb n.len low) (is_costs n.costs) (is_kind n.kind) e in
      rw (le-leb n.len high (omega (arith, leb-true n.len low len)), costs, kind) refl

  -- The only test that knows the bound.
  range-alike : {B : Type 0} (n : Node) {x y : Answer B} → Alike x y → Alike (◌>>◌ (3 unless is_node low n) x) (◌>>◌ (3 unless is_node high n) y)
  range-alike n {x} {y} h = go (is_node low n) refl
    where
      go : (t : Bool) → is_node low n ≡ t → Alike (◌>>◌ (3 unless t) x) (◌>>◌ (3 unless is_node high n) y)
      go true e = rw (node-wider n e) h
      go false e = inl refl

  node_alike : (bs : List ℕ) (L : ℕ) (ns : List Node) (i : ℕ) → Alike (node_field low bs L ns i) (node_field high bs L ns i)
  unfolding node_field
  node_alike bs L ns i =
      then_alike {x = field (due_node L) bs i} _ _ (inr refl) (λ f.
      unless_alike 4 (has_room ns (node_at bs L f)) (range-alike (node_at bs L f) (unless_alike 5 (is_parent ns (node_at bs L f).parent) (inr refl))))

  nodes-alike : (k : ℕ) (bs : List ℕ) (L : ℕ) (ns : List Node) (i : ℕ) → Alike (nodes_from low k bs L ns i) (nodes_from high k bs L ns i)
  unfolding nodes_from
  nodes-alike zero bs L ns i = inr refl
  nodes-alike (suc k) bs L ns i = go (leb (length bs) i) (λ f. nodes-alike k bs L (ns ++ (node_at bs L f ∷ [])) (next f))
    where
      go : (b : Bool) → ((f : Field) → Alike (after_field low k bs L ns f) (after_field high k bs L ns f)) → Alike (nodes_turn low k bs L ns i b) (nodes_turn high k bs L ns i b)
      go true r = inr refl
      go false r = then_alike (after_field low k bs L ns) (after_field high k bs L ns) (node_alike bs L ns i) r

  -- The higher bound answers as the lower, unless the lower refuses with 3: it accepts the same net, or refuses with the same number.
  pub read_alike : (bs : List ℕ) → Alike (read_to low bs) (read_to high bs)
  unfolding read_to
  read_alike bs =
      then_alike {x = field due_layers bs 0} _ _ (inr refl) (λ f.
      unless_alike 3 (all (map is_layer (layers_at bs f)))
      (then_alike {x = field due_driver bs (next f)} _ _ (inr refl) (λ g.
      unless_alike 3 (is_driver (driver_at bs g.start))
      (then_alike _ _ (nodes-alike (max_nodes + 1) bs (length (layers_at bs f)) [] (next g)) (λ ns. inr refl)))))

-- The nodes that were read stay what they are.
kept : (most k : ℕ) (bs : List ℕ) (L : ℕ) (ns : List Node) (i : ℕ) {ms : List Node} → nodes_from most k bs L ns i ≡ accept ms
    → (j : ℕ) → j ≤ length ns → node ms j ≡ node ns j
unfolding nodes_from
kept most zero bs L ns i e j h = not-refused e
kept most (suc k) bs L ns i {ms} e j h = go (leb (length bs) i) e (λ f b. kept most k bs L (ns ++ (node_at bs L f ∷ [])) (next f) b j)
  where
    go : (b : Bool) → nodes_turn most k bs L ns i b ≡ accept ms
        → ((f : Field) → after_field most k bs L ns f ≡ accept ms → j ≤ length (ns ++ (node_at bs L f ∷ [])) → node ms j ≡ node (ns ++ (node_at bs L f ∷ [])) j)
        → node ms j ≡ node ns j
    go true e r = rw (← accept_injective e) refl
    go false e r =
        let (f, a, b) = then_accepted (node_field most bs L ns i) (after_field most k bs L ns) e in
        let m = node_at bs L f in
        r f b (omega (arith, length_more ns m)) ∙ node-other ns m j (λ q. absurd (omega arith))

-- What the higher bound accepts the lower accepts too, if no length is beyond it.
module _ (low high : ℕ) where
  field-short : (bs : List ℕ) (L : ℕ) (ns : List Node) (i : ℕ) {f : Field} → (node_at bs L f).len ≤ low → node_field high bs L ns i ≡ accept f
      → node_field low bs L ns i ≡ accept f
  unfolding is_node
  field-short bs L ns i {f} short e =
      let t = field-taken e in
      let m = node_at bs L f in
      let (len, costs, kind) = and_three (leb m.len high) (is_costs m.costs) (is_kind m.kind) t.range in
      taken-field (record { found = t.found; room = t.room; range = rw (le-leb m.len low short, costs, kind) refl; parent = t.parent })

  nodes-short : (k : ℕ) (bs : List ℕ) (L : ℕ) (ns : List Node) (i : ℕ) {ms : List Node} → nodes_from high k bs L ns i ≡ accept ms
      → ((j : ℕ) → (node ms j).len ≤ low) → nodes_from low k bs L ns i ≡ accept ms
  unfolding nodes_from
  nodes-short zero bs L ns i e short = not-refused e
  nodes-short (suc k) bs L ns i {ms} e short = go (leb (length bs) i) e (λ f. nodes-short k bs L (ns ++ (node_at bs L f ∷ [])) (next f))
    where
      go : (b : Bool) → nodes_turn high k bs L ns i b ≡ accept ms
          → ((f : Field) → after_field high k bs L ns f ≡ accept ms → ((j : ℕ) → (node ms j).len ≤ low) → after_field low k bs L ns f ≡ accept ms)
          → nodes_turn low k bs L ns i b ≡ accept ms
      go true e r = e
      go false e r =
          let (f, a, b) = then_accepted (node_field high bs L ns i) (after_field high k bs L ns) e in
          let m = node_at bs L f in
          let stays = kept high k bs L (ns ++ (m ∷ [])) (next f) b (suc (length ns)) (omega (arith, length_more ns m)) in
          let last : node ms (suc (length ns)) ≡ m = stays ∙ node-last ns m in
          rw (field-short bs L ns i (rw last at (short (suc (length ns)))) a) (r f b short)

  pub read_short : (bs : List ℕ) (n : Net) → read_to high bs ≡ accept n → ((j : ℕ) → (at n j).len ≤ low) → read_to low bs ≡ accept n
  unfolding read_to
  read_short bs n e short =
      let (f, a1, b1) = then_accepted (field due_layers bs 0) _ e in
      let (layers, b2) = unless_accepted 3 (all (map is_layer (layers_at bs f))) _ b1 in
      let (g, a2, b3) = then_accepted (field due_driver bs (next f)) _ b2 in
      let (driver, b4) = unless_accepted 3 (is_driver (driver_at bs g.start)) _ b3 in
      let (ns, a3, b5) = then_accepted (nodes_from high (max_nodes + 1) bs (length (layers_at bs f)) [] (next g)) _ b4 in
      let (whole, b6) = unless_accepted 6 (is_whole ns) _ b5 in
      let are : n.nodes ≡ ns = sym (ap (λ (m : Net). m.nodes) (accept_injective b6)) in
      rw (a1, layers, a2, driver, nodes-short (max_nodes + 1) bs (length (layers_at bs f)) [] (next g) {ms = ns} a3 (λ j. rw are at (short j)), whole) b6

-- The greatest length of 01, before wish 3 of 02.
abbrev pub former_length : ℕ
former_length = 1000

-- 'As before on all files that were accepted': every byte string that reading with lengths up to 1,000 accepts is accepted now, with the same net.
pub as_before : (bs : List ℕ) (n : Net) → read_to former_length bs ≡ accept n → read bs ≡ accept n
unfolding read
as_before bs n e = go (read_alike {high = max_length} (omega arith) bs)
  where
    go : Alike (read_to former_length bs) (read_to max_length bs) → read_to max_length bs ≡ accept n
    go (inl r) = not-refused (sym r ∙ e)
    go (inr s) = sym s ∙ e

-- And no other file is accepted anew: what is read now and has no edge longer than 1,000 was read before.
pub only_longer : (bs : List ℕ) (n : Net) → read bs ≡ accept n → ((j : ℕ) → (at n j).len ≤ former_length) → read_to former_length bs ≡ accept n
unfolding read
only_longer bs n = read_short former_length max_length bs n

-- Checking, judging, planning and planning by rounds rest on what `read` gives alone: where it is the same they answer the same.
pub record SameAnswers (bs cs : List ℕ) : Type 0 where
  pub check-same : check bs ≡ check cs
  pub judge-same : (x : List ℕ) → judge bs x ≡ judge cs x
  pub plan-same : (p q : ℕ) (table : List ℤ) (buffer : List ℕ) → plan bs p q table buffer ≡ plan cs p q table buffer
  pub rounds-same : (r : ℕ) (table : List ℤ) (buffer : List ℕ) → plan_rounds bs r table buffer ≡ plan_rounds cs r table buffer

pub net_alone : (bs cs : List ℕ) → read bs ≡ read cs → SameAnswers bs cs
unfolding check judge judged plan planned plan_rounds planned_rounds
net_alone bs cs e = record {
  check-same = rw (e, check) refl;
  judge-same = λ x. rw (e, judge, judged) refl;
  plan-same = λ p q table buffer. rw (e, plan, planned) refl;
  rounds-same = λ r table buffer. rw (e, plan_rounds, planned_rounds) refl;
}
