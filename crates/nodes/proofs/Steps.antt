-- One node field: what the tests of 4, 3 and 5 and the whole step give at the values that the code has in hand.
use Rattle.std.specs.Prelude.{if◌then◌else◌, Ok, Err}
use Rattle.rules.specs.declared.Refusal.{Refusal}
use Rattle.rules.specs.declared.Refusal.TheVariants as refusal
use Rattle.rules.specs.Refusals.{number_of}
use mathlib.Core.Path.{◌≡◌, refl, ap, sym, ◌∙◌, subst}
use mathlib.Core.Bool.{Bool, true, false, ◌&&◌}
use mathlib.Core.List.{List}
use Prim.Native.Nat.{ℕ, ◌+◌, ◌*◌, ◌<◌, ◌≤◌}
use native.Mathlib.Omega.{arith}
use lib.Dec.{leb, ltb, eqb}
use lib.ListN.{length}
use mathlib.Core.Logic.{◌⊎◌, inl, inr}
use borrow.Author.Tests.{ne_eqb, eqb-true, ltb-true}
use Rattle.laws.specs.Booleans.{and_left, and_right, same_or}
use Rattle.rules.specs.Tree.{is_buffer}
use Rattle.rules.specs.Bytes.{steiner_tag, buffer_tag, max_nodes, max_length}
use Rattle.rules.specs.Bytes.{Field, costs_at, kind_size, kind_at, node_at, is_kind, is_node, next, due_node}
use Rattle.rules.specs.Reading.{Answer, accept, refuse, ◌>>=◌, ◌>>◌, ◌unless◌, field}
use Rattle.words.specs.declared.Node.{Node}
use Rattle.words.specs.Words.{node_row, row_for, Rows, record_in, node_in}
use Rattle.words.specs.Puts.{record_at, NodePut}
use Rattle.nodes.specs.Steps.{room_for, ranges_of, parent_for, step_field, step_at, taken_at, Put, StepRead}
use Rattle.facts.specs.Answers.{not-refused, accept_injective, then_accepted, unless_accepted}
use Rattle.fields.proofs.Laws.{field-inside}

-- the row of a node is not the driver's
pub row_first : (keep : Bool) (count : ℕ) → 1 ≤ row_for keep count
row_first true count = omega arith
row_first false count = omega arith

-- the node of a field in its row
pub put-node : {bs : List ℕ} {L : ℕ} {f : Field} {old new : List ℕ} {j : ℕ} → NodePut bs L f.tag f.start old new j true → Put bs L f old new j
unfolding node_in node_at record_in record_at
put-node {bs} {L} {f} N = record {
  is =
      rw (N.costs-are refl)
      (ap (λ (n : Node). record { parent = n.parent; len = n.len; costs = costs_at bs L (f.start + 4); kind = n.kind }) N.is);
  lower = N.lower;
}

-- where there is room for a node of this tag, it is no 256th, and it has its row in the array
module _ (count bufs tag : ℕ) where
  pub room-count : room_for count bufs tag ≡ true → count < max_nodes
  unfolding room_for
  room-count e = ltb-true count max_nodes (and_left (ltb count max_nodes) _ e)

  pub row-fits : (keep : Bool) {w : List ℕ} {row : ℕ} → Rows keep w → room_for count bufs tag ≡ true → row ≡ row_for keep count → node_row (row + 1) ≤ length w
  row-fits true R h e = omega (arith, R.all refl, room-count h)
  row-fits false R h e = omega (arith, R.some)

-- a buffer is told by its tag
pub buffer-tag : (bs : List ℕ) (tag i : ℕ) → is_buffer (kind_at bs tag i) ≡ eqb tag buffer_tag
unfolding kind_at
buffer-tag bs tag i = go (same_or steiner_tag tag) (same_or buffer_tag tag)
  where
    go : (tag ≡ steiner_tag) ⊎ (tag ≡ steiner_tag → ⊥) → (tag ≡ buffer_tag) ⊎ (tag ≡ buffer_tag → ⊥) → is_buffer (kind_at bs tag i) ≡ eqb tag buffer_tag
    go (inl e) o = rw e refl
    go (inr n) (inl e) = rw e refl
    go (inr n) (inr m) = simp (ne_eqb _ _ n, ne_eqb _ _ m)

-- a node field lies within the bytes with all its numbers
pub node-ends : (bs : List ℕ) (L i : ℕ) {f : Field} → field (due_node L) bs i ≡ accept f → f.start + 4 + 4 * L + kind_size f.tag ≤ length bs
unfolding due_node
node-ends bs L i {f} e =
    let h = field-inside (due_node L) bs i e in
    omega (arith, h.ends, eqb-true f.size (4 + 4 * L + kind_size f.tag) (and_right (leb 3 f.tag && leb f.tag 5) _ h.allowed))

-- a step by its tests
tests : {A B : Type 0} (b d : Bool) (g : A) (h : A → B)
    → (◌>>◌ (3 unless b) (◌>>◌ (5 unless d) (accept g)) >>= λ x. accept (h x)) ≡ (if b then (if d then accept (h g) else refuse 5) else refuse 3)
tests true true g h = refl
tests true false g h = refl
tests false d g h = refl

ranges_pass : (costs : Bool) (r : Node) → ranges_of costs r ≡ true → costs ≡ true
unfolding ranges_of
ranges_pass costs r e = and_right (leb r.len max_length) costs (and_left (leb r.len max_length && costs) (is_kind r.kind) e)

-- a step that is accepted takes the field that stands there
field-taken : (bs : List ℕ) (L count bufs : ℕ) (kids : List ℕ) (i : ℕ) {f g : Field} → field (due_node L) bs i ≡ accept f
    → step_field bs L count bufs kids i ≡ accept g → f ≡ g
unfolding step_field
field-taken bs L count bufs kids i e o =
    let (k, p, o1) = then_accepted (field (due_node L) bs i) _ o in
    let (t1, o2) = unless_accepted 4 (room_for count bufs k.tag) _ o1 in
    let (t2, o3) = unless_accepted 3 (is_node max_length (node_at bs L k)) _ o2 in
    let (t3, o4) = unless_accepted 5 (parent_for count kids (node_at bs L k).parent) _ o3 in
    accept_injective (sym e ∙ p) ∙ accept_injective o4

module _ (bs : List ℕ) (L count bufs : ℕ) (kids : List ℕ) (i : ℕ) (keep : Bool) (old new : List ℕ) where
  step_no : {why : Refusal} → step_at bs L count bufs kids i ≡ refuse (number_of why) → StepRead bs L count bufs kids i keep (Err why) old new
  unfolding step_at
  step_no h = record {
    answer = sym h;
    put = λ f o. not-refused (sym h ∙ ap (λ (y : Answer Field). y >>= λ f. accept (taken_at bs L f)) o);
  }

  pub step-none : {why : Refusal} → field (due_node L) bs i ≡ refuse (number_of why) → StepRead bs L count bufs kids i keep (Err why) old new
  unfolding step_at step_field
  step-none e = step_no (simp e)

  module _ {f : Field} (e : field (due_node L) bs i ≡ accept f) where
    pub step_4 : room_for count bufs f.tag ≡ false → StepRead bs L count bufs kids i keep (Err refusal.TooMany) old new
    unfolding step_at step_field
    step_4 h = step_no (simp (e, h))

    -- n, b and d are the record and the outcomes of the last two tests, as the code has them
    module _ (room : room_for count bufs f.tag ≡ true) {row : ℕ} {n : Node} {b q : Bool} (er : row ≡ row_for keep count)
        (N : NodePut bs L f.tag f.start old new row q) (en : n ≡ record_in new row) (eb : b ≡ ranges_of q n) where
      step-tests : (d : Bool) → d ≡ parent_for count kids n.parent
          → step_at bs L count bufs kids i ≡ (if b then (if d then accept (record { node = n; next = f.start + f.size }) else refuse 5) else refuse 3)
      unfolding step_at step_field node_at is_node record_at ranges_of taken_at next
      step-tests d ed =
          rw (ed, eb, N.answer, en, N.is) (simp (e, room)
          (tests (is_node max_length (node_at bs L f)) (parent_for count kids (node_at bs L f).parent) f (taken_at bs L)))

      pub step_3 : b ≡ false → StepRead bs L count bufs kids i keep (Err refusal.OutOfRange) old new
      step_3 h = step_no (step-tests (parent_for count kids n.parent) refl ∙ simp h)

      module _ {d : Bool} (ed : d ≡ parent_for count kids n.parent) (h : b ≡ true) where
        pub step_5 : d ≡ false → StepRead bs L count bufs kids i keep (Err refusal.WrongParent) old new
        step_5 l = step_no (step-tests d ed ∙ simp (h, l))

        step_took : d ≡ true → step_at bs L count bufs kids i ≡ accept (record { node = n; next = f.start + f.size })
        step_took l = step-tests d ed ∙ simp (h, l)

        -- the node is in its row
        pub step-put : d ≡ true → StepRead bs L count bufs kids i keep (Ok (record { node = n; next = f.start + f.size })) old new
        unfolding step_at
        step-put l = record {
          answer = sym (step_took l);
          put = λ g o. subst (λ (y : Field). Put bs L y old new (row_for keep count)) (field-taken bs L count bufs kids i e o)
              (subst (λ (j : ℕ). Put bs L f old new j) er
              (put-node (subst (λ (y : Bool). NodePut bs L f.tag f.start old new row y) (ranges_pass q n (sym eb ∙ h)) N)));
        }
