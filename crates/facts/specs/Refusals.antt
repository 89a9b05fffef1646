-- Reading refuses with 1 to 6 only: each step of it names its own numbers.
use Rattle.std.specs.Prelude.{◌≡◌, refl, Bool, true, false, List, [], ◌∷◌, ◌++◌, map, ℕ, zero, suc, ◌+◌, ◌≤◌, leb, length}
use Rattle.std.proofs.Common.{sym, arith}
use Rattle.laws.specs.Basic.{all}
use Rattle.rules.specs.Tree.{Node}
use Rattle.rules.specs.Bytes.{Field, max_length, max_nodes, field_at, next, due_layers, due_driver, due_node, layers_at, is_layer, driver_at, is_driver, node_at, is_node}
use Rattle.rules.specs.Reading.{Answer, accept, refuse, ◌>>=◌, ◌>>◌, ◌unless◌, field, has_room, is_parent, node_field, nodes_from, is_whole, read_to, read}
use Rattle.facts.specs.Answers.{not-refused, refuse_injective}
use Rattle.facts.specs.Nodes.{after_field, nodes_turn}

-- An answer whose refusal, if it is one, is a number from 1 to `most`.
pub record Numbered {A : Type 0} (most : ℕ) (x : Answer A) : Type 0 where
  pub some : (r : ℕ) → x ≡ refuse r → 1 ≤ r
  pub low : (r : ℕ) → x ≡ refuse r → r ≤ most

pub accept-numbered : {A : Type 0} (most : ℕ) (a : A) → Numbered most (accept a)
accept-numbered most a = record { some = λ r e. not-refused (sym e); low = λ r e. not-refused (sym e) }

pub refuse-numbered : {A : Type 0} (most r : ℕ) → 1 ≤ r → r ≤ most → Numbered {A = A} most (refuse r)
refuse-numbered most r h k = record { some = λ s e. let q = refuse_injective e in omega arith; low = λ s e. let q = refuse_injective e in omega arith }

pub then_numbered : {A B : Type 0} {most : ℕ} (x : Answer A) (f : A → Answer B) → Numbered most x → ((a : A) → Numbered most (f a)) → Numbered most (x >>= f)
then_numbered (accept a) f L M = M a
then_numbered {most = most} (refuse r) f L M = refuse-numbered most r (L.some r refl) (L.low r refl)

pub unless_numbered : {B : Type 0} {most : ℕ} (r : ℕ) (t : Bool) (y : Answer B) → 1 ≤ r → r ≤ most → Numbered most y → Numbered most (◌>>◌ (r unless t) y)
unless_numbered r true y h k L = L
unless_numbered {most = most} r false y h k L = refuse-numbered most r h k

pub wider-numbered : {A : Type 0} {most : ℕ} (more : ℕ) {x : Answer A} → most ≤ more → Numbered most x → Numbered more x
wider-numbered more h L = record { some = L.some; low = λ r e. let k = L.low r e in omega arith }

field-low : (due : ℕ → ℕ → Bool) (bs : List ℕ) (i : ℕ) → Numbered 6 (field due bs i)
unfolding field
field-low due bs i =
    unless_numbered 1 (leb (i + 3) (length bs)) _ (omega arith) (omega arith)
    (unless_numbered 2 (due (field_at bs i).tag (field_at bs i).size) _ (omega arith) (omega arith)
    (unless_numbered 1 (leb (next (field_at bs i)) (length bs)) _ (omega arith) (omega arith) (accept-numbered 6 (field_at bs i))))

node-low : (most : ℕ) (bs : List ℕ) (L : ℕ) (ns : List Node) (i : ℕ) → Numbered 6 (node_field most bs L ns i)
unfolding node_field
node-low most bs L ns i =
    then_numbered (field (due_node L) bs i) _ (field-low (due_node L) bs i) (λ f.
    unless_numbered 4 (has_room ns (node_at bs L f)) _ (omega arith) (omega arith)
    (unless_numbered 3 (is_node most (node_at bs L f)) _ (omega arith) (omega arith)
    (unless_numbered 5 (is_parent ns (node_at bs L f).parent) _ (omega arith) (omega arith) (accept-numbered 6 f))))

nodes-low : (most k : ℕ) (bs : List ℕ) (L : ℕ) (ns : List Node) (i : ℕ) → Numbered 6 (nodes_from most k bs L ns i)
unfolding nodes_from
nodes-low most zero bs L ns i = refuse-numbered 6 4 (omega arith) (omega arith)
nodes-low most (suc k) bs L ns i = go (leb (length bs) i) (λ f. nodes-low most k bs L (ns ++ (node_at bs L f ∷ [])) (next f))
  where
    go : (b : Bool) → ((f : Field) → Numbered 6 (after_field most k bs L ns f)) → Numbered 6 (nodes_turn most k bs L ns i b)
    go true r = accept-numbered 6 ns
    go false r = then_numbered (node_field most bs L ns i) _ (node-low most bs L ns i) r

-- So reading refuses with 1 to 6.
pub read-numbered : (bs : List ℕ) → Numbered 6 (read bs)
unfolding read read_to
read-numbered bs =
    then_numbered (field due_layers bs 0) _ (field-low due_layers bs 0) (λ f.
    unless_numbered 3 (all (map is_layer (layers_at bs f))) _ (omega arith) (omega arith)
    (then_numbered (field due_driver bs (next f)) _ (field-low due_driver bs (next f)) (λ g.
    unless_numbered 3 (is_driver (driver_at bs g.start)) _ (omega arith) (omega arith)
    (then_numbered (nodes_from max_length (max_nodes + 1) bs (length (layers_at bs f)) [] (next g)) _
    (nodes-low max_length (max_nodes + 1) bs (length (layers_at bs f)) [] (next g)) (λ ns.
    unless_numbered 6 (is_whole ns) _ (omega arith) (omega arith) (accept-numbered 6 _))))))
