-- The whole net: the last test over what the code keeps of the nodes, and what reading gives by the faults in their order.
use mathlib.Core.Path.{◌≡◌, refl, ap, sym, ◌∙◌, subst}
use mathlib.Core.Bool.{Bool, true, false, ◌&&◌}
use mathlib.Core.List.{List, [], ◌∷◌}
use Prim.Native.Nat.{ℕ, ◌+◌, ◌-◌, ◌*◌, ◌/◌, ◌<◌, ◌≤◌}
use native.Mathlib.Omega.{arith}
use lib.Dec.{leb, eqb}
use lib.ListN.{length, get_or, set, length-map}
use borrow.Author.Tests.{eqb-true}
use Rattle.laws.specs.Booleans.{and_both}
use Rattle.laws.specs.Lists.{length_from, all-entries, map_same, from-mem}
use Rattle.std.specs.List.{list_all}
use Rattle.std.proofs.lemmas.List.{length-take-le, get_or-take}
use Rattle.rules.specs.Tree as tree
use Rattle.rules.specs.Tree.{stages, layer_count}
use Rattle.rules.specs.Bytes.{Field, max_length, max_nodes, max_layers, layer_size, layers_at, driver_at, is_driver, due_layers, due_driver, next}
use Rattle.rules.specs.Reading.{Answer, accept, refuse, ◌>>=◌, ◌>>◌, ◌unless◌, field, buffers, nodes_from, is_whole, read_to, read}
use Rattle.facts.specs.Answers.{not-refused, accept_injective, then_same, turned_accepted, turned_refused, test_turned}
use Rattle.facts.specs.Layers.{layer-number, layers-held}
use Rattle.fields.proofs.Laws.{field-inside, first_and_rest}
use Rattle.facts.specs.Accepted.{stages-are}
use Rattle.words.specs.Words.{node_row, count_at, layers_in}
use Rattle.words.specs.Puts.{layers_from, LayersPut, DriverPut}
use Rattle.reader.specs.Nodes.{whole_for, Counted, counted, Stored, NodesRead, TreeRead, tree_from}
use Rattle.reader.specs.Net.{counts_of, counts, rest_from, RestRead, NetRead}
use Rattle.nodes.specs.declared.Counts.{Counts}
use Rattle.reader.specs.declared.NetCounts.{NetCounts}
use Rattle.std.specs.Prelude.{Result, Ok, Err, map, take}
use Rattle.laws.specs.Basic.{all, from}
use Rattle.rules.specs.declared.Refusal.{Refusal}
use Rattle.rules.specs.declared.Refusal.TheVariants as refusal
use Rattle.rules.specs.Refusals.{number_of}
use Rattle.reader.proofs.Loop.{whole_same}
use Rattle.reader.proofs.Stored.{tag-put, net-put}

-- a test of the entries up to the last node's is one of each node by its number
all_of : (f : ℕ → Bool) (xs : List ℕ) → list_all f xs ≡ all (map f xs)
all_of f [] = refl
all_of f (x ∷ xs) = ap (λ (b : Bool). f x && b) (all_of f xs)

pub whole-all : (count : ℕ) (kids : List ℕ) → count + 1 ≤ length kids → list_all (leb 1) (take (count + 1) kids) ≡ whole_for count kids
unfolding whole_for
whole-all count kids h =
    all_of (leb 1) (take (count + 1) kids) ∙
    all-entries (leb 1) 0 (take (count + 1) kids) ∙
    ap (λ (n : ℕ). all (map (λ i. leb 1 (get_or (take (count + 1) kids) i 0)) (from 0 n))) (length-take-le (count + 1) kids h) ∙
    ap all (map_same (λ i. leb 1 (get_or (take (count + 1) kids) i 0)) (λ i. leb 1 (get_or kids i 0)) (from 0 (count + 1))
    (λ i m. ap (leb 1) (get_or-take (count + 1) kids i 0 (omega (arith, from-mem 0 (count + 1) i m)))))

-- the nodes that the loop gave
pub record LoopGave (bs : List ℕ) (L i : ℕ) (keep : Bool) (n b : ℕ) (old words kids : List ℕ) : Type 0 where
  pub ns : List tree.Node
  pub are : nodes_from max_length (max_nodes + 1) bs L [] i ≡ accept ns
  pub size : n ≡ length ns
  pub buffered : b ≡ buffers ns
  pub few : n ≤ max_nodes
  pub fewer : b ≤ max_nodes
  pub whole : whole_for n kids ≡ is_whole ns
  pub stored : Stored L ns keep old words

-- the tree: what TreeRead asks, once it is known what the definition gives
module _ (bs : List ℕ) (L i : ℕ) (keep : Bool) (old words : List ℕ) where
  tree-none : {why : Refusal} → tree_from bs L i ≡ refuse (number_of why) → TreeRead bs L i keep (Err why) old words
  tree-none h = record {
    counts = sym (ap (λ (y : Answer (List tree.Node)). y >>= λ ns. accept (counted ns)) h);
    few = λ ns q. not-refused (sym h ∙ q);
    stored = λ ns q. not-refused (sym h ∙ q);
  }

  tree-some : {ns : List tree.Node} {n : Counts} → tree_from bs L i ≡ accept ns → n.count ≡ length ns → n.buffers ≡ buffers ns → n.count ≤ max_nodes
      → n.buffers ≤ max_nodes → Stored L ns keep old words
      → TreeRead bs L i keep (Ok n) old words
  tree-some h en eb few fewer S = record {
    counts = rw (en, eb) (sym (ap (λ (y : Answer (List tree.Node)). y >>= λ ns. accept (counted ns)) h));
    few = λ ms q. subst (λ (l : List tree.Node). (length l ≤ max_nodes) × (buffers l ≤ max_nodes)) (accept_injective (sym h ∙ q)) (omega arith, omega arith);
    stored = λ ms q. subst (λ (l : List tree.Node). Stored L l keep old words) (accept_injective (sym h ∙ q)) S;
  }

module _ {bs : List ℕ} {L i : ℕ} {keep : Bool} {old words kids : List ℕ} where
  pub loop_gave : {n : Counts} → NodesRead bs L i keep (Ok n) old words kids → LoopGave bs L i keep n.count n.buffers old words kids
  loop_gave r =
      let (ns, are, e) = turned_accepted (nodes_from max_length (max_nodes + 1) bs L [] i) counted r.counts in
      let en = ap (λ (k : Counted). k.count) e in
      let eb = ap (λ (k : Counted). k.bufs) e in
      let f = r.few ns are in
      record {
        ns = ns;
        are = are;
        size = en;
        buffered = eb;
        few = omega arith;
        fewer = omega arith;
        whole = ap (λ (k : ℕ). whole_for k kids) en ∙ whole_same (r.kids_are ns are) f.0;
        stored = r.stored ns are;
      }

  pub tree-refused : {why : Refusal} → NodesRead bs L i keep (Err why) old words kids → TreeRead bs L i keep (Err why) old words
  unfolding tree_from
  tree-refused r = tree-none bs L i keep old words (simp (turned_refused (nodes_from max_length (max_nodes + 1) bs L [] i) counted r.counts))

  module _ {n : Counts} (R : NodesRead bs L i keep (Ok n) old words kids) {t : Bool} (e : t ≡ whole_for n.count kids) where
    pub tree-childless : t ≡ false → TreeRead bs L i keep (Err refusal.Childless) old words
    unfolding tree_from
    tree-childless h = let r = loop_gave R in tree-none bs L i keep old words (simp (r.are, sym r.whole ∙ sym e ∙ h))

    pub tree_took : t ≡ true → TreeRead bs L i keep (Ok n) old words
    unfolding tree_from
    tree_took h = let r = loop_gave R in tree-some bs L i keep old words (simp (r.are, sym r.whole ∙ sym e ∙ h)) r.size r.buffered r.few r.fewer r.stored

-- the tree that was given
pub record TreeGave (bs : List ℕ) (L i : ℕ) (keep : Bool) (n b : ℕ) (old words : List ℕ) : Type 0 where
  pub ns : List tree.Node
  pub are : tree_from bs L i ≡ accept ns
  pub counts : record { count = n; bufs = b } ≡ counted ns
  pub few : n ≤ max_nodes
  pub fewer : b ≤ max_nodes
  pub stored : Stored L ns keep old words

pub tree_gave : {bs : List ℕ} {L i : ℕ} {keep : Bool} {n : Counts} {old words : List ℕ} → TreeRead bs L i keep (Ok n) old words
    → TreeGave bs L i keep n.count n.buffers old words
tree_gave {bs} {L} {i} t =
    let (ns, a, q) = turned_accepted (tree_from bs L i) counted t.counts in
    let w = t.few ns a in
    record {
      ns = ns;
      are = a;
      counts = q;
      few = omega (arith, ap (λ (k : Counted). k.count) q);
      fewer = omega (arith, ap (λ (k : Counted). k.bufs) q);
      stored = t.stored ns a;
    }

-- the length that the driver's field has
pub driver-size : (t n : ℕ) → due_driver t n ≡ true → n ≡ 16
unfolding due_driver
driver-size t n e = eqb-true n 16 (and_both (eqb t 2) (eqb n 16) e).1

-- driver and nodes: what RestRead asks, once it is known what the definition gives
module _ (bs : List ℕ) (L i : ℕ) (keep : Bool) (old words : List ℕ) where
  rest-none : {why : Refusal} → rest_from bs L (layers_in old L) i ≡ refuse (number_of why) → RestRead bs L i keep (Err why) old words
  rest-none h = record {
    answer = sym (ap (λ (y : Answer tree.Net). y >>= λ n. accept (counts_of n)) h);
    is = λ k n q. not-refused (sym h ∙ q);
    driver-row = λ n q. not-refused (sym h ∙ q);
  }

  pub rest_1 : {why : Refusal} → field due_driver bs i ≡ refuse (number_of why) → RestRead bs L i keep (Err why) old words
  unfolding rest_from
  rest_1 e = rest-none (simp e)

  module _ {f : Field} (e : field due_driver bs i ≡ accept f) where
    pub rest_2 : is_driver (driver_at bs f.start) ≡ false → RestRead bs L i keep (Err refusal.OutOfRange) old words
    unfolding rest_from
    rest_2 h = rest-none (simp (e, h))

    module _ (h : is_driver (driver_at bs f.start) ≡ true) where
      net_of : List tree.Node → tree.Net
      net_of ns = record { layers = layers_in old L; driver = driver_at bs f.start; nodes = ns }

      rest-tree : rest_from bs L (layers_in old L) i ≡ (tree_from bs L (f.start + f.size) >>= λ ns. accept (net_of ns))
      unfolding rest_from next net_of
      rest-tree = simp (e, h)

      pub rest_3 : {mid : List ℕ} {why : Refusal} → TreeRead bs L (f.start + f.size) keep (Err why) mid words → RestRead bs L i keep (Err why) old words
      rest_3 t = rest-none (rest-tree ∙ simp (turned_refused (tree_from bs L (f.start + f.size)) counted t.counts))

      same-counts : (ns : List tree.Node) {n b : ℕ} → record { count = n; bufs = b } ≡ counted ns
          → record { nodes = n; stages = b + 1; layers = L } ≡ counts_of (net_of ns)
      unfolding counts_of net_of layer_count layers_in
      same-counts ns q = rw (ap (λ (k : Counted). k.count) q, ap (λ (k : Counted). k.bufs) q, stages-are (net_of ns)) (simp (length-map, length_from))

pub rest_4 : {bs : List ℕ} {L i : ℕ} {keep : Bool} {old mid words : List ℕ} {f : Field} {n : Counts} {r : Bool} → field due_driver bs i ≡ accept f
    → L ≤ max_layers → node_row 1 ≤ length words
    → DriverPut bs L f.start old mid r → r ≡ true → TreeRead bs L (f.start + f.size) keep (Ok n) mid words
    → RestRead bs L i keep (Ok (record { nodes = n.count; stages = n.buffers + 1; layers = L })) old (set words count_at n.count)
unfolding net_of
rest_4 {bs} {L} {i} {keep} {old} {mid} {words} {f} {n} e thin long D q t =
    let g = tree_gave t in
    let o : is_driver (driver_at bs f.start) ≡ true = sym D.answer ∙ q in
    let h : rest_from bs L (layers_in old L) i ≡ accept (net_of bs L i keep old words e o g.ns) = rest-tree bs L i keep old words e o ∙ simp g.are in
    record {
      answer = ap accept (same-counts bs L i keep old words e o g.ns g.counts) ∙ sym (ap (λ (y : Answer tree.Net). y >>= λ m. accept (counts_of m)) h);
      is = λ k m q. net-put n.count D g.stored thin long (ap (λ (k : Counted). k.count) g.counts) k ∙ accept_injective (sym h ∙ q);
      driver-row = λ m q. tag-put n.count D g.stored;
    }

-- the net: what NetRead asks, once it is known what the definition gives
module _ (bs : List ℕ) (keep : Bool) (words : List ℕ) where
  net-none : {why : Refusal} → read bs ≡ refuse (number_of why) → NetRead bs keep (Err why) words
  unfolding counts
  net-none h = record { answer = sym (simp h); is = λ k n q. not-refused (sym h ∙ q); driver-row = λ n q. not-refused (sym h ∙ q) }

  pub read_1 : {why : Refusal} → field due_layers bs 0 ≡ refuse (number_of why) → NetRead bs keep (Err why) words
  unfolding read read_to
  read_1 e = net-none (simp e)

  module _ {f : Field} (e : field due_layers bs 0 ≡ accept f) {L : ℕ} (el : L ≡ f.size / layer_size f.tag) {mid : List ℕ} {b : Bool}
      (P : LayersPut bs f.tag L f.start mid b) where
    layers-are : layers_at bs f ≡ layers_from bs f.tag f.start L
    unfolding layers_at layers_from
    layers-are = rw el refl

    number_is : length (layers_from bs f.tag f.start L) ≡ L
    number_is = sym (ap length layers-are) ∙ layer-number bs f ∙ sym el

    pub read_2 : b ≡ false → NetRead bs keep (Err refusal.OutOfRange) words
    unfolding read read_to
    read_2 h = net-none (simp (e, layers-are, sym P.answer ∙ h))

    read-rest : b ≡ true → read bs ≡ rest_from bs L (layers_in mid L) (f.start + f.size)
    unfolding read read_to next rest_from tree_from
    read-rest h =
        rw (P.are h) (simp (e, layers-are, number_is, sym P.answer ∙ h)
        (then_same (field due_driver bs (next f)) _ _ (λ g.
        ap (◌>>◌ (3 unless is_driver (driver_at bs g.start)))
        (test_turned 6 (nodes_from max_length (max_nodes + 1) bs L [] (next g)) is_whole
        (λ ns. record { layers = layers_from bs f.tag f.start L; driver = driver_at bs g.start; nodes = ns })))))

    pub read_3 : {r : Result NetCounts Refusal} → b ≡ true → RestRead bs L (f.start + f.size) keep r mid words → NetRead bs keep r words
    unfolding counts
    read_3 h R = record {
      answer = R.answer ∙ sym (ap (λ (y : Answer tree.Net). y >>= λ n. accept (counts_of n)) (read-rest h));
      is = λ k n q. R.is k n (sym (read-rest h) ∙ q);
      driver-row = λ n q. R.driver-row n (sym (read-rest h) ∙ q);
    }

-- the layers of a field that was read, by the size of each as the code has it
pub record LayersRead (bs : List ℕ) (f : Field) (each : ℕ) : Type 0 where
  pub some : 0 < each
  pub long : each ≤ f.size
  pub few : 1 + (f.size - each) / each ≤ max_layers
  pub ends : f.start + layer_size f.tag * (1 + (f.size - each) / each) ≤ length bs
  pub number : 1 + (f.size - each) / each ≡ f.size / layer_size f.tag

pub layers-read : {bs : List ℕ} {f : Field} {each : ℕ} → field due_layers bs 0 ≡ accept f → each ≡ layer_size f.tag → LayersRead bs f each
layers-read {bs} {f} {each} e h =
    let t = field-inside due_layers bs 0 e in
    let n = layers-held f.tag f.size t.allowed in
    let q : 1 + (f.size - each) / each ≡ f.size / layer_size f.tag =
    ap (λ (w : ℕ). 1 + (f.size - w) / w) h ∙ first_and_rest f.tag f.size n.long in
    record {
      some = omega (arith, n.units, h);
      long = omega (arith, n.long, h);
      few = rw q n.few;
      ends = rw q (omega (arith, t.ends, n.whole));
      number = q;
    }
