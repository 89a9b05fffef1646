-- The loop over the node fields: what its two arrays hold of the nodes read so far, and that the definition from here on gives the whole answer.
use mathlib.Core.Path.{◌≡◌, refl, ap, sym, ◌∙◌, subst}
use mathlib.Core.Bool.{Bool, true, false, ◌&&◌, ◌||◌, not}
use mathlib.Core.Logic.{◌⊎◌, inl, inr}
use mathlib.Core.List.{List, [], ◌∷◌, ◌++◌}
use Prim.Native.Nat.{ℕ, zero, suc, ◌+◌, ◌*◌, ◌-◌, ◌<◌, ◌≤◌}
use native.Mathlib.Nat.{add-zero}
use native.Mathlib.Numerals.{add-one}
use native.Mathlib.Omega.{arith}
use lib.Dec.{leb, ltb, eqb}
use lib.ListN.{length, get_or, set, replicate, length-set, length-replicate, get_or-replicate}
use borrow.Author.Tests.{le-ltb, le-leb, lt-leb, eq-eqb, ne_eqb, leb-true, ltb-true}
use Rattle.laws.specs.Basic.{bit, all, from}
use Rattle.laws.specs.Booleans.{and_left, same_or, bit_le}
use Rattle.laws.specs.Lists.{added, keep-more, keep_le, length_more, last-is, others-are, map_same, from-mem}
use Rattle.rules.specs.Tree.{Node, is_sink, is_buffer, node, no_node}
use Rattle.rules.specs.Bytes.{Field, max_layers, max_length, max_nodes, max_children, due_node, node_at, next}
use Rattle.rules.specs.Reading.{Answer, accept, refuse, ◌>>=◌, field, children, buffers, is_parent, has_room, node_field, nodes_from, is_whole}
use Rattle.facts.specs.Answers.{not-refused, accept_injective, then_same, turned_accepted, turned_refused}
use Rattle.facts.specs.Nodes.{field-taken}
use Rattle.nodes.specs.Steps.{room_for, parent_for, step_field, step_at, taken_at, Taken, step_taken}
use Rattle.reader.specs.Nodes.{whole_for, counted, places}
use Rattle.nodes.specs.Steps.{Put, StepRead}
use Rattle.reader.specs.Nodes.{Stored, Kids, NodesRead}
use Rattle.std.specs.Prelude.{Ok, Err}
use Rattle.rules.specs.declared.Refusal.{Refusal}
use Rattle.rules.specs.Refusals.{number_of}
use Rattle.nodes.specs.declared.Step.{Step}
use Rattle.fields.proofs.Laws.{field-inside}
use Rattle.words.specs.Words.{row_for, Rows}
use Rattle.words.specs.Puts.{record_at}
use Rattle.reader.proofs.Stored.{stored-none, stored_more, rows-kept}
use Rattle.nodes.proofs.Steps.{buffer-tag}

-- one node more
children-more : (ns : List Node) (n : Node) (j : ℕ) → children (ns ++ (n ∷ [])) j ≡ children ns j + bit (eqb n.parent j)
unfolding children
children-more ns n j = keep-more (λ m. eqb m.parent j) ns n

children_le : (ns : List Node) (j : ℕ) → children ns j ≤ length ns
unfolding children
children_le ns j = keep_le (λ m. eqb m.parent j) ns

buffers-more : (ns : List Node) (n : Node) → buffers (ns ++ (n ∷ [])) ≡ buffers ns + bit (is_buffer n.kind)
unfolding buffers
buffers-more ns n = keep-more (λ m. is_buffer m.kind) ns n

node-last : (ns : List Node) (n : Node) → node (ns ++ (n ∷ [])) (length ns + 1) ≡ n
unfolding node
node-last ns n = rw add-one (last-is ns n no_node)

node-other : (ns : List Node) (n : Node) (j : ℕ) → (j ≡ length ns + 1 → ⊥) → node (ns ++ (n ∷ [])) j ≡ node ns j
unfolding node
node-other ns n zero h = refl
node-other ns n (suc j) h = others-are ns n no_node j (λ e. h (ap suc e ∙ sym (add-one _)))

node-beyond : (ns : List Node) → node ns (length ns + 1) ≡ no_node
unfolding node
node-beyond ns = rw add-one (go ns)
  where
    go : (ms : List Node) → get_or ms (length ms) no_node ≡ no_node
    go [] = refl
    go (m ∷ ms) = go ms

-- the places of each node after one node more
places-none : (j : ℕ) → places [] j ≡ 0
unfolding places children node
places-none zero = refl
places-none (suc j) = refl

places-more : (ns : List Node) (n : Node) (j : ℕ) → places (ns ++ (n ∷ [])) j
    ≡ (places ns j + bit (eqb n.parent j)) + (max_children * bit (is_sink n.kind)) * bit (eqb (length ns + 1) j)
unfolding places
places-more ns n j = go (same_or (length ns + 1) j)
  where
    go : (j ≡ length ns + 1) ⊎ (j ≡ length ns + 1 → ⊥)
        → children (ns ++ (n ∷ [])) j + max_children * bit (is_sink (node (ns ++ (n ∷ [])) j).kind)
        ≡ ((children ns j + max_children * bit (is_sink (node ns j).kind)) + bit (eqb n.parent j)) +
        (max_children * bit (is_sink n.kind)) * bit (eqb (length ns + 1) j)
    go (inl e) = rw (e, node-last ns n, node-beyond ns, eq-eqb (length ns + 1) (length ns + 1) refl) (omega (arith, children-more ns n (length ns + 1)))
    go (inr e) = rw (node-other ns n j e, ne_eqb (length ns + 1) j (λ q. e (sym q))) (omega (arith, children-more ns n j))

pub kids_none : {kids : List ℕ} → kids ≡ replicate (max_nodes + 1) 0 → Kids [] kids
kids_none e = record { each = λ j h. rw e (get_or-replicate (max_nodes + 1) j 0 0 h ∙ sym (places-none j)) }

module _ {ns : List Node} {kids : List ℕ} (K : Kids ns kids) (n : Node) (few : length ns ≤ 254) (low : n.parent ≤ length ns) (long : length kids ≡ max_nodes + 1) where
  parented-at : (j : ℕ) → get_or (set kids n.parent (get_or kids n.parent 0 + 1)) j 0 ≡ get_or kids j 0 + 1 * bit (eqb n.parent j)
  parented-at j = added kids n.parent j 1 (omega arith)

  kids_small : get_or (set kids n.parent (get_or kids n.parent 0 + 1)) (length ns + 1) 0 ≤ 256
  unfolding places
  kids_small = omega (
    arith,
    parented-at (length ns + 1),
    K.each (length ns + 1) (omega arith),
    children_le ns (length ns + 1),
    bit_le (eqb n.parent (length ns + 1)),
    ap (λ (m : Node). bit (is_sink m.kind)) (node-beyond ns),
  )

  kids_more : Kids (ns ++ (n ∷ [])) (set (set kids n.parent (get_or kids n.parent 0 + 1)) (length ns + 1)
      (get_or (set kids n.parent (get_or kids n.parent 0 + 1)) (length ns + 1) 0 + max_children * bit (is_sink n.kind)))
  kids_more = record {
    each = λ j h.
        added (set kids n.parent (get_or kids n.parent 0 + 1)) (length ns + 1) j (max_children * bit (is_sink n.kind))
        (omega (arith, length-set kids n.parent (get_or kids n.parent 0 + 1))) ∙
        omega (arith, parented-at j, K.each j h, places-more ns n j);
  }

-- the code's tests are those of the definition, over the nodes that the array stands for
open_or_full : (s : Bool) (c : ℕ) → ltb (c + max_children * bit s) max_children ≡ not s && ltb c max_children
open_or_full true c = le-ltb (c + 2 * 1) 2 (omega arith)
open_or_full false c = ap (λ (x : ℕ). ltb x 2) (add-zero c)

some_or_sink : (s : Bool) (c : ℕ) → leb 1 (c + max_children * bit s) ≡ s || leb 1 c
some_or_sink true c = le-leb 1 (c + 2 * 1) (omega arith)
some_or_sink false c = ap (leb 1) (add-zero c)

room-same : (bs : List ℕ) (L : ℕ) (ns : List Node) (f : Field) → room_for (length ns) (buffers ns) f.tag ≡ has_room ns (node_at bs L f)
unfolding room_for has_room node_at
room-same bs L ns f = rw (buffer-tag bs f.tag (f.start + 4 + 4 * L))

module _ {ns : List Node} {kids : List ℕ} (K : Kids ns kids) (few : length ns ≤ max_nodes) where
  parent-same : (p : ℕ) → parent_for (length ns) kids p ≡ is_parent ns p
  unfolding parent_for is_parent places
  parent-same p = go (leb p (length ns)) refl
    where
      go : (b : Bool) → leb p (length ns) ≡ b
          → (leb p (length ns) && ltb (get_or kids p 0) max_children) ≡ (leb p (length ns) && not (is_sink (node ns p).kind) && ltb (children ns p) max_children)
      go false e = simp e
      go true e =
          let l = leb-true p (length ns) e in
          simp e (ap (λ (x : ℕ). ltb x max_children) (K.each p (omega arith)) ∙ open_or_full (is_sink (node ns p).kind) (children ns p))

  step_same : (bs : List ℕ) (L i : ℕ) → step_field bs L (length ns) (buffers ns) kids i ≡ node_field max_length bs L ns i
  unfolding step_field node_field
  step_same bs L i = then_same (field (due_node L) bs i) _ _ (λ f. simp (room-same bs L ns f, parent-same))

  pub whole_same : whole_for (length ns) kids ≡ is_whole ns
  unfolding whole_for is_whole places
  whole_same =
      ap all (map_same (λ i. leb 1 (get_or kids i 0)) (λ i. is_sink (node ns i).kind || leb 1 (children ns i)) (from 0 (length ns + 1))
      (λ i m. ap (leb 1) (K.each i (omega (arith, from-mem 0 (length ns + 1) i m))) ∙ some_or_sink (is_sink (node ns i).kind) (children ns i)))

-- the nodes so far, and what the definition gives from here on
pub record ReadSoFar (bs : List ℕ) (L first : ℕ) (keep : Bool) (old words kids : List ℕ) (at count bufs : ℕ) : Type 0 where
  pub ns : List Node
  pub kids_are : Kids ns kids
  pub stored : Stored L ns keep old words
  pub size : length ns ≡ count
  pub buffered : buffers ns ≡ bufs
  pub same : nodes_from max_length (max_nodes + 1 - count) bs L ns at ≡ nodes_from max_length (max_nodes + 1) bs L [] first
  pub inside : at ≤ length bs
  pub few : count ≤ max_nodes
  pub fewer : bufs ≤ count
  pub rows : Rows keep words
  pub same_size : length words ≡ length old
  pub thin : L ≤ max_layers
  pub kids_long : length kids ≡ max_nodes + 1

-- one step of the definition
module _ (bs : List ℕ) (L : ℕ) (ns : List Node) (at : ℕ) where
  nodes_end : (k : ℕ) → length bs ≤ at → nodes_from max_length (suc k) bs L ns at ≡ accept ns
  unfolding nodes_from
  nodes_end k h = rw (le-leb _ _ h, nodes_from)

  nodes_took : (k : ℕ) {f : Field} → at < length bs → node_field max_length bs L ns at ≡ accept f
      → nodes_from max_length (suc k) bs L ns at ≡ nodes_from max_length k bs L (ns ++ (node_at bs L f ∷ [])) (next f)
  unfolding nodes_from
  nodes_took k h e = rw (lt-leb _ _ h, e, nodes_from)

  nodes_no : (k : ℕ) {r : ℕ} → at < length bs → node_field max_length bs L ns at ≡ refuse r → nodes_from max_length (suc k) bs L ns at ≡ refuse r
  unfolding nodes_from
  nodes_no k h e = rw (lt-leb _ _ h, e, nodes_from)

-- what an accepted node field tells
pub record Passed (bs : List ℕ) (L : ℕ) (ns : List Node) (at : ℕ) (f : Field) : Type 0 where
  pub found : field (due_node L) bs at ≡ accept f
  pub room : length ns < max_nodes
  pub low : (node_at bs L f).parent ≤ length ns

passed : (bs : List ℕ) (L : ℕ) (ns : List Node) (at : ℕ) {f : Field} → node_field max_length bs L ns at ≡ accept f → Passed bs L ns at f
unfolding has_room is_parent
passed bs L ns at e =
    let t = field-taken e in
    record { found = t.found; room = ltb-true _ _ (and_left (ltb (length ns) max_nodes) _ t.room); low = lower t.parent }
  where
    lower : {p : ℕ} → is_parent ns p ≡ true → p ≤ length ns
    lower {p} c = leb-true _ _ (and_left (leb p (length ns)) _ (and_left (leb p (length ns) && not (is_sink (node ns p).kind)) _ c))

-- one turn of the loop: the two counts of kids fit, and the next state
pub record NodeTurn (bs : List ℕ) (L first : ℕ) (keep : Bool) (old words kids : List ℕ) (at count bufs : ℕ) (t : Taken) (next : List ℕ) : Type 0 where
  pub low : t.node.parent ≤ count
  pub room : count ≤ 254
  pub small : get_or kids t.node.parent 0 ≤ 257
  pub smaller : get_or (set kids t.node.parent (get_or kids t.node.parent 0 + 1)) (count + 1) 0 ≤ 256
  pub on : at < t.next
  pub onward : ReadSoFar bs L first keep old next
      (set (set kids t.node.parent (get_or kids t.node.parent 0 + 1)) (count + 1)
      (get_or (set kids t.node.parent (get_or kids t.node.parent 0 + 1)) (count + 1) 0 + max_children * bit (is_sink t.node.kind)))
      t.next (count + 1) (bufs + bit (is_buffer t.node.kind))

module _ {bs : List ℕ} {L first : ℕ} {keep : Bool} {old words kids : List ℕ} {at count bufs : ℕ} (g : ReadSoFar bs L first keep old words kids at count bufs) where
  turn : at < length bs → (f : Field) → node_field max_length bs L g.ns at ≡ accept f → {after : List ℕ} → length after ≡ length words
      → Put bs L f words after (row_for keep (length g.ns))
      → NodeTurn bs L first keep old words kids at (length g.ns) (buffers g.ns) (taken_at bs L f) after
  unfolding taken_at record_at node_at next places
  turn h f e long P =
      let ns = g.ns in
      let n = node_at bs L f in
      let p = passed bs L ns at e in
      let i = field-inside (due_node L) bs at p.found in
      let few : length ns ≤ 254 = omega arith in
      let k : max_nodes + 1 - count ≡ suc (max_nodes + 1 - (length ns + 1)) = omega (arith, g.size) in
      record {
        low = p.low;
        room = few;
        small = omega (arith, g.kids_are.each n.parent (omega arith), children_le ns n.parent, bit_le (is_sink (node ns n.parent).kind));
        smaller = kids_small g.kids_are n few p.low g.kids_long;
        on = omega (arith, i.begins);
        onward = record {
          ns = ns ++ (n ∷ []);
          kids_are = kids_more g.kids_are n few p.low g.kids_long;
          stored = stored_more g.thin g.stored P;
          size = length_more ns n;
          buffered = buffers-more ns n;
          same = sym (nodes_took bs L ns at (max_nodes + 1 - (length ns + 1)) h e) ∙ (rw k at g.same);
          inside = i.ends;
          few = omega arith;
          fewer = omega (arith, g.fewer, g.size, g.buffered, bit_le (is_buffer n.kind));
          rows = rows-kept g.rows long;
          same_size = long ∙ g.same_size;
          thin = g.thin;
          kids_long = length-set (set kids n.parent _) (length ns + 1) _ ∙ (length-set kids n.parent _ ∙ g.kids_long);
        };
      }

  stepped : step_at bs L count bufs kids at ≡ (node_field max_length bs L g.ns at >>= λ f. accept (taken_at bs L f))
  unfolding step_at
  stepped = rw (← g.size, ← g.buffered) (ap (λ (x : Answer Field). x >>= λ f. accept (taken_at bs L f))
      (step_same g.kids_are (omega (arith, g.size, g.few)) bs L at))

  same_step : step_field bs L count bufs kids at ≡ node_field max_length bs L g.ns at
  same_step = rw (← g.size, ← g.buffered) (step_same g.kids_are (omega (arith, g.size, g.few)) bs L at)

  pub read_took : at < length bs → {s : Step} {after : List ℕ} → StepRead bs L count bufs kids at keep (Ok s) words after → length after ≡ length words
      → NodeTurn bs L first keep old words kids at count bufs (step_taken s) after
  read_took h {s} {after} R long =
      let (f, a, q) = turned_accepted (node_field max_length bs L g.ns at) (taken_at bs L) (R.answer ∙ stepped) in
      rw (← g.size, ← g.buffered, q) (turn h f a long (subst (λ (k : ℕ). Put bs L f words after (row_for keep k)) (sym g.size) (R.put f (same_step ∙ a))))

  one_less : max_nodes + 1 - count ≡ suc (max_nodes - count)
  one_less = omega (arith, g.few)

  pub read_no : at < length bs → {r : ℕ} → refuse r ≡ step_at bs L count bufs kids at → nodes_from max_length (max_nodes + 1) bs L [] first ≡ refuse r
  read_no h {r} e = sym g.same ∙ rw one_less (nodes_no bs L g.ns at (max_nodes - count) h
      (turned_refused (node_field max_length bs L g.ns at) (taken_at bs L) (e ∙ stepped)))

  pub read_end : length bs ≤ at → nodes_from max_length (max_nodes + 1) bs L [] first ≡ accept g.ns
  read_end h = sym g.same ∙ rw one_less (nodes_end bs L g.ns at (max_nodes - count) h)

pub read-start : (bs : List ℕ) (L first : ℕ) {keep : Bool} {words kids : List ℕ} → first ≤ length bs → Rows keep words → L ≤ max_layers → kids ≡ replicate (max_nodes + 1) 0
    → ReadSoFar bs L first keep words words kids first 0 0
unfolding buffers
read-start bs L first {keep} {words} h lh thin ek = record {
  ns = [];
  kids_are = kids_none ek;
  stored = stored-none L keep words;
  size = refl;
  buffered = refl;
  same = refl;
  inside = h;
  few = omega arith;
  fewer = omega arith;
  rows = lh;
  same_size = refl;
  thin = thin;
  kids_long = ap length ek ∙ length-replicate {A = ℕ} (max_nodes + 1) 0;
}

-- the loop's answer
module _ (bs : List ℕ) (L first : ℕ) (keep : Bool) (old words kids : List ℕ) where
  pub nodes-refused : {why : Refusal} → nodes_from max_length (max_nodes + 1) bs L [] first ≡ refuse (number_of why)
      → NodesRead bs L first keep (Err why) old words kids
  nodes-refused h = record {
    counts = sym (ap (λ (y : Answer (List Node)). y >>= λ ns. accept (counted ns)) h);
    few = λ ns q. not-refused (sym h ∙ q);
    kids_are = λ ns q. not-refused (sym h ∙ q);
    stored = λ ns q. not-refused (sym h ∙ q);
  }

  pub nodes-read : {at count bufs : ℕ} → (g : ReadSoFar bs L first keep old words kids at count bufs) → length bs ≤ at
      → NodesRead bs L first keep (Ok (record { count = count; buffers = bufs })) old words kids
  nodes-read g b =
      let h = read_end g b in
      record {
        counts = rw (← g.size, ← g.buffered) (sym (ap (λ (y : Answer (List Node)). y >>= λ ns. accept (counted ns)) h));
        few = λ ms q. subst (λ (l : List Node). (length l ≤ max_nodes) × (buffers l ≤ max_nodes)) (accept_injective (sym h ∙ q))
            (omega (arith, g.size, g.few), omega (arith, g.buffered, g.fewer, g.few));
        kids_are = λ ms q. subst (λ (l : List Node). Kids l kids) (accept_injective (sym h ∙ q)) g.kids_are;
        stored = λ ms q. subst (λ (l : List Node). Stored L l keep old words) (accept_injective (sym h ∙ q)) g.stored;
      }
