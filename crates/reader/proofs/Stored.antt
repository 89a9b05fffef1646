-- The array while a net is read: that its rows are the nodes read so far, and that at the end it is the net.
use mathlib.Core.Path.{◌≡◌, refl, ap, ◌∙◌}
use mathlib.Core.Bool.{Bool, true}
use mathlib.Core.List.{List, [], ◌∷◌, ◌++◌, map, map-append}
use Prim.Native.Nat.{ℕ, ◌+◌, ◌<◌, ◌≤◌}
use native.Mathlib.Numerals.{add-one}
use native.Mathlib.Omega.{arith}
use lib.ListN.{length, get_or, set}
use lib.Seq.{get_or-set_same, get_or-set_other}
use Rattle.laws.specs.Basic.{from}
use Rattle.laws.specs.Lists.{from_more, length_more}
use Rattle.rules.specs.Tree as tree
use Rattle.rules.specs.Bytes.{Field, max_layers, buffer_tag, node_at, driver_at}
use Rattle.words.specs.Words.{rows_at, node_row, count_at, row_for, Rows, cell, node_in, nodes_in, driver_in, layers_in, net_in}
use Rattle.words.specs.Puts.{DriverPut}
use Rattle.words.proofs.Cells.{nodes-same}
use Rattle.words.proofs.Layers.{layers-same}
use Rattle.nodes.specs.Steps.{Put}
use Rattle.nodes.proofs.Steps.{row_first}
use Rattle.reader.specs.Nodes.{Stored}

-- an array of the same length has the same rows
pub rows-kept : {keep : Bool} {w v : List ℕ} → Rows keep w → length v ≡ length w → Rows keep v
rows-kept R e = record { some = omega (arith, R.some); all = λ k. e ∙ R.all k }

-- no node yet, and one node more
pub stored-none : (L : ℕ) (keep : Bool) (old : List ℕ) → Stored L [] keep old old
unfolding nodes_in
stored-none L keep old = record { lower = λ k h. refl; are = λ e. refl }

pub stored_more : {bs : List ℕ} {L : ℕ} {f : Field} {ns : List tree.Node} {keep : Bool} {old words new : List ℕ} → L ≤ max_layers → Stored L ns keep old words
    → Put bs L f words new (row_for keep (length ns)) → Stored L (ns ++ (node_at bs L f ∷ [])) keep old new
unfolding nodes_in
stored_more {bs} {L} {f} {ns} {keep} {old} {words} {new} thin S P = record {
  lower = λ k h. P.lower k (omega (arith, row_first keep (length ns))) ∙ S.lower k h;
  are = λ e. more (rw e at P) (S.are e);
}
  where
    more : Put bs L f words new (length ns + 1) → nodes_in words L (length ns) ≡ ns
        → nodes_in new L (length (ns ++ (node_at bs L f ∷ []))) ≡ ns ++ (node_at bs L f ∷ [])
    more P e =
        ap (λ (k : ℕ). map (node_in new L) (from 1 k)) (length_more ns (node_at bs L f) ∙ add-one (length ns)) ∙
        ap (map (node_in new L)) (from_more 1 (length ns)) ∙
        map-append (node_in new L) (from 1 (length ns)) ((1 + length ns) ∷ []) ∙
        ap (λ (m : List tree.Node). m ++ (node_in new L (1 + length ns) ∷ [])) (nodes-same words new L (length ns) thin (λ k a b. P.lower k b) ∙ e) ∙
        ap (λ (x : tree.Node). ns ++ (x ∷ [])) (ap (node_in new L) (omega arith) ∙ P.is)

-- the whole net: the driver, the nodes, and their count last
module _ {bs : List ℕ} {L i : ℕ} {ns : List tree.Node} {keep r : Bool} {old mid words : List ℕ} (count : ℕ) (D : DriverPut bs L i old mid r)
    (S : Stored L ns keep mid words) where
  others : (k : ℕ) → (k ≡ count_at → ⊥) → get_or (set words count_at count) k 0 ≡ get_or words k 0
  others k h = get_or-set_other words count_at k count 0 h

  head : (k : ℕ) → k < node_row 1 → (k ≡ count_at → ⊥) → get_or (set words count_at count) k 0 ≡ get_or mid k 0
  head k a b = others k b ∙ S.lower k a

  pub tag-put : cell (set words count_at count) 0 0 ≡ buffer_tag
  tag-put = head rows_at (omega arith) (λ e. omega arith) ∙ D.tagged

  driver-is : driver_in (set words count_at count) ≡ driver_at bs i
  unfolding driver_in
  driver-is =
      rw (
        head (rows_at + 4) (omega arith) (λ e. omega arith),
        head (rows_at + 5) (omega arith) (λ e. omega arith),
        head (rows_at + 6) (omega arith) (λ e. omega arith),
        head (rows_at + 7) (omega arith) (λ e. omega arith),
      )
      D.is

  pub net-put : L ≤ max_layers → node_row 1 ≤ length words → count ≡ length ns → keep ≡ true
      → net_in (set words count_at count) ≡ record { layers = layers_in old L; driver = driver_at bs i; nodes = ns }
  unfolding net_in
  net-put thin long size k = rw (counted, layered, driver-is, layers-are, nodes-are)
    where
      counted : cell (set words count_at count) 0 1 ≡ count
      counted = get_or-set_same words count_at count 0 (omega arith)

      layered : cell (set words count_at count) 0 2 ≡ L
      layered = head (rows_at + 2) (omega arith) (λ e. omega arith) ∙ D.layered

      layers-are : layers_in (set words count_at count) L ≡ layers_in old L
      layers-are = layers-same old (set words count_at count) L thin (λ m h. head m (omega arith) (λ e. omega arith) ∙ D.lower m h)

      nodes-are : nodes_in (set words count_at count) L count ≡ ns
      nodes-are = nodes-same words (set words count_at count) L count thin (λ m a b. others m (λ e. omega arith)) ∙ ap (nodes_in words L) size ∙ S.are k
