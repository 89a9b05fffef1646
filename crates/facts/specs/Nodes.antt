-- One step of reading the nodes (01, Reading): what reading does with a node field, and what an accepted one tells. The definition makes its tests one after
-- the other, so an accepted field passed each of them, and one that passes them all is accepted.
use Rattle.std.specs.Prelude.{◌≡◌, Bool, true, false, List, [], ◌∷◌, ◌++◌, ℕ}
use Rattle.std.proofs.Math.Path.{refl, subst}
use Rattle.rules.specs.Tree.{Node}
use Rattle.rules.specs.Bytes.{Field, next, due_node, node_at, is_node}
use Rattle.rules.specs.Reading.{Answer, accept, ◌>>=◌, field, has_room, is_parent, node_field, nodes_from}
use Rattle.facts.specs.Answers.{accept_injective, then_accepted, unless_accepted}

-- What `nodes_from` does after the node field f, and by its test for the end.
abbrev pub after_field : ℕ → ℕ → List ℕ → ℕ → List Node → Field → Answer (List Node)
after_field most k bs L ns f = nodes_from most k bs L (ns ++ (node_at bs L f ∷ [])) (next f)

abbrev pub nodes_turn : ℕ → ℕ → List ℕ → ℕ → List Node → ℕ → Bool → Answer (List Node)
nodes_turn most k bs L ns i b = elim b [ true ↦ accept ns | false ↦ node_field most bs L ns i >>= after_field most k bs L ns ]

-- The node field f stands at i, and its node passes the tests 4, 3 and 5.
pub record FieldTaken (most : ℕ) (bs : List ℕ) (L : ℕ) (ns : List Node) (i : ℕ) (f : Field) : Type 0 where
  pub found : field (due_node L) bs i ≡ accept f
  pub room : has_room ns (node_at bs L f) ≡ true
  pub range : is_node most (node_at bs L f) ≡ true
  pub parent : is_parent ns (node_at bs L f).parent ≡ true

module _ {most : ℕ} {bs : List ℕ} {L : ℕ} {ns : List Node} {i : ℕ} {f : Field} where
  pub field-taken : node_field most bs L ns i ≡ accept f → FieldTaken most bs L ns i f
  unfolding node_field
  field-taken e =
      let (g, found, e1) = then_accepted (field (due_node L) bs i) _ e in
      let (room, e2) = unless_accepted 4 (has_room ns (node_at bs L g)) _ e1 in
      let (range, e3) = unless_accepted 3 (is_node most (node_at bs L g)) _ e2 in
      let (parent, e4) = unless_accepted 5 (is_parent ns (node_at bs L g).parent) _ e3 in
      subst (FieldTaken most bs L ns i) (accept_injective e4) (record { found = found; room = room; range = range; parent = parent })

  pub taken-field : FieldTaken most bs L ns i f → node_field most bs L ns i ≡ accept f
  unfolding node_field
  taken-field t = rw (t.found, t.room, t.range, t.parent) refl
