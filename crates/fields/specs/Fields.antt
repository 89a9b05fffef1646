-- The fields of the code in the terms of 01.
use Rattle.std.specs.Prelude.{Bool, ℕ}
use Rattle.rules.specs.Bytes as bytes
use Rattle.rules.specs.Bytes.{due_layers, due_driver, due_node}
use Rattle.rules.specs.Block.{due_net}
use Rattle.fields.specs.declared.Due.{Due}
use Rattle.fields.specs.declared.Due.TheVariants as due
use Rattle.fields.specs.declared.Field.{Field}

-- which tags and lengths are allowed where a field is due, with L layers
abbrev pub due_of : Due → ℕ → ℕ → ℕ → Bool
due_of due.Layers L tag size = due_layers tag size
due_of due.Driver L tag size = due_driver tag size
due_of due.Node L tag size = due_node L tag size
due_of due.Net L tag size = due_net tag size

-- a field of the code as a field of the bytes
abbrev pub field_of : Field → bytes.Field
field_of f = record { tag = f.tag; start = f.start; size = f.size }
