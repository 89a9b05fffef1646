-- `put_node` is right: the costs come after the record in the row and leave it as it is.
use Rattle.words.proofs.Cells.{node-put}
use Rattle.words.proofs.put_node.Goals as goal

pub returns : goal.returns
returns c = node-put c.put_record.ensures c.put_costs.ensures
