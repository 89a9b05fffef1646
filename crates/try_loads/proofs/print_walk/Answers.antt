-- `print_walk` is right: zeros give each stage all layers as its columns, from layer 0 on.
use Rattle.std.proofs.Common.{◌+◌, ◌*◌, arith}
use Rattle.rules.specs.Bytes.{max_layers, max_nodes}
use Rattle.words.specs.Net.{held}
use Rattle.loads.specs.Columns.{layer-columns}
use Rattle.loads.specs.Loaded.{unloaded_zeros}
use Rattle.try_loads.proofs.print_walk.Goals as goal

pub loads-edges-requires : goal.loads-edges-requires
loads-edges-requires g c =
    let H = held c.args.net.now.held in (
      layer-columns H.accepted H.layers-are,
      unloaded_zeros _ ((max_nodes + 1) * max_layers) (omega (arith, H.accepted.few-layers, H.layers-are)),
    )
