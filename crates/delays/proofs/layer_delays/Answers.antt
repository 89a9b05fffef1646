-- `layer_delays` is right: zeros give each stage all layers as its columns, from layer 0 on.
use Prim.Native.Nat.{◌+◌, ◌*◌}
use native.Mathlib.Omega.{arith}
use Rattle.rules.specs.Bytes.{max_layers, max_nodes, max_stages}
use Rattle.words.specs.Net.{held}
use Rattle.loads.specs.Columns.{zeros, layer-columns}
use Rattle.loads.specs.Loaded.{unloaded_zeros}
use Rattle.delays.specs.Delayed.{layer-delays}
use Rattle.delays.proofs.layer_delays.Goals as goal

pub loads-requires : goal.loads-requires
loads-requires c =
    let H = held c.args.wires.now.net.held in (
      layer-columns H.accepted H.layers-are,
      unloaded_zeros _ ((max_nodes + 1) * max_layers) (omega (arith, H.accepted.few-layers, H.layers-are)),
    )

pub delays-requires : goal.delays-requires
delays-requires c =
    let H = held c.args.wires.now.net.held in (
      layer-columns H.accepted H.layers-are,
      c.loads.ensures.0,
      omega (arith, H.accepted.few-layers, H.layers-are, c.requires),
    )

pub returns : goal.returns
returns c = layer-delays (zeros max_stages) c.delays.ensures
