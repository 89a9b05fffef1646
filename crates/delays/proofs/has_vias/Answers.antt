-- `has_vias` is right: where it finds no layer with a via, none of the layers has one.
use mathlib.Core.Path.{◌≡◌, refl}
use Prim.Native.Nat.{ℕ, ◌<◌}
use native.Mathlib.Omega.{arith}
use borrow.Author.Tests.{tests}
use Rattle.std.proofs.Common.{rules, zero-add}
use Rattle.std.proofs.lemmas.Iterator.{cases_from_any, YieldsList-from_range}
use Rattle.std.proofs.lemmas.List.FromFn.{length-range_with_len, get_or-range_with_len}
use Rattle.rules.specs.Timing.{layer}
use Rattle.facts.specs.Layers.{no_vias}
use Rattle.words.specs.Words.{net_in}
use Rattle.words.specs.Net.{held}
use Rattle.delays.proofs.has_vias.Goals as goal

pub returns : goal.returns
returns c =
    let n = net_in c.args.net.now.words.now in
    let k = c.args.net.now.layers in
    let h =
    cases_from_any _ _ _ (λ (l : ℕ). 0 < (layer n l).via_res) (λ (l : ℕ). (layer n l).via_res ≡ 0) c.any.ensures.ran
    (YieldsList-from_range 0 k k refl (omega arith)) (λ x q k. search (rules, tests)) (λ x q k. search (rules, tests)) in
    λ e.
    let none = rw e at h in
    no_vias n k (omega (arith, (held c.args.net.now.held).layers-are))
    (λ m b. rw (get_or-range_with_len, zero-add) at (none m 0 (omega arith) (omega (arith, length-range_with_len 0 k))))
