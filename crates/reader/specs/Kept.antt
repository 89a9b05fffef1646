-- What reading leaves to those above: the net of the bytes in the array, and its counts.
use Rattle.std.specs.Prelude.{◌≡◌, refl, true, List, ℕ, length, Ok}
use Rattle.std.proofs.Common.{ap, sym, ◌∙◌}
use Rattle.rules.specs.Tree.{Net, layer_count, stages}
use Rattle.rules.specs.Reading.{accept, read}
use Rattle.facts.specs.Answers.{turned_accepted}
use Rattle.facts.specs.Accepted.{accepted}
use Rattle.words.specs.Words.{word_count, net_in}
use Rattle.words.specs.Held.{Held}
use Rattle.reader.specs.Net.{Counts, counts_of, counts, NetRead}
use Rattle.reader.specs.declared.NetCounts.{NetCounts}

-- the array holds the net of the bytes, with these counts
pub record Kept (bs w : List ℕ) (nodes s layers : ℕ) : Type 0 where
  pub holds : read bs ≡ accept (net_in w)
  pub held : Held w nodes layers
  pub stages-are : s ≡ stages (net_in w)

-- what reading leaves, where the net is kept
pub held-read : {bs w : List ℕ} {n : NetCounts} → NetRead bs true (Ok n) w → length w ≡ word_count → Kept bs w n.nodes n.stages n.layers
unfolding counts counts_of
held-read {bs} {w} {n} R long =
    let (m, e, q) = turned_accepted (read bs) counts_of R.answer in
    let i : net_in w ≡ m = R.is refl m e in
    let h : read bs ≡ accept (net_in w) = e ∙ ap accept (sym i) in
    record {
      holds = h;
      held = record {
        accepted = accepted bs (net_in w) h;
        nodes-are = ap (λ (k : Counts). k.nodes) q ∙ ap (λ (y : Net). length y.nodes) (sym i);
        layers-are = ap (λ (k : Counts). k.layers) q ∙ ap layer_count (sym i);
        driver-tag = R.driver-row m e;
        long = long;
      };
      stages-are = ap (λ (k : Counts). k.stages) q ∙ ap stages (sym i);
    }
