-- What planning knows of a net that was read, as it is lent on.
use Rattle.std.specs.Prelude.{ℕ}
use Rattle.words.specs.declared.net.Net.{Net}
use Rattle.search.specs.declared.Share.{Share}
use Rattle.planning.specs.Calls.{Admitted}

-- What is known past refusals 1 to 10, of a net of so many stages.
abbrev pub NetAdmitted : Net → (count : ℕ) → Share → (room : ℕ) → Type 0
NetAdmitted n count share room = Admitted n.words.now n.nodes n.layers count share.p share.q room
