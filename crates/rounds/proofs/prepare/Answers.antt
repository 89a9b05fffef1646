-- `prepare` is right: links and windows are found from the same drivers and delays.
use Rattle.rounds.proofs.Preparing.{link_in}
use Rattle.rounds.proofs.prepare.Goals as goal

pub link-requires : goal.link-requires
link-requires c = link_in c.requires
