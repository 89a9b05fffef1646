-- `limited` is right: a time that is asked is within the limit if the latest is; else the band is copied under the limit.
use Rattle.std.proofs.Common.{◌≡◌, true, to_z-of_z}
use Rattle.std.specs.Int.Signed.{le_z}
use Rattle.branches.proofs.Joins.{limit_passed, limit_copied}
use Rattle.branches.proofs.limited.Goals as goal

pub returns-then-late-limit-clause-band : goal.returns-then-late-limit-clause-band
returns-then-late-limit-clause-band c =
    let h : le_z c.args.late c.args.limit ≡ true = rw (to_z-of_z c.ranges.late, to_z-of_z c.ranges.limit) at c.if-late-limit.true in
    limit_passed c.requires h

pub returns-clause-band : goal.returns-clause-band
returns-clause-band c = limit_copied c.requires (to_z-of_z c.ranges.limit) c.branch-table.ensures
