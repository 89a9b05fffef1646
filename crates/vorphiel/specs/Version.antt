-- The version of the library as one number, by which a host sees whether header and library belong together (CHANGELOG.md).
use Rattle.std.specs.Prelude.{ℕ, ◌+◌, ◌*◌}

-- 1.1.0: major × 10,000 + minor × 100 + patch.
abbrev pub version : ℕ
version = 1 * 10000 + 1 * 100 + 0
