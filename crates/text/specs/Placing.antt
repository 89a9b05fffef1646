-- What the functions that write into a buffer promise: bytes at a place, all others as they were.
use Rattle.std.specs.Prelude.{◌≡◌, List, ◌++◌, ℕ, ◌+◌, ◌≤◌, length, take, drop}

-- `after` is `before` with `text` put at `at`; the text ends at `next`, within the buffer.
pub record Placed (text : List ℕ) (at : ℕ) (before after : List ℕ) (next : ℕ) : Type 0 where
  pub bytes : after ≡ take at before ++ text ++ drop next before
  pub ends : next ≡ at + length text
  pub room : next ≤ length before
