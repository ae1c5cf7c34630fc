-- A size as far as it matters.
-- Assumes nothing.
use Rattle.std.specs.Prelude.{ℕ, ◌+◌, min}
use Rattle.format_items.specs.Size.{largest_size}

-- over the largest size it counts as one more than that
abbrev pub capped : ℕ → ℕ
capped n = min n (largest_size + 1)
