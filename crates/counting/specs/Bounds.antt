-- The bounds that a record's counts give; `-` stops at 0. Assumes nothing.
use Rattle.std.specs.Prelude.{ℕ, ◌-◌}

abbrev pub high_of : ℕ → ℕ → ℕ
high_of ins outs = ins - outs

abbrev pub low_of : ℕ → ℕ → ℕ → ℕ
low_of ins outs slack = high_of ins outs - slack
