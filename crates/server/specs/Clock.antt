-- The clock: times in microseconds, and the sum that stops at its end.
use Rattle.std.specs.Prelude.{ℕ, ◌+◌, min}

-- the last time: 2^40 - 1
abbrev pub clock_end : ℕ
clock_end = 1099511627775

-- the longest service: 2^24 - 1
abbrev pub service_limit : ℕ
service_limit = 16777215

-- a sum that stops at a cap
abbrev pub capped_at : ℕ → ℕ → ℕ → ℕ
capped_at cap x y = min (x + y) cap

-- the sum of two times
abbrev pub capped : ℕ → ℕ → ℕ
capped x y = capped_at clock_end x y
