-- Tallies, and what the step from one count to the next adds to them.
use Rattle.std.specs.Prelude.{ℕ, ◌+◌, ◌-◌, ◌%◌, ◌<◌, cond, ◌==◌, nat_le}
use Rattle.counts.specs.declared.tallies.Tallies.{Tallies}

abbrev pub tallied : ℕ → ℕ → ℕ → Tallies
tallied missing repeats late = record { missing = missing; repeats = repeats; late = late }

abbrev pub no_tallies : Tallies
no_tallies = tallied 0 0 0

abbrev pub TalliesCount : Tallies → Type 0
TalliesCount t = (t.missing < 4294967296) × (t.repeats < 4294967296) × (t.late < 4294967296)

-- tallies count modulo 2^32
abbrev pub wrapped : ℕ → ℕ → ℕ
wrapped x y = (x + y) % 4294967296

abbrev pub plus : Tallies → Tallies → Tallies
plus x y = tallied (wrapped x.missing y.missing) (wrapped x.repeats y.repeats) (wrapped x.late y.late)

-- what a difference of counts adds: 0 is a repeat, 1 the next frame, 2 to 8192 a gap, more a late frame
abbrev pub of_difference : ℕ → Tallies
of_difference d =
    cond (d == 0) (tallied 0 1 0) (cond (d == 1) no_tallies (cond (nat_le d 8192) (tallied (d - 1) 0 0) (tallied 0 0 1)))

-- what the step from the count last to the count n adds, by (n - last) modulo 2^14
abbrev pub between : ℕ → ℕ → Tallies
between last n = of_difference (((n + 16384) - last) % 16384)
