-- The limit of a queue, and tallies, which count modulo 2^32.
use Rattle.std.specs.Prelude.{ℕ, ◌+◌, ◌-◌, ◌%◌, ◌^◌}

abbrev pub queue_limit : ℕ
queue_limit = 65535

abbrev pub tally_modulus : ℕ
tally_modulus = 2 ^ 32

abbrev pub wrapped : ℕ → ℕ
wrapped x = x % tally_modulus

-- a less b, modulo 2^32
abbrev pub less : ℕ → ℕ → ℕ
less a b = wrapped (a + (tally_modulus - wrapped b))
