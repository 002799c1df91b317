-- Adding tallies.
use Rattle.std.specs.Prelude.{◌≡◌, ℕ, ◌<◌}
use Rattle.std.proofs.Common.{ap, ◌∙◌, arith}
use Rattle.counts.specs.declared.tallies.Tallies.{Tallies}
use Rattle.counts.specs.Tallies.{tallied, no_tallies, TalliesCount, wrapped, plus}

wrapped_assoc : (x y z : ℕ) → wrapped (wrapped x y) z ≡ wrapped x (wrapped y z)
wrapped_assoc x y z = omega arith

wrapped_zero : (x : ℕ) → x < 4294967296 → wrapped x 0 ≡ x
wrapped_zero x h = omega arith

wrapped_below : (x y : ℕ) → wrapped x y < 4294967296
wrapped_below x y = omega arith

tallied_eq : {a b c a' b' c' : ℕ} → a ≡ a' → b ≡ b' → c ≡ c' → tallied a b c ≡ tallied a' b' c'
tallied_eq p q r = cc

pub plus_assoc : (x y z : Tallies) → plus (plus x y) z ≡ plus x (plus y z)
plus_assoc x y z = tallied_eq (wrapped_assoc _ _ _) (wrapped_assoc _ _ _) (wrapped_assoc _ _ _)

pub plus_none : (x : Tallies) → TalliesCount x → plus x no_tallies ≡ x
plus_none x h = tallied_eq (wrapped_zero x.missing h.0) (wrapped_zero x.repeats h.1) (wrapped_zero x.late h.2)

pub plus_counts : (x y : Tallies) → TalliesCount (plus x y)
plus_counts x y = (wrapped_below x.missing y.missing, wrapped_below x.repeats y.repeats, wrapped_below x.late y.late)

-- four and five tallies, bracketed as joins and effects add them
pub plus_four : (a b c d : Tallies) → plus (plus (plus a b) c) d ≡ plus a (plus (plus b c) d)
plus_four a b c d = ap (λ v. plus v d) (plus_assoc a b c) ∙ plus_assoc a (plus b c) d

pub plus_five : (a b c d e : Tallies) → plus (plus (plus (plus a b) c) d) e ≡ plus (plus a b) (plus (plus c d) e)
plus_five a b c d e = plus_four (plus a b) c d e
