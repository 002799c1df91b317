-- Whether there was a block more, by the count and by the block at hand.
use Rattle.std.proofs.Common.{◌≡◌, ℕ, ◌+◌, ◌<◌, Bool, true, false, cond, List, length, nat_lt, sym, ◌∙◌, arith}
use Rattle.std.proofs.lemmas.Bool.{cond-true, cond-false, ltb-true, ltb-false}

pub one_more : (more : Bool) (before after : ℕ) (hand : List ℕ) → more ≡ nat_lt 0 (length hand) → after ≡ cond more (before + 1) before → more ≡ true
    → (after ≡ before + 1) × (0 < length hand)
one_more more before after hand at_hand counted is = (counted ∙ cond-true more (before + 1) before is, ltb-true 0 (length hand) (sym at_hand ∙ is))

pub no_more : (more : Bool) (before after : ℕ) (hand : List ℕ) → more ≡ nat_lt 0 (length hand) → after ≡ cond more (before + 1) before → more ≡ false
    → (after ≡ before) × (length hand ≡ 0)
no_more more before after hand at_hand counted is = (counted ∙ cond-false more (before + 1) before is, omega (arith, ltb-false 0 (length hand) (sym at_hand ∙ is)))
