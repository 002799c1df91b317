-- What stands where in a list with another pasted into it.
use Rattle.std.proofs.Common.{rules, ◌≡◌, ℕ, ◌+◌, ◌-◌, ◌<◌, ◌≤◌, List, length, get_or}
use lib.Seq.{paste}
use Rattle.std.proofs.lemmas.List.{places}

module _ {X : Type 0} (xs : List X) (at : ℕ) (ys : List X) (n : ℕ) (d : X) (within : at + n ≤ length xs) (enough : n ≤ length ys) where
  pub paste_before : (k : ℕ) → k < at → get_or (paste xs at ys n) k d ≡ get_or xs k d
  paste_before k lt = search (rules, places)

  pub paste_inside : (k : ℕ) → at ≤ k → k < at + n → get_or (paste xs at ys n) k d ≡ get_or ys (k - at) d
  paste_inside k from to = search (rules, places)

  pub paste_behind : (k : ℕ) → at + n ≤ k → get_or (paste xs at ys n) k d ≡ get_or xs k d
  paste_behind k le = search (rules, places)
