-- How large a check can be.
use Rattle.std.proofs.Common.{ℕ, suc, ◌+◌, ◌*◌, ◌<◌, ◌≤◌, List, [], ◌∷◌, length, take, arith}
use Rattle.std.proofs.lemmas.Nat.{mul-le}
use Rattle.std.proofs.lemmas.List.{length-take}
use Rattle.byte_fields.proofs.NumberLaws.{Small, part_small}
use Rattle.block.specs.Check.{weighed, check_of}

weighed_le : (i : ℕ) (xs : List ℕ) → Small xs → i + length xs ≤ 508 → weighed i xs ≤ 129540 * length xs
weighed_le i [] small le = omega arith
weighed_le i (x ∷ xs) small le =
    let rest = weighed_le (i + 1) xs (λ k. small (suc k)) (omega arith) in
    let first = mul-le (i + 1) x 508 255 (omega arith) (omega (arith, small 0)) in
    omega arith

-- the check fits four bytes
pub check_small : (bs : List ℕ) → Small bs → check_of bs < 4294967296
check_small bs small =
    let size : length (take 508 bs) ≤ 508 = simp length-take (omega arith) in
    omega (arith, weighed_le 0 (take 508 bs) (part_small bs 0 508 small) (omega arith))
