-- The records of some bytes are their chunks of 16.
use Rattle.std.proofs.Common.{◌≡◌, ℕ, zero, suc, ◌+◌, ◌-◌, ◌*◌, ◌/◌, ◌<◌, cond, ltb, List, [], length, get_or, take, drop, Some, None, Option, Bor, refl, ap, ◌∙◌, arith}
use Rattle.std.specs.List.{between}
use Rattle.std.specs.Option.{option_copied}
use Rattle.std.specs.Simd.{first_chunks}
use Rattle.std.specs.Slice.{IsItemAt}
use Rattle.std.proofs.lemmas.List.{drop-drop}
use Rattle.block.specs.Layout.{record_at}

pub length_chunks : {X : Type 0} (n k : ℕ) (xs : List X) → length (first_chunks n k xs) ≡ k
length_chunks n zero xs = refl
length_chunks n (suc k) xs = ap suc (length_chunks n k (drop n xs))

pub chunk_at : {X : Type 0} (n k : ℕ) (xs : List X) (i : ℕ) (d : List X) → i < k → get_or (first_chunks n k xs) i d ≡ take n (drop (n * i) xs)
chunk_at n zero xs i d lt = absurd (omega arith)
chunk_at n (suc k) xs zero d lt = let none : n * 0 ≡ 0 = omega arith in rw none
chunk_at n (suc k) xs (suc i) d lt =
    let on : n + n * i ≡ n * suc i = omega arith in
    chunk_at n k (drop n xs) i d (omega arith) ∙ ap (take n) (drop-drop (n * i) n xs ∙ ap (λ m. drop m xs) on)

-- what `get` finds among the chunks
pub record_got : (bs : List ℕ) (i : ℕ) (got : Option (Bor (List ℕ))) → IsItemAt (first_chunks 16 (length bs / 16) bs) i got → option_copied got ≡ record_at bs i
record_got bs i None at = ap (λ t. cond t (Some (between (16 * i) (16 * i + 16) bs)) None) (at.0 ∙ ap (ltb i) (length_chunks 16 (length bs / 16) bs))
record_got bs i (Some x) at =
    let n = length bs / 16 in
    let size : length (first_chunks 16 n bs) ≡ n = length_chunks 16 n bs in
    let within = at.3.0 in
    let width : 16 ≡ 16 * i + 16 - 16 * i = omega arith in
    ap Some (at.3.1 [] ∙ chunk_at 16 n bs i [] (omega arith) ∙ ap (λ w. take w (drop (16 * i) bs)) width)
    ∙ ap (λ t. cond t (Some (between (16 * i) (16 * i + 16) bs)) None) (at.0 ∙ ap (ltb i) size)
