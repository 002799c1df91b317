-- Bytes that are filled from the front, one read after another.
use Rattle.std.proofs.Common.{◌≡◌, ℕ, ◌+◌, ◌≤◌, List, ◌++◌, Option, length, take, sym, ap, subst, ◌∙◌, length-take-le}
use Rattle.std.proofs.Math.Seq.{take-append-add}
use Rattle.std.proofs.lemmas.List.{take-append-le}
use Rattle.std.specs.Io.KnownBytes.{Consumes}
use Rattle.std.proofs.KnownBytes.{Consumes-trans}

-- n bytes more, read into what follows the first ones
pub filled_on : (a b c : Option (List ℕ)) (at n : ℕ) (xs ys rest : List ℕ) → at ≤ length xs → n ≤ length ys
    → Consumes a b (take at xs) → Consumes b c (take n ys) → Consumes a c (take (at + n) (take at xs ++ (ys ++ rest)))
filled_on a b c at n xs ys rest within fits before read =
    let joined : take (at + n) (take at xs ++ (ys ++ rest)) ≡ take at xs ++ take n ys =
    ap (λ k. take (k + n) (take at xs ++ (ys ++ rest))) (sym (length-take-le at xs within))
    ∙ take-append-add (take at xs) (ys ++ rest) n
    ∙ ap (λ l. take at xs ++ l) (take-append-le n ys rest fits) in
    subst (Consumes a c) (sym joined) (Consumes-trans a b c _ _ before read)
