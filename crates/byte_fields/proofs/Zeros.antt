-- Zeros, and the first byte that is none.
use Rattle.std.proofs.Common.{◌≡◌, ℕ, zero, suc, ◌+◌, ◌<◌, Bool, true, false, cond, eqb, not, List, [], ◌∷◌, length, get_or, Some, None, Option, refl, sym, subst, ◌∙◌, ◌⊎◌, inl, inr, ⊎_elim, arith}
use Rattle.std.proofs.lemmas.Bool.Decides.{nat_tests}
use Rattle.std.specs.List.{position_from}
use Rattle.std.proofs.lemmas.List.{length-replicate}
use Rattle.std.proofs.lemmas.Bool.{eqb-true}
use Rattle.std.proofs.lemmas.Iterator.Adapters.{position_from-zero}
use Rattle.byte_fields.specs.Unused.{zeros, is_used, first_used, Lowest}

pub length_zeros : (n : ℕ) → length (zeros n) ≡ n
unfolding zeros
length_zeros n = length-replicate n 0

none_from : (i n : ℕ) → position_from is_used i (zeros n) ≡ None
unfolding zeros
none_from i zero = refl
none_from i (suc n) = none_from (i + 1) n

pub zeros_unused : (n : ℕ) → first_used (zeros n) ≡ None
zeros_unused n = position_from-zero is_used (zeros n) ∙ none_from 0 n

unused_cons : (t : Bool) (rest : Option ℕ) (i : ℕ) → cond (not t) (Some i) rest ≡ None → (t ≡ true) × (rest ≡ None)
unused_cons true rest i e = (refl, e)
unused_cons false rest i e = let z : ◌≡◌ {A = ℕ} 0 1 = cc in absurd (omega arith)

zeros_from : (i : ℕ) (bs : List ℕ) → position_from is_used i bs ≡ None → bs ≡ zeros (length bs)
unfolding zeros
zeros_from i [] e = refl
zeros_from i (b ∷ bs) e =
    let p = unused_cons (eqb b 0) (position_from is_used (i + 1) bs) i e in
    let h = eqb-true b 0 p.0 in
    let r = zeros_from (i + 1) bs p.1 in
    cc

-- bytes of which none is used are zeros
pub unused_zeros : (bs : List ℕ) → first_used bs ≡ None → bs ≡ zeros (length bs)
unused_zeros bs e = zeros_from 0 bs (sym (position_from-zero is_used bs) ∙ e)

-- what a place found from i on is
record Found (i : ℕ) (bs : List ℕ) (j : ℕ) : Type 0 where
  offset : ℕ
  is : j ≡ i + offset
  within : offset < length bs
  used : 0 < get_or bs offset 0
  before : (k : ℕ) → k < offset → get_or bs k 0 ≡ 0

here_or_on : (b i j : ℕ) (rest : Option ℕ) (t : Bool) → eqb b 0 ≡ t → cond (not t) (Some i) rest ≡ Some j
    → ((0 < b) × (j ≡ i)) ⊎ ((b ≡ 0) × (rest ≡ Some j))
here_or_on b i j rest true e p = inr (eqb-true b 0 e, p)
here_or_on b i j rest false e p = inl (grind (arith, nat_tests), cc)

below_suc : (b : ℕ) (bs : List ℕ) (n : ℕ) → b ≡ 0 → ((k : ℕ) → k < n → get_or bs k 0 ≡ 0) → (k : ℕ) → k < suc n → get_or (b ∷ bs) k 0 ≡ 0
below_suc b bs n z h zero lt = z
below_suc b bs n z h (suc k) lt = h k (omega arith)

found : (i : ℕ) (bs : List ℕ) (j : ℕ) → position_from is_used i bs ≡ Some j → Found i bs j
found i [] j p = let z : ◌≡◌ {A = ℕ} 0 1 = cc in absurd (omega arith)
found i (b ∷ bs) j p = ⊎_elim
    (λ h. record { offset = 0; is = omega (arith, h.1); within = omega arith; used = h.0; before = λ k lt. absurd (omega arith) })
    (λ h. let f = found (i + 1) bs j h.1 in
    record { offset = suc f.offset; is = omega (arith, f.is); within = omega (arith, f.within); used = f.used; before = below_suc b bs f.offset h.0 f.before })
    (here_or_on b i j (position_from is_used (i + 1) bs) (eqb b 0) refl p)

lowest_at : (bs : List ℕ) (r : Option ℕ) → position_from is_used 0 bs ≡ r → Lowest bs r
lowest_at bs None e = zeros_from 0 bs e
lowest_at bs (Some j) e =
    let f = found 0 bs j e in
    let at : f.offset ≡ j = omega (arith, f.is) in
    subst (λ k. (k < length bs) × (0 < get_or bs k 0) × ((m : ℕ) → m < k → get_or bs m 0 ≡ 0)) at (f.within, f.used, f.before)

-- the first used byte is the lowest
pub lowest_used : (bs : List ℕ) (r : Option ℕ) → r ≡ first_used bs → Lowest bs r
lowest_used bs r e = lowest_at bs r (sym (position_from-zero is_used bs) ∙ sym e)
