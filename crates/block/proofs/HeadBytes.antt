-- The first four bytes of a block say what was written and nothing else.
use Rattle.std.proofs.Common.{◌≡◌, ℕ, ◌≤◌, false, cond, eqb, ltb, List, ◌∷◌, ◌++◌, length, Some, None, Ok, Err, Option, refl, ap, ◌∙◌, arith}
use Rattle.std.proofs.lemmas.Bool.{le-ltb}
use Rattle.std.proofs.lemmas.Bool.Decides.{nat_tests}
use Rattle.station.specs.Letters.{letter_byte, letter_of}
use Rattle.station.specs.declared.letters.Letter.{Letter}
use Rattle.station.specs.declared.letters.Letter.TheVariants.{F, T, B, S, C, P, Q}
use Rattle.byte_fields.specs.Numbers.{digits}
use Rattle.byte_fields.proofs.NumberLaws.{numeral_digits}
use Rattle.block.specs.declared.faults.BlockFault.TheVariants.{Layout}
use Rattle.block.specs.declared.heads.Head.{Head}
use Rattle.block.specs.declared.heads.Head.TheVariants as head
use Rattle.block.specs.Heads.{content_size, head_bytes, data_head, note_head, head_at, head_of}

pub length_head : (h : Head) → length (head_bytes h) ≡ 4
length_head (head.Data l count) = refl
length_head (head.Note size) = refl

data_back : (l : Letter) (count : ℕ) → ltb 31 count ≡ false → head_at (letter_byte l) count 0 ≡ Ok (head.Data l count)
data_back F count e = rw e
data_back T count e = rw e
data_back B count e = rw e
data_back S count e = rw e
data_back C count e = rw e
data_back P count e = rw e
data_back Q count e = rw e

pub head_back : (h : Head) (rest : List ℕ) → content_size h ≤ 496 → head_of (head_bytes h ++ rest) ≡ Ok h
head_back (head.Data l count) rest le = data_back l count (le-ltb 31 count (omega arith))
head_back (head.Note size) rest le = ap (note_head 0) (numeral_digits 2 size (omega arith)) ∙ ap (λ b. cond b (Err (Layout 2)) (Ok (head.Note size))) (le-ltb 496 size le)

letter_was : (b : ℕ) (l : Letter) → letter_of b ≡ Some l → b ≡ letter_byte l
letter_was b l p = grind (arith, nat_tests)

data_only : (o : Option Letter) (a b n : ℕ) (l : Letter) (count : ℕ) → cond (eqb a 78) (note_head b n) (data_head o b n) ≡ Ok (head.Data l count)
    → (o ≡ Some l) × (b ≡ count) × (n ≡ 0) × (b ≤ 31)
data_only None a b n l count p = absurd (grind (arith, nat_tests))
data_only (Some k) a b n l count p = (grind (arith, nat_tests), grind (arith, nat_tests), grind (arith, nat_tests), grind (arith, nat_tests))

-- three numbers that a head was read of are its own, and it has room
pub head_only : (a b n : ℕ) (h : Head) → head_at a b n ≡ Ok h → (a ∷ b ∷ digits 2 n ≡ head_bytes h) × (content_size h ≤ 496)
head_only a b n (head.Data l count) p =
    let was = data_only (letter_of a) a b n l count p in
    let letter = letter_was a l was.0 in
    (cc, omega arith)
head_only a b n (head.Note size) p =
    let letter : a ≡ 78 = grind (arith, nat_tests) in
    let none : b ≡ 0 = grind (arith, nat_tests) in
    let same : n ≡ size = grind (arith, nat_tests) in
    let fits : n ≤ 496 = grind (arith, nat_tests) in
    (cc, omega arith)
