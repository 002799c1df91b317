-- Digits and numerals are inverse, whatever the width; and the steps of the calls that read and write them.
use Rattle.std.proofs.Common.{◌≡◌, ℕ, zero, suc, ◌+◌, ◌-◌, ◌*◌, ◌/◌, ◌%◌, ◌^◌, ◌<◌, ◌≤◌, min, List, [], ◌∷◌, ◌++◌, length, get_or, take, drop, set, sym, refl, ap, ◌∙◌, ⊎_elim, pow-suc, arith, lit<, rules}
use Rattle.std.specs.List.{between}
use Rattle.std.proofs.lemmas.List.{take_more_set, drop_more, drop_all, append_assoc, append-nil, take_all, drop-replicate, length-take, length-append, length-replicate, same_lists, places, length-drop, get_or-take, get_or-drop, get_or_past, take-take, take-append-drop}
use Rattle.std.proofs.lemmas.Slice.{between_is}
use Rattle.std.proofs.lemmas.Bool.{cases_lt}
use Rattle.byte_fields.specs.Numbers.{digits, numeral, field}
use Rattle.byte_fields.specs.Unused.{zeros}

-- each is below 256
abbrev pub Small : List ℕ → Type 0
Small bs = (k : ℕ) → get_or bs k 0 < 256

pub length_digits : (width n : ℕ) → length (digits width n) ≡ width
length_digits zero n = refl
length_digits (suc width) n = ap suc (length_digits width (n / 256))

pub digits_small : (width n : ℕ) → Small (digits width n)
digits_small zero n k = omega arith
digits_small (suc width) n zero = omega arith
digits_small (suc width) n (suc k) = digits_small width (n / 256) k

pub zeros_small : (n : ℕ) → Small (zeros n)
unfolding zeros
zeros_small zero k = lit< tt
zeros_small (suc n) zero = lit< tt
zeros_small (suc n) (suc k) = zeros_small n k

pub append_small : (xs ys : List ℕ) → Small xs → Small ys → Small (xs ++ ys)
append_small [] ys hx hy k = hy k
append_small (x ∷ xs) ys hx hy zero = hx 0
append_small (x ∷ xs) ys hx hy (suc k) = append_small xs ys (λ j. hx (suc j)) hy k

pub part_small : (bs : List ℕ) (from width : ℕ) → Small bs → Small (take width (drop from bs))
part_small bs from width small k =
    let part = take width (drop from bs) in
    let within : k < width → get_or part k 0 < 256 = λ lt. rw (get_or-take width (drop from bs) k 0 lt, get_or-drop from bs k 0) (small (from + k)) in
    let past : width ≤ k → get_or part k 0 < 256 = λ ge. rw (get_or_past part k 0 (simp length-take (omega arith))) (lit< tt) in
    ⊎_elim within past (cases_lt k width)

-- the digits of what bytes write are those bytes
pub digits_numeral : (bs : List ℕ) → Small bs → digits (length bs) (numeral bs) ≡ bs
digits_numeral [] small = refl
digits_numeral (b ∷ bs) small =
    let rest = digits_numeral bs (λ k. small (suc k)) in
    let low = small 0 in
    let m : (b + 256 * numeral bs) % 256 ≡ b = omega arith in
    let d : (b + 256 * numeral bs) / 256 ≡ numeral bs = omega arith in
    cc

-- bytes write a number that they have room for
pub numeral_below : (bs : List ℕ) → Small bs → numeral bs < 256 ^ length bs
numeral_below [] small = omega arith
numeral_below (b ∷ bs) small =
    let p : 256 ^ suc (length bs) ≡ 256 ^ length bs * 256 = pow-suc 256 (length bs) in
    let rest = numeral_below bs (λ k. small (suc k)) in
    let low = small 0 in
    omega arith

-- the bytes up to one place and from there up to another
pub take_between : (bs : List ℕ) (i j : ℕ) → i ≤ j → take j bs ≡ take i bs ++ between i j bs
take_between bs i j le =
    sym (ap (λ t. t ++ between i j bs) (sym (take-take i j bs le)) ∙ ap (λ t. take i (take j bs) ++ t) (between_is bs i j) ∙ take-append-drop i (take j bs))

-- the same of a part of some bytes
pub digits_field : (bs : List ℕ) (from to : ℕ) → Small bs → to ≤ length bs → digits (to - from) (field from to bs) ≡ between from to bs
digits_field bs from to small le =
    let width : length (between from to bs) ≡ to - from = simp (length-take, length-drop) (omega arith) in
    ap (λ w. digits w (field from to bs)) (sym width) ∙ digits_numeral (between from to bs) (part_small bs from (to - from) small)

-- the number that digits write is the one that they are of, if the width suffices
pub numeral_digits : (width n : ℕ) → n < 256 ^ width → numeral (digits width n) ≡ n
numeral_digits zero n lt = omega arith
numeral_digits (suc width) n lt =
    let p : 256 ^ suc width ≡ 256 ^ width * 256 = pow-suc 256 width in
    let rest = numeral_digits width (n / 256) (omega arith) in
    omega arith

pub numeral_zeros : (bs : List ℕ) (n : ℕ) → numeral (bs ++ zeros n) ≡ numeral bs
unfolding zeros
numeral_zeros [] zero = refl
numeral_zeros [] (suc n) = omega (arith, numeral_zeros [] n)
numeral_zeros (b ∷ bs) n = ap (λ m. b + 256 * m) (numeral_zeros bs n)

-- one digit more behind those that are written
pub write_turn : (field : List ℕ) (i size rest number : ℕ) → i < length field → length field ≡ size
    → take i field ++ digits (size - i) rest ≡ digits size number
    → take (i + 1) (set field i (rest % 256)) ++ digits (size - (i + 1)) (rest / 256) ≡ digits size number
write_turn field i size rest number lt len was =
    let left : size - i ≡ suc (size - (i + 1)) = omega arith in
    ap (λ t. t ++ digits (size - (i + 1)) (rest / 256)) (take_more_set field i (rest % 256) lt)
    ∙ append_assoc (take i field) (rest % 256 ∷ []) (digits (size - (i + 1)) (rest / 256))
    ∙ sym (ap (λ w. take i field ++ digits w rest) left)
    ∙ was

-- eight bytes, as `from_le_bytes` reads them
pub eight : (w : List ℕ) → length w ≡ 8
    → get_or w 0 0 + get_or w 1 0 * 256 + get_or w 2 0 * 65536 + get_or w 3 0 * 16777216 + get_or w 4 0 * 4294967296 + get_or w 5 0 * 1099511627776 + get_or w 6 0 * 281474976710656 + get_or w 7 0 * 72057594037927936 ≡ numeral w
eight w n =
    let a = drop_more w 0 0 (omega arith) in
    let b = drop_more w 1 0 (omega arith) in
    let c = drop_more w 2 0 (omega arith) in
    let d = drop_more w 3 0 (omega arith) in
    let e = drop_more w 4 0 (omega arith) in
    let f = drop_more w 5 0 (omega arith) in
    let g = drop_more w 6 0 (omega arith) in
    let h = drop_more w 7 0 (omega arith) in
    let z = drop_all 8 w (omega arith) in
    let all : w ≡ get_or w 0 0 ∷ get_or w 1 0 ∷ get_or w 2 0 ∷ get_or w 3 0 ∷ get_or w 4 0 ∷ get_or w 5 0 ∷ get_or w 6 0 ∷ get_or w 7 0 ∷ [] = cc in
    sym (ap numeral all ∙ omega arith)

pub written_all : (field : List ℕ) (i size rest number : ℕ) → length field ≡ size → size ≤ i
    → take i field ++ digits (size - i) rest ≡ digits size number → field ≡ digits size number
written_all field i size rest number len le was =
    let none : size - i ≡ 0 = omega arith in
    sym (ap (λ w. take i field ++ digits w rest) none ∙ append-nil (take i field) ∙ take_all i field (omega arith)) ∙ was

take_min : (xs : List ℕ) (n : ℕ) → take (min (length xs) n) xs ≡ take n xs
take_min xs n = same_lists _ _ (search (rules, places)) (λ k d h. grind (arith, places))

-- a field in front of zeros, eight bytes together, writes the field's number
pub read_wide : (field part : List ℕ) (width : ℕ) → width ≡ min (length field) 8 → part ≡ take width field
    → (length (part ++ drop width (zeros 8)) ≡ 8) × (numeral (part ++ drop width (zeros 8)) ≡ numeral (take 8 field))
unfolding zeros
read_wide field part width e p =
    let cut : drop width (zeros 8) ≡ zeros (8 - width) = drop-replicate width 8 0 in
    let same : take width field ≡ take 8 field = ap (λ n. take n field) e ∙ take_min field 8 in
    let size : length part ≡ width = ap length p ∙ simp length-take (omega arith) in (
      length-append part (drop width (zeros 8)) ∙ ap (λ z. length part + length z) cut ∙ ap (λ n. length part + n) (length-replicate (8 - width) 0) ∙ omega arith,
      ap (λ z. numeral (part ++ z)) cut ∙ numeral_zeros part (8 - width) ∙ ap numeral (p ∙ same),
    )
