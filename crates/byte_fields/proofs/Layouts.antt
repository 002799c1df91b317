-- A record from one place on: a field and what is behind it, or unused bytes up to its end.
use Rattle.std.proofs.Common.{◌≡◌, ℕ, ◌-◌, ◌^◌, ◌<◌, ◌≤◌, List, ◌++◌, length, drop, None, sym, ap, ◌∙◌, subst, arith}
use Rattle.std.specs.List.{between}
use Rattle.std.proofs.lemmas.List.{take-append-drop, drop-drop, take_all, length-take, length-drop}
use Rattle.byte_fields.specs.Numbers.{digits, field}
use Rattle.byte_fields.specs.Unused.{zeros, first_used}
use Rattle.byte_fields.proofs.NumberLaws.{Small, digits_field, numeral_below, part_small}
use Rattle.byte_fields.proofs.Zeros.{unused_zeros}

pub field_first : (bs : List ℕ) (from to : ℕ) → Small bs → from ≤ to → to ≤ length bs
    → drop from bs ≡ digits (to - from) (field from to bs) ++ drop to bs
field_first bs from to small le long =
    let on : drop (to - from) (drop from bs) ≡ drop to bs = drop-drop (to - from) from bs ∙ ap (λ n. drop n bs) (omega arith) in
    sym (take-append-drop (to - from) (drop from bs))
    ∙ ap (λ r. between from to bs ++ r) on
    ∙ ap (λ f. f ++ drop to bs) (sym (digits_field bs from to small long))

pub unused_last : (bs : List ℕ) (from : ℕ) → length bs ≡ 16 → first_used (between from 16 bs) ≡ None → drop from bs ≡ zeros (16 - from)
unused_last bs from whole unused =
    let size : length (drop from bs) ≡ 16 - from = length-drop from bs ∙ ap (λ n. n - from) whole in
    let part : between from 16 bs ≡ drop from bs = take_all (16 - from) (drop from bs) (omega arith) in
    sym part ∙ unused_zeros (between from 16 bs) unused ∙ ap zeros (ap length part ∙ size)

-- a field's number is one that its bytes have room for
pub field_below : (bs : List ℕ) (from to : ℕ) → Small bs → to ≤ length bs → field from to bs < 256 ^ (to - from)
field_below bs from to small long =
    let width : length (between from to bs) ≡ to - from = simp (length-take, length-drop) (omega arith) in
    subst (λ w. field from to bs < 256 ^ w) width (numeral_below (between from to bs) (part_small bs from (to - from) small))
