-- One more record behind those that are laid.
use Rattle.std.proofs.Common.{◌≡◌, ℕ, ◌+◌, ◌-◌, ◌*◌, ◌<◌, ◌≤◌, List, [], ◌++◌, length, get_or, take, sym, refl, ap, ◌∙◌, arith}
use Rattle.std.specs.List.{flat_map}
use lib.Seq.{paste}
use Rattle.std.proofs.lemmas.List.{take_more, length-append, flat_map_more}
use Rattle.byte_fields.specs.Unused.{zeros}
use Rattle.block.proofs.Frames.{put_over}

module _ {X : Type 0} (f : X → List ℕ) (whole : (x : X) → length (f x) ≡ 16) where
  laid_more : (xs : List X) (i : ℕ) (x : X) (part : List ℕ) → i < length xs → x ≡ get_or xs i x → part ≡ f x → flat_map f (take (i + 1) xs) ≡ flat_map f (take i xs) ++ part
  laid_more xs i x part lt read e =
      ap (flat_map f) (take_more xs i x lt) ∙ sym (flat_map_more f [] (take i xs) (get_or xs i x)) ∙ ap (λ y. flat_map f (take i xs) ++ f y) (sym read) ∙ ap (λ p. flat_map f (take i xs) ++ p) (sym e)

  pub laid_turn : (xs : List X) (i : ℕ) (now next : List ℕ) (x : X) (part : List ℕ) → i < length xs → length xs ≤ 31 → x ≡ get_or xs i x → part ≡ f x
      → length (flat_map f (take i xs)) ≡ 16 * i → now ≡ flat_map f (take i xs) ++ zeros (496 - 16 * i) → next ≡ paste now (16 * i) part (length part)
      → (length (flat_map f (take (i + 1) xs)) ≡ 16 * (i + 1)) × (next ≡ flat_map f (take (i + 1) xs) ++ zeros (496 - 16 * (i + 1)))
  unfolding zeros
  laid_turn xs i now next x part lt le read e size was put =
      let front = flat_map f (take i xs) in
      let width : length part ≡ 16 = ap length e ∙ whole x in
      let grown = laid_more xs i x part lt read e in
      let over : next ≡ (front ++ part) ++ zeros (496 - 16 * i - 0 - length part) =
      put ∙ ap (λ m. paste m (16 * i) part (length part)) was ∙ put_over front part 0 (496 - 16 * i) (16 * i) (length part) (omega arith) refl (omega arith) in
      let left : 496 - 16 * i - 0 - length part ≡ 496 - 16 * (i + 1) = omega arith in
      (ap length grown ∙ length-append front part ∙ omega arith, over ∙ ap (λ n. (front ++ part) ++ zeros n) left ∙ ap (λ l. l ++ zeros (496 - 16 * (i + 1))) (sym grown))
