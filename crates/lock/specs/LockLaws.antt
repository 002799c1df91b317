-- Each letter's map is its row of next states, packed; so its effect is the step.
use Rattle.std.specs.Prelude.{◌≡◌, ℕ, zero, suc, ◌^◌, ◌<◌, Bool, true, false, cond, List, [], ◌∷◌, ◌==◌, slice_index, refl}
use Rattle.std.proofs.Common.{sym, ap, subst, ◌∙◌, arith, rules}
use Rattle.std.specs.List.{AllByRecursion}
use Rattle.station.specs.Laws.{StationLaws, Agreement}
use Rattle.lock.specs.States.{lock_state}
use Rattle.lock.specs.Events.{good_marker, bad_marker, carrier_lost, stow, track, by_letter, next_states, next_state}
use Rattle.lock.specs.Maps.{image, packed, letter_map, lock_joins, lock_rules}
use Rattle.lock.specs.MapLaws.{image_small, image_of, image_joined, image_identity, packed_counts}

-- a row of next states, and its map
abbrev Row : List ℕ → ℕ → Type 0
Row states m = AllByRecursion (λ s. s < 8) states × (m ≡ packed (λ d. slice_index states d))

-- what relates each of the six to its fellow relates the two that a letter chooses
by_letters : {A B : Type 0} (P : A → B → Type 0) {g b l s t o : A} {g' b' l' s' t' o' : B} → P g g' → P b b' → P l l' → P s s' → P t t' → P o o'
    → (c : ℕ) → P (by_letter g b l s t o c) (by_letter g' b' l' s' t' o' c)
by_letters P {g} {b} {l} {s} {t} {o} {g'} {b'} {l'} {s'} {t'} {o'} pg pb pl ps pt po c = five (c == good_marker) (c == bad_marker) (c == carrier_lost) (c == stow) (c == track)
  where
    five : (k1 k2 k3 k4 k5 : Bool) → P (cond k1 g (cond k2 b (cond k3 l (cond k4 s (cond k5 t o))))) (cond k1 g' (cond k2 b' (cond k3 l' (cond k4 s' (cond k5 t' o')))))
    five true k2 k3 k4 k5 = pg
    five false true k3 k4 k5 = pb
    five false false true k4 k5 = pl
    five false false false true k5 = ps
    five false false false false true = pt
    five false false false false false = po

letter_row : (c : ℕ) → Row (next_states c) (letter_map c)
letter_row c =
    by_letters Row
    (search rules, refl) (search rules, refl) (search rules, refl) (search rules, refl) (search rules, refl) (search rules, refl) c

small_at : (states : List ℕ) (d : ℕ) → AllByRecursion (λ s. s < 8) states → slice_index states d < 8
small_at [] d all = omega arith
small_at (s ∷ states) zero all = all.0
small_at (s ∷ states) (suc d) all = small_at states d all.1

next_small : (c d : ℕ) → next_state c d < 8
next_small c d = small_at (next_states c) d (letter_row c).0

pub letter_steps : (c d : ℕ) → d < 8 → image (letter_map c) d ≡ next_state c d
letter_steps c d h = ap (λ m. image m d) (letter_row c).1 ∙ image_of (next_state c) d (λ j b. next_small c j) h

pub lock_steps : StationLaws lock_joins lock_rules
lock_steps = record {
  stepped_counts = λ d i hd hi. omega (arith, next_small i.letter d.number);
  of_item_counts = λ i hi. subst (λ m. m < 2 ^ 24) (sym (letter_row i.letter).1) (packed_counts (next_state i.letter) (λ j b. next_small i.letter j));
  effect_counts = λ x d hx hd. omega (arith, image_small x.bits d.number);
  item_steps = λ i d hi hd. ap lock_state (letter_steps i.letter d.number (omega arith));
}

pub lock_agrees : Agreement lock_joins lock_rules
lock_agrees = record {
  join = λ x y d hx hy hd. ap lock_state (image_joined x.bits y.bits d.number (omega arith));
  empty = λ d hd. ap lock_state (image_identity d.number (omega arith));
}
