-- `capacity` is the largest power of two of which the cells hold twice as many, and nothing else is.
use Rattle.std.proofs.Common.{◌≡◌, ℕ, zero, suc, min, ◌*◌, ◌/◌, ◌^◌, ◌<◌, ◌≤◌, leb, ◌⊎◌, refl, inl, inr, ⊎_elim, pow-suc, arith, pow_pos, pow_mono}
use Rattle.std.proofs.lemmas.Bool.{cases_lt, cond_both, leb-true, leb-false}
use Rattle.tree.specs.Capacity.{CapacityUpTo, IsCapacity, capacity_from, capacity}

-- a power of two below another is at most half of it
half : (a b : ℕ) → 2 ^ a < 2 ^ b → 2 * 2 ^ a ≤ 2 ^ b
half a b h = grind (arith, pow-suc 2 a, pow_mono {i = suc a} {j = b}, pow_mono {i = b} {j = a})

-- where twice the power found would be too much, it is the largest
largest : (most cells n k : ℕ) → n ≡ 2 ^ k → (most ≤ n) ⊎ (cells < 2 * (2 * n)) → (m : ℕ) → 2 * 2 ^ m ≤ cells → 2 ^ m ≤ most → 2 ^ m ≤ n
largest most cells n k is h m a b = grind (arith, half k m)

pub few_cells : (most cells : ℕ) → cells < 2 → CapacityUpTo most cells 0
few_cells most cells few = grind arith

one_room : (cells n k : ℕ) → 2 ≤ cells → n ≡ 2 ^ k → 2 * n ≤ cells → (most : ℕ) → n ≤ most → (most ≤ n) ⊎ (cells < 2 * (2 * n)) → CapacityUpTo most cells n
one_room cells n k two is held most small top = record {
  none = λ h. omega arith;
  power = λ h. (k, is);
  held = held;
  small = small;
  largest = λ h. largest most cells n k is top;
}

from_room : (k cells : ℕ) → CapacityUpTo (2 ^ k) cells (capacity_from k cells)
unfolding capacity_from
from_room zero cells =
    cond_both (leb 2 cells) 1 0 (λ n. CapacityUpTo (2 ^ 0) cells n)
    (λ e. let two = leb-true 2 cells e in one_room cells 1 0 two refl (omega arith) (2 ^ 0) (omega arith) (inl (omega arith)))
    (λ e. few_cells (2 ^ 0) cells (leb-false 2 cells e))
from_room (suc k) cells =
    cond_both (leb (2 * 2 ^ suc k) cells) (2 ^ suc k) (capacity_from k cells) (λ n. CapacityUpTo (2 ^ suc k) cells n)
    (λ e. let fit = leb-true (2 * 2 ^ suc k) cells e in one_room cells (2 ^ suc k) (suc k) (omega (arith, pow_pos (suc k))) refl fit (2 ^ suc k) (omega arith) (inl (omega arith)))
    (λ e.
    let over = leb-false (2 * 2 ^ suc k) cells e in
    let below = from_room k cells in
    let double = pow-suc 2 k in
    record {
      none = below.none;
      power = below.power;
      held = below.held;
      small = (let s = below.small in omega arith);
      largest = λ h m a b. below.largest h m a (grind (arith, half k m));
    })

pub capacity_room : (cells : ℕ) → IsCapacity cells (capacity cells)
unfolding capacity
capacity_room cells = from_room 12 cells

room_le : (cells n m : ℕ) → IsCapacity cells n → IsCapacity cells m → n ≤ m
room_le cells n m a b = grind arith

pub is_capacity : (cells n : ℕ) → IsCapacity cells n → n ≡ capacity cells
is_capacity cells n a = grind (arith, room_le cells n (capacity cells) a (capacity_room cells), room_le cells (capacity cells) n (capacity_room cells) a)

-- from the power of two that a logarithm gives
pub power_room : (cells n k : ℕ) → 2 ^ k ≤ cells / 2 → cells / 2 < 2 * 2 ^ k → n ≡ min 4096 (2 ^ k) → IsCapacity cells n
power_room cells n k fit next is =
    let pos = pow_pos k in
    ⊎_elim (λ (l : 2 ^ k < 4096). one_room cells n k (omega arith) (omega arith) (omega arith) 4096 (omega arith) (inr (omega arith)))
    (λ (o : 4096 ≤ 2 ^ k). one_room cells n 12 (omega arith) (omega arith) (omega arith) 4096 (omega arith) (inl (omega arith))) (cases_lt (2 ^ k) 4096)
