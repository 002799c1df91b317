-- Maps of eight states, packed into bits and joined.
use Rattle.std.specs.Prelude.{◌≡◌, ℕ, zero, suc, ◌+◌, ◌-◌, ◌*◌, ◌/◌, ◌%◌, ◌^◌, ◌<◌, ◌≤◌, refl}
use Rattle.std.proofs.Common.{sym, ap, ◌∙◌, arith, pow-suc, shr-shr, rules}
use Rattle.std.proofs.Math.Nat.{pow-le-pow_right}
use Rattle.station.specs.Laws.{JoinLaws}
use Rattle.lock.specs.Maps.{image, packed_from, packed, through, identity, lock_map, lock_joins}

pub image_small : (m i : ℕ) → image m i < 8
image_small m i = omega arith

image_first : (m : ℕ) → image m 0 ≡ m % 8
image_first m = omega arith

-- the image of a later state is one in the map without its lowest digit
image_next : (m i : ℕ) → image m (suc i) ≡ image (m / 8) i
image_next m i =
    ap (λ n. n % 8) (ap (λ k. m / 2 ^ k) (omega arith) ∙ sym (shr-shr m 3 (3 * i)))

-- the image of i under what was packed is f of it
image_packed : (f : ℕ → ℕ) (k n i : ℕ) → ((j : ℕ) → j < k + n → f j < 8) → i < n → image (packed_from f k n) i ≡ f (k + i)
image_packed f k zero i small h = absurd (omega arith)
image_packed f k (suc n) zero small h =
    image_first (f k + 8 * packed_from f (suc k) n) ∙ low (f k) (packed_from f (suc k) n) (small k (omega arith)) ∙ ap f (omega arith)
  where
    low : (a p : ℕ) → a < 8 → (a + 8 * p) % 8 ≡ a
    low a p h = omega arith
image_packed f k (suc n) (suc i) small h =
    image_next (f k + 8 * packed_from f (suc k) n) i
    ∙ ap (λ m. image m i) (high (f k) (packed_from f (suc k) n) (small k (omega arith)))
    ∙ image_packed f (suc k) n i (λ j b. small j (omega arith)) (omega arith)
    ∙ ap f (omega arith)
  where
    high : (a p : ℕ) → a < 8 → (a + 8 * p) / 8 ≡ p
    high a p h = omega arith

-- what is packed depends on the images alone
packed_same : (f g : ℕ → ℕ) (k n : ℕ) → ((j : ℕ) → j < k + n → f j ≡ g j) → packed_from f k n ≡ packed_from g k n
packed_same f g k zero same = refl
packed_same f g k (suc n) same =
    let here = same k (omega arith) in
    let rest = packed_same f g (suc k) n (λ j b. same j (omega arith)) in
    cc

packed_below : (f : ℕ → ℕ) (k n : ℕ) → ((j : ℕ) → j < k + n → f j < 8) → packed_from f k n < 8 ^ n
packed_below f k zero small = omega arith
packed_below f k (suc n) small =
    omega (arith, pow-suc 8 n, small k (omega arith), packed_below f (suc k) n (λ j b. small j (omega arith)))

-- a map's images, packed, are the map
packed_images : (m k n : ℕ) → m / 2 ^ (3 * k) < 8 ^ n → packed_from (image m) k n ≡ m / 2 ^ (3 * k)
packed_images m k zero h = omega arith
packed_images m k (suc n) h =
    let less : m / 2 ^ (3 * suc k) ≡ m / 2 ^ (3 * k) / 8 = ap (λ j. m / 2 ^ j) (omega arith) ∙ sym (shr-shr m (3 * k) 3) in
    let rest : packed_from (image m) (suc k) n ≡ m / 2 ^ (3 * suc k) = packed_images m (suc k) n (omega (arith, pow-suc 8 n)) in
    ap (λ p. image m k + 8 * p) (rest ∙ less) ∙ back (m / 2 ^ (3 * k))
  where
    back : (a : ℕ) → a % 8 + 8 * (a / 8) ≡ a
    back a = omega arith

-- `compose` sets the digits from the highest down: while one is left, there is room for it.
pub compose_room : (x y state : ℕ) → 0 < state → packed_from (through x y) state (8 - state) < 2 ^ 21
compose_room x y state h =
    let grows : 8 ^ (8 - state) ≤ 8 ^ 7 = (let le : 8 - state ≤ 7 = omega arith in pow-le-pow_right (omega arith) le) in
    omega (arith, packed_below (through x y) state (8 - state) (λ j _. image_small y (image x j)))

-- The digit of the next state goes below those that are set,
pub compose_turn : (x y i m between end : ℕ) → i < 8 → between ≡ image x (7 - i) → end ≡ image y between
    → m ≡ packed_from (through x y) (8 - i) i → m * 8 + end ≡ packed_from (through x y) (8 - (i + 1)) (i + 1)
compose_turn x y i m between end h first second is = search rules

-- and behind the last turn all eight are set.
pub compose_all : (x y i m : ℕ) → i ≡ 8 → m ≡ packed_from (through x y) (8 - i) i → m ≡ packed (through x y)
compose_all x y i m h is = rw h at is

-- the same of all eight states
pub image_of : (f : ℕ → ℕ) (i : ℕ) → ((j : ℕ) → j < 8 → f j < 8) → i < 8 → image (packed f) i ≡ f i
image_of f i small h = image_packed f 0 8 i small h ∙ ap f (omega arith)

packed_of : (f g : ℕ → ℕ) → ((j : ℕ) → j < 8 → f j ≡ g j) → packed f ≡ packed g
packed_of f g same = packed_same f g 0 8 same

pub packed_counts : (f : ℕ → ℕ) → ((j : ℕ) → j < 8 → f j < 8) → packed f < 2 ^ 24
packed_counts f small = packed_below f 0 8 small

packed_back : (m : ℕ) → m < 2 ^ 24 → packed (image m) ≡ m
packed_back m h = packed_images m 0 8 (omega arith) ∙ omega arith

pub image_joined : (x y i : ℕ) → i < 8 → image (packed (through x y)) i ≡ through x y i
image_joined x y i h = image_of (through x y) i (λ j b. image_small y (image x j)) h

pub image_identity : (i : ℕ) → i < 8 → image identity i ≡ i
image_identity i h = image_of (λ j. j) i (λ j b. b) h

pub map_laws : JoinLaws lock_joins
map_laws = record {
  empty_counts = omega arith;
  joined_counts = λ x y hx hy. packed_counts (through x.bits y.bits) (λ j b. image_small y.bits (image x.bits j));
  empty_left = λ x hx. ap lock_map (packed_of (through identity x.bits) (image x.bits) (λ j b. ap (image x.bits) (image_identity j b)) ∙ packed_back x.bits hx);
  empty_right = λ x hx. ap lock_map (packed_of (through x.bits identity) (image x.bits) (λ j b. image_identity (image x.bits j) (image_small x.bits j)) ∙ packed_back x.bits hx);
  associative = λ x y z hx hy hz. ap lock_map (packed_of
      (through (packed (through x.bits y.bits)) z.bits) (through x.bits (packed (through y.bits z.bits)))
      (λ j b. ap (image z.bits) (image_joined x.bits y.bits j b)
      ∙ sym (image_joined y.bits z.bits (image x.bits j) (image_small x.bits j))));
}
