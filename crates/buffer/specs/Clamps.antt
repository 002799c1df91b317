-- One clamp behind another is a clamp: the queue behind two summaries, and a bound before them, over plain numbers.
use Rattle.std.proofs.Common.{⊎_elim, sym, ap, ◌∙◌, arith}
use Rattle.std.specs.Prelude.{◌≡◌, ℕ, ◌+◌, ◌-◌, ◌≤◌, min}
use Rattle.std.proofs.lemmas.Bool.{cases_lt}
use Rattle.buffer.specs.Summaries.{queue_behind, bound_before}

-- n numbers from a on, carried to those from b on; below them b, above them b + n
abbrev carried : ℕ → ℕ → ℕ → ℕ → ℕ
carried n a b x = b + min n (x - a)

carried_eq : {n a b n' a' b' : ℕ} (x : ℕ) → n ≡ n' → a ≡ a' → b ≡ b' → carried n a b x ≡ carried n' a' b' x
carried_eq x p q r = cc

queue_is : (α θ g x : ℕ) → α ≤ θ → queue_behind α θ g x ≡ carried (θ - α) α g x
queue_is α θ g x h = omega arith

-- the way back, with α and g in each other's place
bound_is : (α θ g p : ℕ) → α ≤ θ → bound_before α θ g p ≡ carried (θ - α) g α p
bound_is α θ g p h = omega arith

bound_le : (α θ g p q : ℕ) → p ≤ q → bound_before α θ g p ≤ bound_before α θ g q
bound_le α θ g p q h = omega arith

-- how many of the n numbers from b on are among the m from a on
abbrev common : ℕ → ℕ → ℕ → ℕ → ℕ
common n b m a = min n ((a + m) - b) - min n (a - b)

-- m numbers of those that n numbers are carried to, where the m begin d above the n, and where they begin d below
cut_above : (m n u d : ℕ) → min m (min n u - d) ≡ min (min n (d + m) - min n d) (u - min n d)
cut_above m n u d = grind arith

cut_below : (m n u d : ℕ) → min m (d + min n u) ≡ min m d + min (min n (m - d)) u
cut_below m n u d = grind arith

-- the same with the numbers as two carries have them
begun_above : (n m b u d v w s t : ℕ) → v ≡ min n u - d → w ≡ 0 → s ≡ d + m → t ≡ u - min n d
    → b + min m v ≡ (b + w) + min (min n s - min n d) t
begun_above n m b u d v w s t hv hw hs ht =
    let e = cut_above m n u d in
    let z : b + w ≡ b = omega arith in
    cc

begun_below : (n m b u d v s k t : ℕ) → v ≡ d + min n u → s ≡ m - d → k ≡ 0 → t ≡ u
    → b + min m v ≡ (b + min m d) + min (min n s - k) t
begun_below n m b u d v s k t hv hs hk ht =
    let e = cut_below m n u d in
    let z : min n s - k ≡ min n s = omega arith in
    let a : b + (min m d + min (min n (m - d)) u) ≡ (b + min m d) + min (min n (m - d)) u = omega arith in
    cc

less_plus : (x a k : ℕ) → x - (a + k) ≡ (x - a) - k
less_plus x a k = omega arith

carried_carried : (n m a₁ b₁ a₂ b₂ x : ℕ)
    → carried m a₂ b₂ (carried n a₁ b₁ x) ≡ carried (common n b₁ m a₂) (carried n b₁ a₁ a₂) (carried m a₂ b₂ b₁) x
carried_carried n m a₁ b₁ a₂ b₂ x =
    ⊎_elim
    (λ h. begun_above n m b₂ (x - a₁) (a₂ - b₁) _ _ _ _ (omega arith) (omega arith) (omega arith) (less_plus x a₁ (min n (a₂ - b₁))))
    (λ h. begun_below n m b₂ (x - a₁) (b₁ - a₂) _ _ _ _ (omega arith) (omega arith) (omega arith) (omega arith))
    (cases_lt b₁ a₂)

common_same : (n b m a : ℕ) → common n b m a ≡ common m a n b
common_same n b m a = grind arith

less_less : (x y a : ℕ) → (a + x) - (a + y) ≡ x - y
less_less x y a = omega arith

-- how far the joined bounds lie apart
apart : (α₁ θ₁ g₁ α₂ θ₂ : ℕ) → α₁ ≤ θ₁ → α₂ ≤ θ₂ → bound_before α₁ θ₁ g₁ θ₂ - bound_before α₁ θ₁ g₁ α₂ ≡ common (θ₁ - α₁) g₁ (θ₂ - α₂) α₂
apart α₁ θ₁ g₁ α₂ θ₂ h k =
    let n = θ₁ - α₁ in
    ap (λ x. x - bound_before α₁ θ₁ g₁ α₂) (bound_is α₁ θ₁ g₁ θ₂ h)
    ∙ ap (λ x. carried n g₁ α₁ θ₂ - x) (bound_is α₁ θ₁ g₁ α₂ h)
    ∙ less_less (min n (θ₂ - g₁)) (min n (α₂ - g₁)) α₁
    ∙ ap (λ x. min n (x - g₁) - min n (α₂ - g₁)) (omega arith)

-- The queue behind a join is the queue behind the later, from the queue behind the earlier.
pub queue_joined : (α₁ θ₁ g₁ α₂ θ₂ g₂ x : ℕ) → α₁ ≤ θ₁ → α₂ ≤ θ₂
    → queue_behind (bound_before α₁ θ₁ g₁ α₂) (bound_before α₁ θ₁ g₁ θ₂) (queue_behind α₂ θ₂ g₂ g₁) x ≡ queue_behind α₂ θ₂ g₂ (queue_behind α₁ θ₁ g₁ x)
queue_joined α₁ θ₁ g₁ α₂ θ₂ g₂ x h k =
    queue_is _ _ _ x (bound_le α₁ θ₁ g₁ α₂ θ₂ k)
    ∙ carried_eq x (apart α₁ θ₁ g₁ α₂ θ₂ h k) (bound_is α₁ θ₁ g₁ α₂ h) (queue_is α₂ θ₂ g₂ g₁ k)
    ∙ sym (carried_carried (θ₁ - α₁) (θ₂ - α₂) α₁ g₁ α₂ g₂ x)
    ∙ sym (queue_is α₂ θ₂ g₂ _ k)
    ∙ ap (queue_behind α₂ θ₂ g₂) (sym (queue_is α₁ θ₁ g₁ x h))

-- The bound before a join is the bound before the earlier, of the bound before the later.
pub bound_joined : (α₁ θ₁ g₁ α₂ θ₂ g₂ p : ℕ) → α₁ ≤ θ₁ → α₂ ≤ θ₂
    → bound_before (bound_before α₁ θ₁ g₁ α₂) (bound_before α₁ θ₁ g₁ θ₂) (queue_behind α₂ θ₂ g₂ g₁) p ≡ bound_before α₁ θ₁ g₁ (bound_before α₂ θ₂ g₂ p)
bound_joined α₁ θ₁ g₁ α₂ θ₂ g₂ p h k =
    bound_is _ _ _ p (bound_le α₁ θ₁ g₁ α₂ θ₂ k)
    ∙ carried_eq p (apart α₁ θ₁ g₁ α₂ θ₂ h k ∙ common_same (θ₁ - α₁) g₁ (θ₂ - α₂) α₂) (queue_is α₂ θ₂ g₂ g₁ k) (bound_is α₁ θ₁ g₁ α₂ h)
    ∙ sym (carried_carried (θ₂ - α₂) (θ₁ - α₁) g₂ α₂ g₁ α₁ p)
    ∙ sym (bound_is α₁ θ₁ g₁ _ h)
    ∙ ap (bound_before α₁ θ₁ g₁) (sym (bound_is α₂ θ₂ g₂ p k))

over : (g t n u : ℕ) → (g - t) + (u - min n (t - g)) ≡ (u - n) + ((g + min n u) - t)
over g t n u = grind arith

-- What a join loses, but for the two k, is what the earlier loses and what the later loses of the queue behind the earlier.
pub over_joined : (α₁ θ₁ g₁ θ₂ x : ℕ) → α₁ ≤ θ₁ → (g₁ - θ₂) + (x - bound_before α₁ θ₁ g₁ θ₂) ≡ (x - θ₁) + (queue_behind α₁ θ₁ g₁ x - θ₂)
over_joined α₁ θ₁ g₁ θ₂ x h =
    let above : x - θ₁ ≡ (x - α₁) - (θ₁ - α₁) = omega arith in
    let bound = bound_is α₁ θ₁ g₁ θ₂ h in
    let queue = queue_is α₁ θ₁ g₁ x h in
    let rest = less_plus x α₁ (min (θ₁ - α₁) (θ₂ - g₁)) in
    let lost = over g₁ θ₂ (θ₁ - α₁) (x - α₁) in
    cc
