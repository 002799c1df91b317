-- The laws of the slotted buffer.
use Rattle.std.specs.Prelude.{◌≡◌, ℕ, ◌+◌, ◌-◌, ◌≤◌, min}
use Rattle.std.proofs.Common.{sym, ap, ◌∙◌, arith, rules}
use Rattle.station.specs.Laws.{JoinLaws, StationLaws, Agreement}
use Rattle.buffer.specs.Tallies.{wrapped, less}
use Rattle.buffer.specs.Steps.{buffer_state}
use Rattle.buffer.specs.Summaries.{queue_behind, bound_before, lost_of, buffer_summary, buffer_joins, buffer_rules}
use Rattle.buffer.specs.Clamps.{queue_joined, bound_joined, over_joined}

summary_eq : {a b c d e a' b' c' d' e' : ℕ} → a ≡ a' → b ≡ b' → c ≡ c' → d ≡ d' → e ≡ e' → buffer_summary a b c d e ≡ buffer_summary a' b' c' d' e'
summary_eq p q r s t = cc

state_eq : {a b c a' b' c' : ℕ} → a ≡ a' → b ≡ b' → c ≡ c' → buffer_state a b c ≡ buffer_state a' b' c'
state_eq p q r = cc

-- tallies, where two sums of what is lost are the same
k_same : (k₁ k₂ k₃ p q r s : ℕ) → p + q ≡ r + s
    → wrapped ((wrapped ((k₁ + k₂) + r) + k₃) + s) ≡ wrapped ((k₁ + wrapped ((k₂ + k₃) + p)) + q)
k_same k₁ k₂ k₃ p q r s h = omega arith

lost_same : (l k₁ k₂ p q r s : ℕ) → p + q ≡ r + s
    → wrapped (l + (wrapped ((k₁ + k₂) + p) + q)) ≡ wrapped (wrapped (l + (k₁ + r)) + (k₂ + s))
lost_same l k₁ k₂ p q r s h = omega arith

served_same : (d x m₁ m₂ k₁ k₂ y z p q r s : ℕ) → p + q ≡ r + s
    → less ((d + x) + wrapped (m₁ + m₂)) (z + (wrapped ((k₁ + k₂) + p) + q)) ≡ less ((less ((d + x) + m₁) (y + (k₁ + r)) + y) + m₂) (z + (k₂ + s))
served_same d x m₁ m₂ k₁ k₂ y z p q r s h = grind arith

m_same : (x y z : ℕ) → wrapped (wrapped (x + y) + z) ≡ wrapped (x + wrapped (y + z))
m_same x y z = omega arith

pub buffer_laws : JoinLaws buffer_joins
buffer_laws = record {
  empty_counts = search rules;
  joined_counts = λ x y hx hy. search rules;
  empty_left = λ x h. search rules;
  empty_right = λ x h. search rules;
  associative = λ x y z hx hy hz. summary_eq
      (bound_joined x.alpha x.theta x.g y.alpha y.theta y.g z.alpha hx.0 hy.0)
      (bound_joined x.alpha x.theta x.g y.alpha y.theta y.g z.theta hx.0 hy.0)
      (sym (queue_joined y.alpha y.theta y.g z.alpha z.theta z.g x.g hy.0 hz.0))
      (k_same x.k y.k z.k _ _ _ _ (over_joined y.alpha y.theta y.g z.theta x.g hy.0))
      (m_same x.m y.m z.m);
}

-- one slot of a arrivals, service c and limit b, from a queue x
slot_queue : (a c b x : ℕ) → queue_behind (min (b - a) (c - a)) (b - a) (min a b - c) x ≡ min b (x + a) - min c (min b (x + a))
slot_queue a c b x = grind arith

slot_lost : (a b x : ℕ) → lost_of (b - a) (a - b) x ≡ (x + a) - min b (x + a)
slot_lost a b x = omega arith

-- of x and a some t are kept and u lost, and of the kept c are served
slot_served : (d a x t u c : ℕ) → t ≤ x + a → c ≤ t → u ≡ (x + a) - t → less ((d + x) + a) ((t - c) + u) ≡ wrapped (d + c)
slot_served d a x t u c h k e = omega arith

slot_all : (a c b x d : ℕ) → less ((d + x) + a) (queue_behind (min (b - a) (c - a)) (b - a) (min a b - c) x + lost_of (b - a) (a - b) x) ≡ wrapped (d + min c (min b (x + a)))
slot_all a c b x d =
    ap (λ v. less ((d + x) + a) (v + lost_of (b - a) (a - b) x)) (slot_queue a c b x)
    ∙ slot_served d a x (min b (x + a)) (lost_of (b - a) (a - b) x) (min c (min b (x + a))) (omega arith) (omega arith) (slot_lost a b x)

pub buffer_steps : StationLaws buffer_joins buffer_rules
buffer_steps = record {
  stepped_counts = λ d i hd hi. search rules;
  of_item_counts = λ i h. search rules;
  effect_counts = λ x d hx hd. search rules;
  item_steps = λ i d hi hd. state_eq
      (slot_queue i.arrivals i.service i.limit d.queue)
      (ap (λ v. wrapped (d.lost + v)) (slot_lost i.arrivals i.limit d.queue))
      (slot_all i.arrivals i.service i.limit d.queue d.served);
}

pub buffer_agrees : Agreement buffer_joins buffer_rules
buffer_agrees = record {
  empty = λ d h. search rules;
  join = λ x y d hx hy hd.
      let queue = queue_joined x.alpha x.theta x.g y.alpha y.theta y.g d.queue hx.0 hy.0 in
      let over = over_joined x.alpha x.theta x.g y.theta d.queue hx.0 in
      state_eq queue
      (lost_same d.lost x.k y.k _ _ _ _ over)
      (ap (λ v. less ((d.served + d.queue) + wrapped (x.m + y.m)) (v + lost_of (bound_before x.alpha x.theta x.g y.theta) (wrapped ((x.k + y.k) + (x.g - y.theta))) d.queue)) queue
      ∙ served_same d.served d.queue x.m y.m x.k y.k _ _ _ _ _ _ over);
}
