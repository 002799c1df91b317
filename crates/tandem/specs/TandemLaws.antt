-- The laws of two servers in tandem.
use Rattle.std.specs.Prelude.{◌≡◌, ℕ, ◌≤◌, max}
use Rattle.std.proofs.Common.{sym, ap, ◌∙◌, arith}
use Rattle.station.specs.Laws.{JoinLaws, StationLaws, Agreement}
use Rattle.server.specs.Clock.{clock_end, capped_at}
use Rattle.tandem.specs.Tandem.{tandem_state, tandem_summary, tandem_joins, tandem_rules}
use Rattle.server.specs.ClockLaws.{max_assoc, max_left, le_left, le_right, max_le, same, capped_assoc, capped_max, max_capped, capped_mono, capped_top, capped_above, through}

module _ (cap : ℕ) where
  -- the ways from the first server to the second through two stretches and a third
  between : (p₁ r₁ p₂ r₂ t₂ r₃ t₃ : ℕ)
      → max (capped_at cap (capped_at cap p₁ p₂) r₃) (capped_at cap (max (capped_at cap p₁ r₂) (capped_at cap r₁ t₂)) t₃)
      ≡ max (capped_at cap p₁ (max (capped_at cap p₂ r₃) (capped_at cap r₂ t₃))) (capped_at cap r₁ (capped_at cap t₂ t₃))
  between p₁ r₁ p₂ r₂ t₂ r₃ t₃ =
      simp (max_capped cap, capped_max cap, capped_assoc cap, max_assoc)

  -- the second server's time behind one summary and then another
  behind : (a b q₁ u₁ p₁ r₁ t₁ r₂ t₂ u₂ : ℕ)
      → max (max (capped_at cap (max (capped_at cap a p₁) q₁) r₂) (capped_at cap (max (max (capped_at cap a r₁) (capped_at cap b t₁)) u₁) t₂)) u₂
      ≡ max (max (capped_at cap a (max (capped_at cap p₁ r₂) (capped_at cap r₁ t₂))) (capped_at cap b (capped_at cap t₁ t₂))) (max (max (capped_at cap q₁ r₂) (capped_at cap u₁ t₂)) u₂)
  behind a b q₁ u₁ p₁ r₁ t₁ r₂ t₂ u₂ =
      let plus = capped_at cap in
      simp (max_capped cap, capped_max cap, capped_assoc cap, max_assoc)
      (ap (max (plus a (plus p₁ r₂)))
      (max_left (plus q₁ r₂) (plus a (plus r₁ t₂)) (max (plus b (plus t₁ t₂)) (max (plus u₁ t₂) u₂))
      ∙ ap (max (plus a (plus r₁ t₂))) (max_left (plus q₁ r₂) (plus b (plus t₁ t₂)) (max (plus u₁ t₂) u₂))))

  turned : (a b c : ℕ) → max b (max c a) ≡ max a (max b c)
  turned a b c = omega arith

  -- the second server's time behind one job
  lone : (n f a s₁ s₂ : ℕ)
      → max (max (capped_at cap n (capped_at cap s₁ s₂)) (capped_at cap f s₂)) (capped_at cap (capped_at cap a s₁) s₂)
      ≡ capped_at cap (max (capped_at cap (max a n) s₁) f) s₂
  lone n f a s₁ s₂ =
      let plus = capped_at cap in
      simp (capped_max cap, capped_assoc cap, max_assoc) (turned (plus a (plus s₁ s₂)) (plus n (plus s₁ s₂)) (plus f s₂))

summary_eq : {p q r t u p' q' r' t' u' : ℕ} → p ≡ p' → q ≡ q' → r ≡ r' → t ≡ t' → u ≡ u' → tandem_summary p q r t u ≡ tandem_summary p' q' r' t' u'
summary_eq a b c d e = cc

state_eq : {a b a' b' : ℕ} → a ≡ a' → b ≡ b' → tandem_state a b ≡ tandem_state a' b'
state_eq e h = cc

mono : (a b c d : ℕ) → a ≤ c → b ≤ d → capped_at clock_end a b ≤ capped_at clock_end c d
mono a b c d h k = capped_mono clock_end a b c d h k

pub tandem_laws : JoinLaws tandem_joins
tandem_laws = record {
  empty_counts = (omega arith, omega arith, omega arith, omega arith, omega arith, omega arith);
  joined_counts = λ x y hx hy. (
    le_left _ _ _ (mono x.p y.p x.q y.p hx.0 (same _)),
    le_left _ _ _ (mono x.p y.p x.p y.r (same _) hy.1),
    le_right _ _ _ (mono x.t y.t x.r y.t hx.2 (same _)),
    max_le _ _ _ (le_left _ _ _ (le_left _ _ _ (mono x.q y.p x.q y.r (same _) hy.1))) (le_right _ _ _ hy.3),
    max_le _ _ _ (le_left _ _ _ (le_left _ _ _ (mono x.p y.r x.q y.r hx.0 (same _)))) (le_left _ _ _ (le_right _ _ _ (mono x.r y.t x.u y.t hx.4 (same _)))),
    max_le _ _ _ (max_le _ _ _ (capped_top clock_end x.q y.r) (capped_top clock_end x.u y.t)) hy.5,
  );
  empty_left = λ x h. summary_eq (omega arith) (omega arith) (omega arith) (omega arith) (omega arith);
  empty_right = λ x h. summary_eq (omega arith) (omega arith) (omega arith) (omega arith) (omega arith);
  associative = λ x y z hx hy hz.
      summary_eq (capped_assoc clock_end x.p y.p z.p) (through clock_end x.q y.q y.p z.p z.q) (between clock_end x.p x.r y.p y.r y.t z.r z.t)
      (capped_assoc clock_end x.t y.t z.t) (behind clock_end x.q x.u y.q y.u y.p y.r y.t z.r z.t z.u);
}

pub tandem_steps : StationLaws tandem_joins tandem_rules
tandem_steps = record {
  stepped_counts = λ d i hd hi. (
    capped_above clock_end _ _ _ (capped_top clock_end (max i.arrival d.first) i.first),
    capped_top clock_end (max (capped_at clock_end (max i.arrival d.first) i.first) d.second) i.second,
  );
  of_item_counts = λ i h. (omega arith, omega arith, omega arith, omega arith, omega arith, omega arith);
  effect_counts = λ x d hx hd. (
    max_le _ _ _ (le_left _ _ _ (le_left _ _ _ (mono d.first x.p d.first x.r (same _) hx.1))) (le_right _ _ _ hx.3),
    max_le _ _ _ (max_le _ _ _ (capped_top clock_end d.first x.r) (capped_top clock_end d.second x.t)) hx.5,
  );
  item_steps = λ i d hi hd. state_eq (omega arith) (lone clock_end d.first d.second i.arrival i.first i.second);
}

pub tandem_agrees : Agreement tandem_joins tandem_rules
tandem_agrees = record {
  join = λ x y d hx hy hd.
      state_eq (sym (through clock_end d.first x.q x.p y.p y.q)) (sym (behind clock_end d.first d.second x.q x.u x.p x.r x.t y.r y.t y.u));
  empty = λ d h. state_eq (omega arith) (omega arith);
}
