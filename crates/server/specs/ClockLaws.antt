-- The laws of the capped sum and of max, for any cap.
use Rattle.std.specs.Prelude.{◌≡◌, ℕ, ◌≤◌, max}
use Rattle.std.proofs.Common.{ap, ◌∙◌, arith}
use Rattle.server.specs.Clock.{capped_at}

pub max_assoc : (a b c : ℕ) → max (max a b) c ≡ max a (max b c)
max_assoc a b c = omega arith

pub max_left : (a b c : ℕ) → max a (max b c) ≡ max b (max a c)
max_left a b c = omega arith

pub le_left : (a b c : ℕ) → a ≤ b → a ≤ max b c
le_left a b c h = omega arith

pub le_right : (a b c : ℕ) → a ≤ c → a ≤ max b c
le_right a b c h = omega arith

pub max_le : (a b c : ℕ) → a ≤ c → b ≤ c → max a b ≤ c
max_le a b c h k = omega arith

pub same : (a : ℕ) → a ≤ a
same a = omega arith

module _ (cap : ℕ) where
  pub capped_assoc : (a b c : ℕ) → capped_at cap (capped_at cap a b) c ≡ capped_at cap a (capped_at cap b c)
  capped_assoc a b c = omega arith

  pub capped_max : (a b c : ℕ) → capped_at cap (max a b) c ≡ max (capped_at cap a c) (capped_at cap b c)
  capped_max a b c = omega arith

  pub max_capped : (a b c : ℕ) → capped_at cap c (max a b) ≡ max (capped_at cap c a) (capped_at cap c b)
  max_capped a b c = omega arith

  pub capped_mono : (a b c d : ℕ) → a ≤ c → b ≤ d → capped_at cap a b ≤ capped_at cap c d
  capped_mono a b c d h k = omega arith

  pub capped_top : (a b : ℕ) → capped_at cap a b ≤ cap
  capped_top a b = omega arith

  pub capped_above : (x y z : ℕ) → x ≤ cap → x ≤ capped_at cap (max x y) z
  capped_above x y z h = omega arith

  -- a time behind one summary of a server and then another
  pub through : (d q₁ p₁ p₂ q₂ : ℕ) → max (capped_at cap (max (capped_at cap d p₁) q₁) p₂) q₂ ≡ max (capped_at cap d (capped_at cap p₁ p₂)) (max (capped_at cap q₁ p₂) q₂)
  through d q₁ p₁ p₂ q₂ =
      ap (λ v. max v q₂) (capped_max (capped_at cap d p₁) q₁ p₂ ∙ ap (λ v. max v (capped_at cap q₁ p₂)) (capped_assoc d p₁ p₂))
      ∙ max_assoc (capped_at cap d (capped_at cap p₁ p₂)) (capped_at cap q₁ p₂) q₂
