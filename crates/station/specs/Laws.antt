-- What summaries and stations are, and the laws that they keep.
use Rattle.std.specs.Prelude.{◌≡◌}

-- which values are summaries, the empty one, and the join of an earlier with a later
pub record Joins (S : Type 0) : Type 1 where
  pub is_summary : S → Type 0
  pub empty : S
  pub joined : S → S → S

-- Joins of summaries are summaries; the empty one on either side leaves the other; brackets do not matter.
pub record JoinLaws {S : Type 0} (j : Joins S) : Type 0 where
  pub empty_counts : j.is_summary j.empty
  pub joined_counts : (x y : S) → j.is_summary x → j.is_summary y → j.is_summary (j.joined x y)
  pub empty_left : (x : S) → j.is_summary x → j.joined j.empty x ≡ x
  pub empty_right : (x : S) → j.is_summary x → j.joined x j.empty ≡ x
  pub associative : (x y z : S) → j.is_summary x → j.is_summary y → j.is_summary z
      → j.joined (j.joined x y) z ≡ j.joined x (j.joined y z)

-- which values are items and states, the step, the summary of an item, and the effect of a summary on a state
pub record Rules (S I D : Type 0) : Type 1 where
  pub is_item : I → Type 0
  pub is_state : D → Type 0
  pub stepped : D → I → D
  pub of_item : I → S
  pub effect : S → D → D

-- Steps and effects lead from states to states, an item has a summary, and that summary's effect is the step.
pub record StationLaws {S I D : Type 0} (j : Joins S) (k : Rules S I D) : Type 0 where
  pub stepped_counts : (d : D) (i : I) → k.is_state d → k.is_item i → k.is_state (k.stepped d i)
  pub of_item_counts : (i : I) → k.is_item i → j.is_summary (k.of_item i)
  pub effect_counts : (x : S) (d : D) → j.is_summary x → k.is_state d → k.is_state (k.effect x d)
  pub item_steps : (i : I) (d : D) → k.is_item i → k.is_state d → k.effect (k.of_item i) d ≡ k.stepped d i

-- The effect of a join is the earlier effect followed by the later; the empty summary has no effect.
pub record Agreement {S I D : Type 0} (j : Joins S) (k : Rules S I D) : Type 0 where
  pub join : (x y : S) (d : D) → j.is_summary x → j.is_summary y → k.is_state d
      → k.effect (j.joined x y) d ≡ k.effect y (k.effect x d)
  pub empty : (d : D) → k.is_state d → k.effect j.empty d ≡ d

-- an answer that is the defined value, and counts
pub record Gives {A : Type 0} (counted : A → Type 0) (defined answer : A) : Type 0 where
  pub is : answer ≡ defined
  pub counts : counted answer
