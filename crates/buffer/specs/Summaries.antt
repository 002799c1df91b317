-- Summaries of stretches of slots: their effect, the join, and the summary of one slot. A difference here stops at 0.
use Rattle.std.specs.Prelude.{ℕ, ◌+◌, ◌-◌, ◌<◌, ◌≤◌, min, max}
use Rattle.station.specs.Laws.{Joins, Rules}
use Rattle.buffer.specs.declared.slots.Slot.{Slot}
use Rattle.buffer.specs.declared.states.BufferState.{BufferState}
use Rattle.buffer.specs.declared.summaries.BufferSummary.{BufferSummary}
use Rattle.buffer.specs.Tallies.{queue_limit, tally_modulus, wrapped, less}
use Rattle.buffer.specs.Steps.{IsSlot, IsBufferState, stepped}

abbrev pub buffer_summary : ℕ → ℕ → ℕ → ℕ → ℕ → BufferSummary
buffer_summary α θ g k m = record { alpha = α; theta = θ; g = g; k = k; m = m }

abbrev pub IsBufferSummary : BufferSummary → Type 0
IsBufferSummary s =
    (s.alpha ≤ s.theta) × (s.theta ≤ queue_limit) × ((s.g + s.theta) - s.alpha ≤ queue_limit)
    × (s.k < tally_modulus) × (s.m < tally_modulus)

-- x held in l..h
abbrev pub held : ℕ → ℕ → ℕ → ℕ
held l h x = max l (min x h)

-- the queue y that a queue x becomes
abbrev pub queue_behind : ℕ → ℕ → ℕ → ℕ → ℕ
queue_behind α θ g x = (g + held α θ x) - α

-- the number w that is lost from a queue x on, not yet modulo 2^32
abbrev pub lost_of : ℕ → ℕ → ℕ → ℕ
lost_of θ k x = k + (x - θ)

-- m arrive, y are left and w are lost: what is no longer there and not lost was served
abbrev pub changed : BufferState → ℕ → ℕ → ℕ → BufferState
changed d m y w = record {
  queue = y;
  lost = wrapped (d.lost + w);
  served = less ((d.served + d.queue) + m) (y + w);
}

abbrev pub effect_of : BufferSummary → BufferState → BufferState
effect_of s d = changed d s.m
    (queue_behind s.alpha s.theta s.g d.queue)
    (lost_of s.theta s.k d.queue)

-- one slot
abbrev pub of_slot : Slot → BufferSummary
of_slot i = record {
  alpha = min (i.limit - i.arrivals) (i.service - i.arrivals);
  theta = i.limit - i.arrivals;
  g = min i.arrivals i.limit - i.service;
  k = i.arrivals - i.limit;
  m = i.arrivals;
}

-- α + p - g held in α..θ: the queue that becomes p, if one does. Below 0 the difference would be held at α, as 0 is
abbrev pub bound_before : ℕ → ℕ → ℕ → ℕ → ℕ
bound_before α θ g p = held α θ ((α + p) - g)

-- the earlier s, and then the later t
abbrev pub join_of : BufferSummary → BufferSummary → BufferSummary
join_of s t = record {
  alpha = bound_before s.alpha s.theta s.g t.alpha;
  theta = bound_before s.alpha s.theta s.g t.theta;
  g = queue_behind t.alpha t.theta t.g s.g;
  k = wrapped ((s.k + t.k) + (s.g - t.theta));
  m = wrapped (s.m + t.m);
}

abbrev pub buffer_joins : Joins BufferSummary
buffer_joins = record { is_summary = IsBufferSummary; empty = buffer_summary 0 queue_limit 0 0 0; joined = join_of }

abbrev pub buffer_rules : Rules BufferSummary Slot BufferState
buffer_rules = record { is_item = IsSlot; is_state = IsBufferState; stepped = stepped; of_item = of_slot; effect = effect_of }
