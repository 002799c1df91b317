-- Slots, states, and the step from one state to the next. A difference here stops at 0.
use Rattle.std.specs.Prelude.{ℕ, ◌+◌, ◌-◌, ◌<◌, ◌≤◌, min, List, ◌++◌, codes, decimal}
use Rattle.buffer.specs.declared.slots.Slot.{Slot}
use Rattle.buffer.specs.declared.states.BufferState.{BufferState}
use Rattle.buffer.specs.Tallies.{queue_limit, tally_modulus, wrapped}

abbrev pub slot : ℕ → ℕ → ℕ → Slot
slot a c b = record { arrivals = a; service = c; limit = b }

abbrev pub buffer_state : ℕ → ℕ → ℕ → BufferState
buffer_state x l s = record { queue = x; lost = l; served = s }

abbrev pub IsSlot : Slot → Type 0
IsSlot i = (i.arrivals ≤ queue_limit) × (i.service ≤ queue_limit) × (i.limit ≤ queue_limit)

abbrev pub IsBufferState : BufferState → Type 0
IsBufferState d = (d.queue ≤ queue_limit) × (d.lost < tally_modulus) × (d.served < tally_modulus)

-- what a buffer that holds x keeps of x and the arrivals
abbrev pub kept_of : Slot → ℕ → ℕ
kept_of i x = min i.limit (x + i.arrivals)

-- and what it then serves
abbrev pub served_of : Slot → ℕ → ℕ
served_of i x = min i.service (kept_of i x)

abbrev pub stepped : BufferState → Slot → BufferState
stepped d i = record {
  queue = kept_of i d.queue - served_of i d.queue;
  lost = wrapped (d.lost + ((d.queue + i.arrivals) - kept_of i d.queue));
  served = wrapped (d.served + served_of i d.queue);
}

-- how a state is printed
abbrev pub state_text : BufferState → List ℕ
state_text d = decimal d.queue ++ (codes " " ++ (decimal d.lost ++ (codes " " ++ decimal d.served)))
