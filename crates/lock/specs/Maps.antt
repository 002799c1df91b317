-- Maps of the eight states in 24 bits: their effect, the join, and the map of one event.
use Rattle.std.specs.Prelude.{ℕ, zero, suc, ◌+◌, ◌*◌, ◌/◌, ◌%◌, ◌^◌, ◌<◌}
use Rattle.station.specs.Laws.{Joins, Rules}
use Rattle.lock.specs.declared.events.LockEvent.{LockEvent}
use Rattle.lock.specs.declared.states.LockState.{LockState}
use Rattle.lock.specs.declared.maps.LockMap.{LockMap}
use Rattle.lock.specs.States.{lock_state, IsLockState}
use Rattle.lock.specs.Events.{by_letter, IsLockEvent, stepped}

abbrev pub lock_map : ℕ → LockMap
lock_map m = record { bits = m }

abbrev pub IsLockMap : LockMap → Type 0
IsLockMap x = x.bits < 2 ^ 24

-- the image of state i stands in the bits 3i to 3i + 2
abbrev pub image : ℕ → ℕ → ℕ
image m i = m / 2 ^ (3 * i) % 8

-- f i, f (i + 1), .., n of them, three bits each, the first lowest
abbrev pub packed_from : (ℕ → ℕ) → ℕ → ℕ → ℕ
packed_from f i zero = 0
packed_from f i (suc n) = f i + 8 * packed_from f (suc i) n

-- the map that sends each state i to f i
abbrev pub packed : (ℕ → ℕ) → ℕ
packed f = packed_from f 0 8

abbrev pub through : ℕ → ℕ → ℕ → ℕ
through earlier later i = image later (image earlier i)

abbrev pub join_of : LockMap → LockMap → LockMap
join_of x y = lock_map (packed (through x.bits y.bits))

abbrev pub effect_of : LockMap → LockState → LockState
effect_of x d = lock_state (image x.bits d.number)

-- every state stays
abbrev pub identity : ℕ
identity = 0o76543210

abbrev pub letter_map : ℕ → ℕ
letter_map = by_letter 0o73333321 0o70654000 0o70000000 0o77777777 0o06543210 identity

abbrev pub map_of : LockEvent → LockMap
map_of i = lock_map (letter_map i.letter)

abbrev pub lock_joins : Joins LockMap
lock_joins = record { is_summary = IsLockMap; empty = lock_map identity; joined = join_of }

abbrev pub lock_rules : Rules LockMap LockEvent LockState
lock_rules = record { is_item = IsLockEvent; is_state = IsLockState; stepped = stepped; of_item = map_of; effect = effect_of }
