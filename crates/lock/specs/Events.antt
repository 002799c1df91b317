-- The five letters, and the step: the next state of every state, by the letter.
use Rattle.std.specs.Prelude.{ℕ, Bool, cond, ◌||◌, T, List, [], ◌∷◌, Ok, Err, Result, ◌==◌, slice_index}
use Rattle.station.specs.declared.refusals.Refusal.{Refusal}
use Rattle.station.specs.declared.refusals.Refusal.TheVariants.{ItemLimit}
use Rattle.lock.specs.declared.events.LockEvent.{LockEvent}
use Rattle.lock.specs.declared.states.LockState.{LockState}
use Rattle.lock.specs.States.{lock_state}

-- G
abbrev pub good_marker : ℕ
good_marker = 71

-- B
abbrev pub bad_marker : ℕ
bad_marker = 66

-- L
abbrev pub carrier_lost : ℕ
carrier_lost = 76

-- S
abbrev pub stow : ℕ
stow = 83

-- T
abbrev pub track : ℕ
track = 84

abbrev pub is_letter : ℕ → Bool
is_letter c = c == good_marker || (c == bad_marker || (c == carrier_lost || (c == stow || c == track)))

-- one of six by the letter: G, B, L, S, T, any other
abbrev pub by_letter : {A : Type 0} → A → A → A → A → A → A → ℕ → A
by_letter g b l s t other c =
    cond (c == good_marker) g (cond (c == bad_marker) b (cond (c == carrier_lost) l (cond (c == stow) s (cond (c == track) t other))))

abbrev pub lock_event : ℕ → LockEvent
lock_event c = record { letter = c }

abbrev pub IsLockEvent : LockEvent → Type 0
IsLockEvent i = T (is_letter i.letter)

abbrev pub made_event : ℕ → Result LockEvent Refusal
made_event c = cond (is_letter c) (Ok (lock_event c)) (Err ItemLimit)

-- the next states of the states 0 to 7; any other letter, which no event has, would change none
abbrev pub next_states : ℕ → List ℕ
next_states =
    by_letter
    (1 ∷ 2 ∷ 3 ∷ 3 ∷ 3 ∷ 3 ∷ 3 ∷ 7 ∷ [])
    (0 ∷ 0 ∷ 0 ∷ 4 ∷ 5 ∷ 6 ∷ 0 ∷ 7 ∷ [])
    (0 ∷ 0 ∷ 0 ∷ 0 ∷ 0 ∷ 0 ∷ 0 ∷ 7 ∷ [])
    (7 ∷ 7 ∷ 7 ∷ 7 ∷ 7 ∷ 7 ∷ 7 ∷ 7 ∷ [])
    (0 ∷ 1 ∷ 2 ∷ 3 ∷ 4 ∷ 5 ∷ 6 ∷ 0 ∷ [])
    (0 ∷ 1 ∷ 2 ∷ 3 ∷ 4 ∷ 5 ∷ 6 ∷ 7 ∷ [])

abbrev pub next_state : ℕ → ℕ → ℕ
next_state c d = slice_index (next_states c) d

abbrev pub stepped : LockState → LockEvent → LockState
stepped d i = lock_state (next_state i.letter d.number)
