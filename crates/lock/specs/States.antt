-- The states: 0 seek, 1 and 2 check, 3 lock, 4 to 6 flywheel, 7 stowed.
use Rattle.std.specs.Prelude.{ℕ, ◌≤◌, cond, List, Ok, Err, decimal, Result, nat_le}
use Rattle.station.specs.declared.refusals.Refusal.{Refusal}
use Rattle.station.specs.declared.refusals.Refusal.TheVariants.{StateLimit}
use Rattle.lock.specs.declared.states.LockState.{LockState}

abbrev pub last_state : ℕ
last_state = 7

abbrev pub lock_state : ℕ → LockState
lock_state n = record { number = n }

abbrev pub IsLockState : LockState → Type 0
IsLockState d = d.number ≤ last_state

abbrev pub made_state : ℕ → Result LockState Refusal
made_state n = cond (nat_le n last_state) (Ok (lock_state n)) (Err StateLimit)

-- how a state is printed
abbrev pub state_text : LockState → List ℕ
state_text d = decimal d.number
