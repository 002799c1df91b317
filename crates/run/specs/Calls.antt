-- The calls of a run and their answers.
use Rattle.std.specs.Prelude.{ℕ, List, Some, None, Ok, Err, Result}
use Rattle.station.specs.declared.refusals.Refusal.{Refusal}
use Rattle.traces.specs.Entries.{Entry}
use Rattle.loading.specs.declared.faults.LoadFault.{LoadFault}
use Rattle.run.specs.declared.tickets.Ticket.{Ticket}
use Rattle.run.specs.declared.tickets.Unsettled.{Unsettled}

-- A call with its arguments: items, positions, numbers of entries, the bytes of a block, the number on a ticket, a start.
pub data Call (I D : Type 0) : Type 0 where
  Append : I → Call I D
  Load : List ℕ → Call I D
  Replace : ℕ → I → Call I D
  Withdraw : ℕ → Call I D
  Cut : ℕ → Call I D
  Try : ℕ → I → Call I D
  Keep : ℕ → Call I D
  TakeBack : ℕ → Call I D
  AskLength : Call I D
  AskState : ℕ → D → Call I D
  AskStretch : ℕ → ℕ → Call I D

-- an entry put at a position: a replacement, or a withdrawal
abbrev pub put_call : {I D : Type 0} → ℕ → Entry I → Call I D
put_call p (Some i) = Replace p i
put_call p None = Withdraw p

-- What a call answers: a position, the number of records loaded, nothing, a ticket by its number, a length, a state or a
-- summary; or a refusal; or a load fault.
pub data Answer (S D : Type 0) : Type 0 where
  AtPosition : ℕ → Answer S D
  Loaded : ℕ → Answer S D
  Done : Answer S D
  Granted : ℕ → Answer S D
  LengthIs : ℕ → Answer S D
  StateIs : D → Answer S D
  SummaryIs : S → Answer S D
  Refused : Refusal → Answer S D
  NotLoaded : LoadFault → Answer S D

-- the answer that a result of the code stands for
abbrev pub answer_by : {S D X : Type 0} → (X → Answer S D) → Result X Refusal → Answer S D
answer_by f (Ok x) = f x
answer_by f (Err e) = Refused e

abbrev pub done : {S D : Type 0} → Unit {0} → Answer S D
done u = Done

abbrev pub ticket_granted : {S D : Type 0} → Ticket → Answer S D
ticket_granted t = Granted t.number

abbrev pub load_answer : {S D : Type 0} → Result ℕ LoadFault → Answer S D
load_answer (Ok n) = Loaded n
load_answer (Err f) = NotLoaded f

abbrev pub settle_answer : {S D : Type 0} → Result (Unit {0}) Unsettled → Answer S D
settle_answer (Ok u) = Done
settle_answer (Err e) = Refused e.refusal
