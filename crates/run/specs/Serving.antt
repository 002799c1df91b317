-- What each call of a run promises: whatever the run has met before, the answer is the one that the rules of the trace
-- give, and the run has then met this call too.
use Rattle.std.specs.Prelude.{◌≡◌, ℕ, List, [], ◌∷◌, ◌++◌, Ok, Err, Result, OnErr}
use Rattle.station.specs.Laws.{Joins, Rules}
use Rattle.station.specs.Records.{Records}
use Rattle.station.specs.declared.refusals.Refusal.{Refusal}
use Rattle.traces.specs.Traces.{ran}
use Rattle.tree.specs.Answers.{places_of}
use Rattle.run.specs.Calls.{Call, Answer, Append, Load, Replace, Withdraw, Cut, Try, Keep, TakeBack, AskLength, AskState, AskStretch}
use Rattle.run.specs.Rules.{Trace, after, answered, piece}
use Rattle.run.specs.Standing.{CellsOf, Met, terms_of}
use Rattle.run.specs.declared.run.Run.{Run}

-- what a call is handed counts: its item, its start
abbrev pub CallCounts : {S I D : Type 0} → Rules S I D → Call I D → Type 0
CallCounts k (Append i) = k.is_item i
CallCounts k (Load bs) = Unit {0}
CallCounts k (Replace p i) = k.is_item i
CallCounts k (Withdraw p) = Unit {0}
CallCounts k (Cut n) = Unit {0}
CallCounts k (Try p i) = k.is_item i
CallCounts k (Keep shown) = Unit {0}
CallCounts k (TakeBack shown) = Unit {0}
CallCounts k AskLength = Unit {0}
CallCounts k (AskState n d) = k.is_state d
CallCounts k (AskStretch from to) = Unit {0}

pub record Served {S I D : Type 0} (j : Joins S) (k : Rules S I D) (records : Records I) (given : List S) (number : ℕ) (calls : List (Call I D)) (c : Call I D) (end : Run S) (a : Answer S D) : Type 0 where
  pub answer : a ≡ answered j k (terms_of given number records) calls c
  pub met : Met j k records given number (calls ++ (c ∷ [])) end

-- A call with one reader of records, and with any.
abbrev pub ServesBy : {S I D : Type 0} → Joins S → Rules S I D → Records I → Call I D → Run S → Run S → Answer S D → Type 0
ServesBy {S} {I} {D} j k records c before end a =
    (given : List S) (number : ℕ) (calls : List (Call I D)) → Met j k records given number calls before → CallCounts k c → Served j k records given number calls c end a

abbrev pub Serves : {S I D : Type 0} → Joins S → Rules S I D → Call I D → Run S → Run S → Answer S D → Type 0
Serves {S} {I} {D} j k c before end a = (records : Records I) → ServesBy j k records c before end a

-- What every call that may change a run keeps: all of it where the call is refused, and always the cells that it was given.
pub record Keeps {S X E : Type 0} (before end : Run S) (r : Result X E) : Type 0 where
  pub refused : OnErr r (end ≡ before)
  pub same : end.cells.ghost_name ≡ before.cells.ghost_name

-- A run that has met no call.
abbrev pub Opens : {S I D : Type 0} → Joins S → Rules S I D → List S → ℕ → Run S → Type 0
Opens {S} {I} {D} j k given number run = (records : Records I) → Met j k records given number [] run

-- What a run tells of the trace behind it, whatever it has met.
abbrev pub Tells : {S I D : Type 0} → Joins S → Rules S I D → Run S → (Trace I → Type 0) → Type 0
Tells {S} {I} {D} j k run P = (records : Records I) (given : List S) (number : ℕ) (calls : List (Call I D)) → Met j k records given number calls run → P (after j k (terms_of given number records) calls)

-- a summary whose effect on every state is the replay of some entries
abbrev pub StretchReplays : {S I D : Type 0} → Rules S I D → ℕ → ℕ → Result S Refusal → Trace I → Type 0
StretchReplays {S} {I} {D} k from to (Ok s) t = (d : D) → k.is_state d → k.effect s d ≡ ran k d (piece t.entries from to)
StretchReplays k from to (Err e) t = Unit {0}

-- cells that are those of the trace, and the only ones
abbrev pub OnlyCells : {S I D : Type 0} → Joins S → Rules S I D → Run S → List S → Type 0
OnlyCells {S} {I} {D} j k run cells =
    (records : Records I) (given : List S) (number : ℕ) (calls : List (Call I D)) → Met j k records given number calls run
    → CellsOf j k (places_of given) given (after j k (terms_of given number records) calls) cells
    × ((others : List S) → CellsOf j k (places_of given) given (after j k (terms_of given number records) calls) others → others ≡ cells)
