-- How a run and its cells stand for a trace.
use Rattle.std.specs.Prelude.{◌≡◌, ℕ, ◌+◌, ◌*◌, ◌<◌, ◌≤◌, cond, List, length, Some, None, Ok, Err, Option, Result, ◌==◌, nat_lt, slice_index_or}
use Rattle.std.specs.List.{AllByRecursion}
use Rattle.station.specs.Laws.{Joins, Rules}
use Rattle.station.specs.Records.{Records}
use Rattle.station.specs.declared.refusals.Refusal.{Refusal}
use Rattle.station.specs.declared.refusals.Refusal.TheVariants.{TrialOpen, NoSuchPosition}
use Rattle.traces.specs.Traces.{EntryCounts, summary_of}
use Rattle.traces.specs.Entries.{Entry}
use Rattle.tree.specs.Answers.{places_of}
use Rattle.tree.specs.Cells.{cell, Tree}
use Rattle.run.specs.Calls.{Call}
use Rattle.run.specs.Rules.{Trial, Trace, Terms, after}
use Rattle.run.specs.declared.run.Run.{Run}

-- the summary of the entry at a place, empty for a withdrawn or unused one
abbrev pub leaf_of : {S I D : Type 0} → Joins S → Rules S I D → List (Entry I) → ℕ → S
leaf_of j k es i = summary_of j k (slice_index_or es i None)

-- what cell 0 holds: the summary of the entry that a trial remembers, or the empty one
abbrev pub kept_of : {S I D : Type 0} → Joins S → Rules S I D → Option (Trial I) → S
kept_of j k None = j.empty
kept_of j k (Some p) = summary_of j k p.old

abbrev pub place_of : {I : Type 0} → Option (Trial I) → Option ℕ
place_of None = None
place_of (Some p) = Some p.place

-- a remembered entry counts, and its place is one of the trace
abbrev pub TrialCounts : {S I D : Type 0} → Rules S I D → ℕ → Option (Trial I) → Type 0
TrialCounts k size None = Unit {0}
TrialCounts k size (Some p) = (p.place < size) × EntryCounts k p.old

-- The cells of a trace, among so many, of which the tree has n places. Cells from 2n on are as they were given.
pub record CellsOf {S I D : Type 0} (j : Joins S) (k : Rules S I D) (n : ℕ) (given : List S) (t : Trace I) (cells : List S) : Type 0 where
  pub size : length cells ≡ length given
  pub kept : 0 < n → cell j cells 0 ≡ kept_of j k t.tried
  pub leaves : (i : ℕ) → i < n → cell j cells (n + i) ≡ leaf_of j k t.entries i
  pub tree : Tree j n cells
  pub past : (i : ℕ) → 2 * n ≤ i → cell j cells i ≡ cell j given i

-- A run stands for a trace: its fields and its cells are those of the trace, whose entries count and have room.
pub record Stands {S I D : Type 0} (j : Joins S) (k : Rules S I D) (given : List S) (w : Terms I) (t : Trace I) (run : Run S) : Type 0 where
  pub numbered : run.number ≡ w.number
  pub counted : run.length ≡ length t.entries
  pub trying : run.trial ≡ place_of t.tried
  pub cells : CellsOf j k w.room given t run.cells.now
  pub within : length t.entries ≤ w.room
  pub items : AllByRecursion (EntryCounts k) t.entries
  pub trials : TrialCounts k (length t.entries) t.tried

-- the answer of an edit before all else: refused while a trial is open
abbrev pub unless_open : Option ℕ → Result (Unit {0}) Refusal
unless_open None = Ok tt
unless_open (Some place) = Err TrialOpen

-- the same, and then a position without an entry
abbrev pub unless_uneditable : Option ℕ → ℕ → ℕ → Result (Unit {0}) Refusal
unless_uneditable None position size = cond (nat_lt position size) (Ok tt) (Err NoSuchPosition)
unless_uneditable (Some place) position size = Err TrialOpen

-- the place that a run tries, where a ticket with this number settles the trial
abbrev pub tried_by : {S : Type 0} → ℕ → Run S → Option ℕ
tried_by shown run = cond (shown == run.number) run.trial None

-- a trial is open that a ticket with this number settles, at a place that the cells have
pub record IsSettledBy {S : Type 0} (shown : ℕ) (run : Run S) : Type 0 where
  pub numbered : shown ≡ run.number
  pub place : ℕ
  pub tried : run.trial ≡ Some place
  pub held : place < places_of run.cells.now

-- the terms of a run with a number that was opened over some cells
abbrev pub terms_of : {S I : Type 0} → List S → ℕ → Records I → Terms I
terms_of given number records = record { room = places_of given; number = number; records = records }

-- a run that was opened over some cells, with a number, and has met a list of calls since
abbrev pub Met : {S I D : Type 0} → Joins S → Rules S I D → Records I → List S → ℕ → List (Call I D) → Run S → Type 0
Met j k records given number calls run = Stands j k given (terms_of given number records) (after j k (terms_of given number records) calls) run
