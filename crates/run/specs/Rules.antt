-- The rules of the trace: what each call answers and makes of the trace. They know nothing of cells.
use Rattle.std.specs.Prelude.{ℕ, ◌+◌, Bool, cond, ◌&&◌, List, [], ◌∷◌, ◌++◌, map, length, take, Some, None, Ok, Err, Option, Result, ◌==◌, nat_le, nat_lt, slice_index_or, slice_range, slice_set}
use Rattle.station.specs.Laws.{Joins, Rules}
use Rattle.station.specs.Records.{Records}
use Rattle.station.specs.declared.refusals.Refusal.TheVariants.{TrialOpen, NoRoom, NoSuchPosition, NothingToSettle}
use Rattle.traces.specs.Traces.{ran, piece_summary}
use Rattle.traces.specs.Entries.{Entry}
use Rattle.block.specs.Reading.{read_of}
use Rattle.loading.specs.Faults.{load_fault}
use Rattle.loading.specs.Loading.{block_items}
use Rattle.loading.specs.declared.faults.LoadCause.TheVariants as cause
use Rattle.loading.specs.declared.faults.LoadFault.{LoadFault}
use Rattle.run.specs.Calls.{Call, Answer, Append, Load, Replace, Withdraw, Cut, Try, Keep, TakeBack, AskLength, AskState, AskStretch, AtPosition, Loaded, Done, Granted, LengthIs, StateIs, SummaryIs, Refused, NotLoaded}

-- an open trial: the place that is tried, and the entry that stood there
pub record Trial (I : Type 0) : Type 0 where
  pub place : ℕ
  pub old : Entry I

pub record Trace (I : Type 0) : Type 0 where
  pub entries : List (Entry I)
  pub tried : Option (Trial I)

abbrev pub trace : {I : Type 0} → List (Entry I) → Option (Trial I) → Trace I
trace es o = record { entries = es; tried = o }

abbrev pub empty_trace : {I : Type 0} → Trace I
empty_trace = trace [] None

-- What the answers hang on besides the calls: how many entries a run has room for, its number, and how records read. For
-- a kind that has no records any reader will do, since such a run has no load.
pub record Terms (I : Type 0) : Type 0 where
  pub room : ℕ
  pub number : ℕ
  pub records : Records I

-- What becomes of a call: it is granted, with an answer and the trace from then on, or refused, and the trace stays.
pub data Outcome (S I D : Type 0) : Type 0 where
  Grant : Answer S D → Trace I → Outcome S I D
  Refuse : Answer S D → Outcome S I D

abbrev pub answer_of : {S I D : Type 0} → Outcome S I D → Answer S D
answer_of (Grant a t) = a
answer_of (Refuse a) = a

abbrev pub trace_of : {S I D : Type 0} → Trace I → Outcome S I D → Trace I
trace_of t (Grant a u) = u
trace_of t (Refuse a) = t

-- refused while a trial is open; refused unless a test holds
abbrev pub unless_tried : {S I D : Type 0} → Option (Trial I) → Answer S D → Outcome S I D → Outcome S I D
unless_tried None a o = o
unless_tried (Some p) a o = Refuse a

abbrev pub provided : {S I D : Type 0} → Bool → Answer S D → Outcome S I D → Outcome S I D
provided test a o = cond test o (Refuse a)

-- an edit at a position
abbrev pub edited_at : {S I D : Type 0} → Trace I → ℕ → Outcome S I D → Outcome S I D
edited_at t p o = unless_tried t.tried (Refused TrialOpen) (provided (nat_lt p (length t.entries)) (Refused NoSuchPosition) o)

-- the end of a trial, by a ticket with a number
abbrev pub settled : {S I D : Type 0} → Option (Trial I) → ℕ → ℕ → (Trial I → Outcome S I D) → Outcome S I D
settled None number shown f = Refuse (Refused NothingToSettle)
settled (Some p) number shown f = provided (shown == number) (Refused NothingToSettle) (f p)

-- items appended, all or none
abbrev pub appended_all : {S I D : Type 0} → ℕ → Trace I → Result (List I) LoadFault → Outcome S I D
appended_all room t (Err f) = Refuse (NotLoaded f)
appended_all room t (Ok is) =
    provided (nat_le (length t.entries + length is) room) (NotLoaded (load_fault cause.NoRoom (length t.entries)))
    (Grant (Loaded (length is)) (trace (t.entries ++ map Some is) t.tried))

-- the entries from one position up to another
abbrev pub piece : {I : Type 0} → List (Entry I) → ℕ → ℕ → List (Entry I)
piece es from to = slice_range es from to

abbrev pub outcome : {S I D : Type 0} → Joins S → Rules S I D → Terms I → Trace I → Call I D → Outcome S I D
outcome j k w t (Append i) =
    unless_tried t.tried (Refused TrialOpen)
    (provided (nat_lt (length t.entries) w.room) (Refused NoRoom) (Grant (AtPosition (length t.entries)) (trace (t.entries ++ (Some i ∷ [])) t.tried)))
outcome j k w t (Load bs) =
    unless_tried t.tried (NotLoaded (load_fault cause.TrialOpen (length t.entries)))
    (appended_all w.room t (block_items w.records (length t.entries) (read_of bs)))
outcome j k w t (Replace p i) = edited_at t p (Grant Done (trace (slice_set t.entries p (Some i)) t.tried))
outcome j k w t (Withdraw p) = edited_at t p (Grant Done (trace (slice_set t.entries p None) t.tried))
outcome j k w t (Cut n) =
    unless_tried t.tried (Refused TrialOpen)
    (provided (nat_le n (length t.entries)) (Refused NoSuchPosition) (Grant Done (trace (take n t.entries) t.tried)))
outcome j k w t (Try p i) =
    edited_at t p (Grant (Granted w.number) (trace (slice_set t.entries p (Some i)) (Some (record { place = p; old = slice_index_or t.entries p None }))))
outcome j k w t (Keep shown) = settled t.tried w.number shown (λ p. Grant Done (trace t.entries None))
outcome j k w t (TakeBack shown) = settled t.tried w.number shown (λ p. Grant Done (trace (slice_set t.entries p.place p.old) None))
outcome j k w t AskLength = Grant (LengthIs (length t.entries)) t
outcome j k w t (AskState n d) = provided (nat_le n (length t.entries)) (Refused NoSuchPosition) (Grant (StateIs (ran k d (take n t.entries))) t)
outcome j k w t (AskStretch from to) =
    provided (nat_le from to && nat_le to (length t.entries)) (Refused NoSuchPosition) (Grant (SummaryIs (piece_summary j k (piece t.entries from to))) t)

-- the trace behind a list of calls, and the answer to one more
abbrev pub after_from : {S I D : Type 0} → Joins S → Rules S I D → Terms I → Trace I → List (Call I D) → Trace I
after_from j k w t [] = t
after_from j k w t (c ∷ cs) = after_from j k w (trace_of t (outcome j k w t c)) cs

abbrev pub after : {S I D : Type 0} → Joins S → Rules S I D → Terms I → List (Call I D) → Trace I
after j k w calls = after_from j k w empty_trace calls

abbrev pub answered : {S I D : Type 0} → Joins S → Rules S I D → Terms I → List (Call I D) → Call I D → Answer S D
answered j k w calls c = answer_of (outcome j k w (after j k w calls) c)
