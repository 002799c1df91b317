-- The balance of counts: where no frame comes late, the frames that came and those that are missing, less the repeats,
-- lead from the first count to the last.
use Rattle.std.specs.Prelude.{◌≡◌, ℕ, ◌+◌, ◌%◌, List, [], ◌∷◌, length, Some, None, Option}
use Rattle.traces.specs.Entries.{Entry}
use Rattle.traces.specs.Traces.{items_of}
use Rattle.counts.specs.Counts.{count_state}
use Rattle.counts.specs.Tallies.{no_tallies}
use Rattle.counts.specs.declared.frames.FrameCount.{FrameCount}
use Rattle.counts.specs.declared.states.CountState.{CountState}

-- no frame seen, and nothing tallied
abbrev pub nothing_seen : CountState
nothing_seen = count_state None no_tallies

-- how many frames a trace holds: its entries that are not withdrawn
abbrev pub frames : List (Entry FrameCount) → ℕ
frames es = length (items_of es)

abbrev pub count_of_first : List FrameCount → Option ℕ
count_of_first [] = None
count_of_first (i ∷ is) = Some i.count

-- the count of a trace's first frame, if it holds one
abbrev pub first_count : List (Entry FrameCount) → Option ℕ
first_count es = count_of_first (items_of es)

-- A last count was seen, and frames + missing - repeats - 1 is last - first, modulo 2^14.
pub record Balanced (frames first : ℕ) (end : CountState) : Type 0 where
  pub last : ℕ
  pub seen : end.last ≡ Some last
  pub balance : (frames + end.tallies.missing + first) % 16384 ≡ (last + end.tallies.repeats + 1) % 16384

-- a trace and the state behind it: they balance where the trace holds a frame and none was late
abbrev pub Balances : List (Entry FrameCount) → CountState → Type 0
Balances es end = (first : ℕ) → first_count es ≡ Some first → end.tallies.late ≡ 0 → Balanced (frames es) first end
