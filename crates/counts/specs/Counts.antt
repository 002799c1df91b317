-- Frame counts.
use Rattle.std.specs.Prelude.{ℕ, ◌<◌, cond, List, ◌++◌, Some, None, Ok, Err, codes, decimal, Option, Result, nat_lt}
use Rattle.station.specs.Laws.{Joins, Rules}
use Rattle.station.specs.declared.refusals.Refusal.{Refusal}
use Rattle.station.specs.declared.refusals.Refusal.TheVariants.{ItemLimit, StateLimit}
use Rattle.counts.specs.Tallies.{tallied, no_tallies, TalliesCount, plus, between}
use Rattle.counts.specs.declared.tallies.Tallies.{Tallies}
use Rattle.counts.specs.declared.frames.FrameCount.{FrameCount}
use Rattle.counts.specs.declared.states.CountState.{CountState}
use Rattle.counts.specs.declared.summaries.Span.{Span}
use Rattle.counts.specs.declared.summaries.CountSummary.{CountSummary}

abbrev pub frame_count : ℕ → FrameCount
frame_count n = record { count = n }

abbrev pub count_state : Option ℕ → Tallies → CountState
count_state last t = record { last = last; tallies = t }

abbrev pub span : ℕ → ℕ → Tallies → Span
span first last t = record { first = first; last = last; tallies = t }

abbrev pub count_summary : Option Span → CountSummary
count_summary s = record { span = s }

abbrev pub made_frame_count : ℕ → Result FrameCount Refusal
made_frame_count n = cond (nat_lt n 16384) (Ok (frame_count n)) (Err ItemLimit)

abbrev pub made_count_state : Option ℕ → ℕ → ℕ → ℕ → Result CountState Refusal
made_count_state None missing repeats late = Ok (count_state None (tallied missing repeats late))
made_count_state (Some n) missing repeats late =
    cond (nat_lt n 16384) (Ok (count_state (Some n) (tallied missing repeats late))) (Err StateLimit)

abbrev pub span_numbers : Option Span → Option (ℕ × ℕ × ℕ × ℕ × ℕ)
span_numbers None = None
span_numbers (Some s) = Some (s.first, s.last, s.tallies.missing, s.tallies.repeats, s.tallies.late)

-- how a state is printed: a dash where no frame was seen
abbrev pub last_text : Option ℕ → List ℕ
last_text None = codes "-"
last_text (Some n) = decimal n

abbrev pub count_text : CountState → List ℕ
count_text d =
    last_text d.last ++ (codes " " ++ (decimal d.tallies.missing
    ++ (codes " " ++ (decimal d.tallies.repeats ++ (codes " " ++ decimal d.tallies.late)))))

-- the tallies once count n has come behind what was last seen; the first frame adds nothing
abbrev pub after : Option ℕ → Tallies → ℕ → Tallies
after None t n = t
after (Some last) t n = plus t (between last n)

-- The step: in every case n becomes the last count.
abbrev pub count_step : CountState → FrameCount → CountState
count_step d i = count_state (Some i.count) (after d.last d.tallies i.count)

abbrev pub LastCounts : Option ℕ → Type 0
LastCounts None = Unit {0}
LastCounts (Some n) = n < 16384

abbrev pub SpanCounts : Option Span → Type 0
SpanCounts None = Unit {0}
SpanCounts (Some s) = (s.first < 16384) × (s.last < 16384) × TalliesCount s.tallies

abbrev pub joined_spans : Option Span → Option Span → Option Span
joined_spans None y = y
joined_spans (Some x) None = Some x
joined_spans (Some x) (Some y) =
    Some (span x.first y.last (plus (plus x.tallies (between x.last y.first)) y.tallies))

abbrev pub span_effect : Option Span → CountState → CountState
span_effect None d = d
span_effect (Some s) d = count_state (Some s.last) (plus (after d.last d.tallies s.first) s.tallies)

abbrev pub count_joins : Joins CountSummary
count_joins = record {
  is_summary = λ x. SpanCounts x.span;
  empty = count_summary None;
  joined = λ x y. count_summary (joined_spans x.span y.span);
}

abbrev pub count_rules : Rules CountSummary FrameCount CountState
count_rules = record {
  is_item = λ i. i.count < 16384;
  is_state = λ d. LastCounts d.last × TalliesCount d.tallies;
  stepped = count_step;
  of_item = λ i. count_summary (Some (span i.count i.count no_tallies));
  effect = λ x d. span_effect x.span d;
}
