-- The laws of frame counts.
use Rattle.std.specs.Prelude.{◌≡◌, ℕ, Some, None, Option, refl}
use Rattle.std.proofs.Common.{sym, ap, arith}
use Rattle.station.specs.Laws.{JoinLaws, StationLaws, Agreement}
use Rattle.counts.specs.declared.tallies.Tallies.{Tallies}
use Rattle.counts.specs.declared.states.CountState.{CountState}
use Rattle.counts.specs.declared.summaries.Span.{Span}
use Rattle.counts.specs.Tallies.{TalliesCount, plus, between}
use Rattle.counts.specs.Counts.{count_state, span, count_summary, after, SpanCounts, joined_spans, span_effect, count_joins, count_rules}
use Rattle.counts.specs.TallyLaws.{plus_none, plus_counts, plus_four, plus_five}

spans_count : (x y : Option Span) → SpanCounts x → SpanCounts y → SpanCounts (joined_spans x y)
spans_count None y hx hy = hy
spans_count (Some x) None hx hy = hx
spans_count (Some x) (Some y) hx hy = (hx.0, hy.1, plus_counts (plus x.tallies (between x.last y.first)) y.tallies)

spans_right : (x : Option Span) → joined_spans x None ≡ x
spans_right None = refl
spans_right (Some x) = refl

spans_assoc : (x y z : Option Span) → joined_spans (joined_spans x y) z ≡ joined_spans x (joined_spans y z)
spans_assoc None y z = refl
spans_assoc (Some x) None z = refl
spans_assoc (Some x) (Some y) None = refl
spans_assoc (Some x) (Some y) (Some z) =
    ap (λ t. Some (span x.first z.last t))
    (plus_five x.tallies (between x.last y.first) y.tallies (between y.last z.first) z.tallies)

pub count_laws : JoinLaws count_joins
count_laws = record {
  empty_counts = tt;
  joined_counts = λ x y hx hy. spans_count x.span y.span hx hy;
  empty_left = λ x h. refl;
  empty_right = λ x h. ap count_summary (spans_right x.span);
  associative = λ x y z hx hy hz. ap count_summary (spans_assoc x.span y.span z.span);
}

after_counts : (last : Option ℕ) (t : Tallies) (n : ℕ) → TalliesCount t → TalliesCount (after last t n)
after_counts None t n h = h
after_counts (Some last) t n h = plus_counts t (between last n)

effect_counts : (x : Option Span) (d : CountState) → SpanCounts x → count_rules.is_state d → count_rules.is_state (span_effect x d)
effect_counts None d hx hd = hd
effect_counts (Some x) d hx hd = (hx.1, plus_counts (after d.last d.tallies x.first) x.tallies)

pub count_steps : StationLaws count_joins count_rules
count_steps = record {
  stepped_counts = λ d i hd hi. (hi, after_counts d.last d.tallies i.count hd.1);
  of_item_counts = λ i h. (h, h, (omega arith, omega arith, omega arith));
  effect_counts = λ x d hx hd. effect_counts x.span d hx hd;
  item_steps = λ i d hi hd. ap (count_state (Some i.count)) (plus_none _ (after_counts d.last d.tallies i.count hd.1));
}

effect_joined : (x y : Option Span) (d : CountState) → span_effect (joined_spans x y) d ≡ span_effect y (span_effect x d)
effect_joined None y d = refl
effect_joined (Some x) None d = refl
effect_joined (Some x) (Some y) d =
    ap (count_state (Some y.last))
    (sym (plus_four (after d.last d.tallies x.first) x.tallies (between x.last y.first) y.tallies))

pub count_agrees : Agreement count_joins count_rules
count_agrees = record {
  join = λ x y d hx hy hd. effect_joined x.span y.span d;
  empty = λ d h. refl;
}
