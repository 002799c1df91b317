-- States written along the prefixes of a trace.
use Rattle.std.specs.Prelude.{◌≡◌, ℕ, cond, List, ◌++◌, map, length, take, drop, Ok, Err, Result, nat_le}
use Rattle.std.specs.List.{AllByRecursion}
use Rattle.traces.specs.Entries.{Entry}
use Rattle.station.specs.Laws.{Joins, Rules}
use Rattle.station.specs.declared.refusals.Refusal.{Refusal}
use Rattle.station.specs.declared.refusals.Refusal.TheVariants.{ShortMemory}
use Rattle.traces.specs.Lists.{prefixes}
use Rattle.traces.specs.Traces.{EntryCounts, summary_of, states_along}

-- the answer for so many prefixes and so many places for states
abbrev pub spread_answer : ℕ → ℕ → Result (Unit {0}) Refusal
spread_answer prefixes places = cond (nat_le prefixes places) (Ok tt) (Err ShortMemory)

-- Memory before and after: place k holds the effect of summary k on the start, and later places are as before. Where the
-- summaries are the prefixes of a trace, place k holds the state that the replay reaches behind entry k.
pub record Spreads {S I D : Type 0} (j : Joins S) (k : Rules S I D) (start : D) (sums : List S) (before after : List D) : Type 0 where
  pub later : drop (length sums) after ≡ drop (length sums) before
  pub effects : k.is_state start → AllByRecursion j.is_summary sums → after ≡ map (λ p. k.effect p start) sums ++ drop (length sums) before
  pub counts : k.is_state start → AllByRecursion j.is_summary sums → AllByRecursion k.is_state (take (length sums) after)
  pub replays : k.is_state start → (trace : List (Entry I)) → AllByRecursion (EntryCounts k) trace → sums ≡ prefixes j (map (summary_of j k) trace)
      → take (length sums) after ≡ states_along k start trace
