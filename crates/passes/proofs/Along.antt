-- The states along the trace of a run, one more at the end.
use Rattle.std.proofs.Common.{◌≡◌, ℕ, ◌+◌, ◌<◌, ◌≤◌, List, [], ◌∷◌, ◌++◌, map, length, get_or, take, sym, ap, ◌∙◌, arith, None}
use Rattle.std.proofs.lemmas.List.{map_push, take_more, take_all}
use Rattle.station.specs.Laws.{Joins, Rules}
use Rattle.traces.specs.Lists.{fronts}
use Rattle.traces.specs.Traces.{ran, states_along}
use Rattle.traces.specs.Entries.{Entry}
use Rattle.traces.proofs.Fronts.{fronts_push}
use Rattle.run.specs.Calls.{AskLength, AskState, LengthIs, StateIs}
use Rattle.run.specs.Rules.{after}
use Rattle.run.specs.Serving.{Serves, Tells}
use Rattle.run.specs.Standing.{terms_of}
use Rattle.run.specs.declared.run.Run.{Run}
use Rattle.reports.proofs.Asked.{asked_state}

states_push : {S I D : Type 0} (k : Rules S I D) (d : D) (es : List (Entry I)) (e : Entry I)
    → states_along k d (es ++ (e ∷ [])) ≡ states_along k d es ++ (ran k d (es ++ (e ∷ [])) ∷ [])
states_push k d es e = ap (map (ran k d)) (fronts_push [] es e) ∙ map_push (ran k d) (fronts es) (es ++ (e ∷ []))

-- states that are those along the first entries of the trace behind a run, so many
abbrev pub AlongFirst : {S I D : Type 0} → Joins S → Rules S I D → Run S → D → ℕ → List D → Type 0
AlongFirst j k run start n states = Tells j k run (λ t. k.is_state start → states ≡ states_along k start (take n t.entries))

module _ {S I D : Type 0} {j : Joins S} {k : Rules S I D} where
  pub states_turn : (run : Run S) (start x : D) (i n m : ℕ) (before states : List D) → n ≡ i + 1 → m ≡ i + 1
      → AlongFirst j k run start i before
      → Serves j k (AskState n start) run run (StateIs x)
      → states ≡ before ++ (x ∷ [])
      → AlongFirst j k run start m states
  states_turn run start x i n m before states more then was serves pushed records given number calls met h =
      let es = (after j k (terms_of given number records) calls).entries in
      let asked = asked_state run n start x serves h records given number calls met in
      let within : i < length es = omega (arith, asked.0, more) in
      let front : take (i + 1) es ≡ take i es ++ (get_or es i None ∷ []) = take_more es i None within in
      pushed
      ∙ ap (λ l. l ++ (x ∷ [])) (was records given number calls met h)
      ∙ ap (λ y. states_along k start (take i es) ++ (y ∷ [])) (asked.1 ∙ ap (ran k start) (ap (λ c. take c es) more ∙ front))
      ∙ sym (ap (states_along k start) (ap (λ c. take c es) then ∙ front) ∙ states_push k start (take i es) (get_or es i None))

  pub states_end : (run : Run S) (start : D) (size n : ℕ) (states given_back : List D) → given_back ≡ states
      → AlongFirst j k run start n states
      → Serves j k AskLength run run (LengthIs size) → size ≤ n
      → Tells j k run (λ t. k.is_state start → given_back ≡ states_along k start t.entries)
  states_end run start size n states given_back same was serves past records given number calls met h =
      let es = (after j k (terms_of given number records) calls).entries in
      let answer = (serves records given number calls met tt).answer in
      let whole : size ≡ length es = cc in
      same ∙ was records given number calls met h ∙ ap (states_along k start) (take_all n es (omega arith))
