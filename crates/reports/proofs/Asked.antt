-- What a run's answer to a question tells of its trace.
use Rattle.std.proofs.Common.{◌≡◌, ℕ, ◌≤◌, Bool, true, false, leb, length, take, refl, arith}
use Rattle.std.proofs.lemmas.Bool.{leb-true}
use Rattle.station.specs.Laws.{Joins, Rules}
use Rattle.station.specs.declared.refusals.Refusal.{Refusal}
use Rattle.traces.specs.Traces.{ran}
use Rattle.run.specs.Calls.{Answer, AskState, StateIs, Refused}
use Rattle.run.specs.Rules.{Trace, Grant, answer_of, provided}
use Rattle.run.specs.Serving.{Serves, Tells}
use Rattle.run.specs.declared.run.Run.{Run}

granted : {S I D : Type 0} (test : Bool) (e : Refusal) (defined answer : D) (t : Trace I)
    → ◌≡◌ {A = Answer S D} (StateIs answer) (answer_of {S = S} {I = I} {D = D} (provided test (Refused e) (Grant (StateIs defined) t)))
    → (test ≡ true) × (answer ≡ defined)
granted true e defined answer t p = (refl, cc)
granted false e defined answer t p = let z : ◌≡◌ {A = ℕ} 0 1 = cc in absurd (omega arith)

-- a state that is answered is the replay of that many entries, and there are as many
pub asked_state : {S I D : Type 0} {j : Joins S} {k : Rules S I D} (run : Run S) (n : ℕ) (start answer : D)
    → Serves j k (AskState n start) run run (StateIs answer) → k.is_state start
    → Tells j k run (λ t. (n ≤ length t.entries) × (answer ≡ ran k start (take n t.entries)))
asked_state run n start answer serves h records given number calls met =
    let g = granted (leb n _) _ _ answer _ (serves records given number calls met h).answer in
    (leb-true n _ g.0, g.1)
