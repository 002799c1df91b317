use Rattle.std.proofs.Common.{refl, arith}
use Rattle.counts.specs.Counts.{count_state, count_text}
use Rattle.counts.specs.Tallies.{no_tallies}
use Rattle.station.specs.Pairs.{pair}
use Rattle.std.specs.Prelude.{None}
use Rattle.server.specs.Server.{server_state, server_text}
use Rattle.tandem.specs.Tandem.{tandem_state, tandem_text}
use Rattle.buffer.specs.Steps.{buffer_state, state_text as buffer_text}
use Rattle.lock.specs.States.{lock_state, state_text as lock_text}
use Rattle.passes.specs.Reports.{text_beside}
use Rattle.passes.proofs.Told.{of_letter, paired}
use Rattle.passes.proofs.reporting.report_letter.Goals as goal

pub returns-in-F : goal.returns-in-F
returns-in-F g c = of_letter _ _ _ _ _ c.in-F.is (c.report_kind.ensures (server_state 0) server_text (λ d h. h) (λ d. refl) (omega arith))

pub returns-in-T : goal.returns-in-T
returns-in-T g c = of_letter _ _ _ _ _ c.in-T.is (c.report_kind-in-T.ensures (tandem_state 0 0) tandem_text (λ d h. h) (λ d. refl) (omega arith, omega arith))

pub returns-in-B : goal.returns-in-B
returns-in-B g c = of_letter _ _ _ _ _ c.in-B.is (c.report_kind-in-B.ensures (buffer_state 0 0 0) buffer_text (λ d h. h) (λ d. refl) (omega arith, omega arith, omega arith))

pub returns-in-S : goal.returns-in-S
returns-in-S g c = of_letter _ _ _ _ _ c.in-S.is (c.report_kind-in-S.ensures (lock_state 0) lock_text (λ d h. h) (λ d. refl) (omega arith))

pub returns-in-C : goal.returns-in-C
returns-in-C g c = of_letter _ _ _ _ _ c.in-C.is (c.report_kind-in-C.ensures (count_state None no_tallies) count_text (λ d h. h) (λ d. refl) (tt, (omega arith, omega arith, omega arith)))

pub returns-in-P : goal.returns-in-P
returns-in-P g c = of_letter _ _ _ _ _ c.in-P.is (c.report_kind-in-P.ensures (pair (count_state None no_tallies) (tandem_state 0 0)) (text_beside count_text tandem_text) (λ d h. paired d _ _ h.0 h.1) (λ d. refl) ((tt, (omega arith, omega arith, omega arith)), (omega arith, omega arith)))

pub returns-in-Q : goal.returns-in-Q
returns-in-Q g c = of_letter _ _ _ _ _ c.in-Q.is (c.report_kind-in-Q.ensures (pair (lock_state 0) (buffer_state 0 0 0)) (text_beside lock_text buffer_text) (λ d h. paired d _ _ h.0 h.1) (λ d. refl) (omega arith, (omega arith, omega arith, omega arith)))
