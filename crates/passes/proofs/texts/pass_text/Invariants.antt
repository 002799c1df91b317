use Rattle.std.proofs.Common.{◌≡◌, ℕ, ◌≤◌, List, ◌++◌, length, take, Some, string_bytes}
use Rattle.passes.specs.Texts.{lines_from}
use Rattle.passes.proofs.texts.pass_text.Given as goal

abbrev pub invariant-loop-position : goal.invariant-loop-position
invariant-loop-position g l =
    (l.position ≤ length l.states)
    × ((text_of : g.row.D.Denot → List ℕ) → ((d : g.row.D.Denot) → g.D.Display.output d ≡ Some (text_of d))
    → string_bytes l.text ≡ string_bytes l.initial.text ++ lines_from text_of 0 (take l.position l.states))
