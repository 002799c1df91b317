-- The text of a report.
use Rattle.std.specs.Prelude.{ℕ, ◌+◌, List, [], ◌∷◌, ◌++◌, length, codes, decimal}
use Rattle.loading.specs.Faults.{fault_text}
use Rattle.recordings.specs.declared.faults.PassFault.{PassFault}

-- the line of one entry: its position, and the text of the state behind it
abbrev pub line_text : ℕ → List ℕ → List ℕ
line_text position state = decimal position ++ (codes " " ++ (state ++ codes "\n"))

-- the lines of the entries from a position on, by the states behind them
abbrev pub lines_from : {D : Type 0} → (D → List ℕ) → ℕ → List D → List ℕ
lines_from text_of position [] = []
lines_from text_of position (d ∷ ds) = line_text position (text_of d) ++ lines_from text_of (position + 1) ds

-- the first line: the kind's letter, and how many entries there are
abbrev pub head_text : List ℕ → ℕ → List ℕ
head_text letter count = codes "PASS " ++ (letter ++ (codes " " ++ (decimal count ++ codes "\n")))

-- a pass that was read whole
abbrev pub pass_text : {D : Type 0} → (D → List ℕ) → List ℕ → List D → List ℕ
pass_text text_of letter ds = head_text letter (length ds) ++ (lines_from text_of 0 ds ++ codes "END\n")

-- an input with no data block
abbrev pub empty_text : List ℕ
empty_text = codes "PASS - 0\nEND\n"

-- a pass that breaks off
abbrev pub break_text : PassFault → List ℕ
break_text f = codes "FAULT " ++ (decimal f.index ++ (codes " " ++ (fault_text f.fault ++ codes "\n")))
