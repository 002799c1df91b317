-- The lines of a report, one more at the end.
use Rattle.std.proofs.Common.{◌≡◌, ℕ, ◌+◌, ◌<◌, ◌≤◌, List, [], ◌∷◌, ◌++◌, length, get_or, take, sym, ap, ◌∙◌, arith}
use Rattle.std.proofs.lemmas.List.{append-nil, append_assoc, length-take-le, take_all}
use Rattle.traces.proofs.Fronts.{take_read}
use Rattle.passes.specs.Texts.{line_text, lines_from}

module _ {D : Type 0} (text_of : D → List ℕ) where
  lines_push : (position : ℕ) (ds : List D) (d : D)
      → lines_from text_of position (ds ++ (d ∷ [])) ≡ lines_from text_of position ds ++ line_text (position + length ds) (text_of d)
  lines_push position [] d =
      append-nil _ ∙ ap (λ p. line_text p (text_of d)) (omega arith)
  lines_push position (x ∷ ds) d =
      ap (λ ls. line_text position (text_of x) ++ ls) (lines_push (position + 1) ds d ∙ ap (λ p. lines_from text_of (position + 1) ds ++ line_text p (text_of d)) (omega arith))
      ∙ sym (append_assoc (line_text position (text_of x)) (lines_from text_of (position + 1) ds) _)

  pub lines_turn : (ds : List D) (i : ℕ) (d : D) (start before after : List ℕ) → i < length ds → d ≡ get_or ds i d
      → before ≡ start ++ lines_from text_of 0 (take i ds)
      → after ≡ before ++ line_text i (text_of d)
      → after ≡ start ++ lines_from text_of 0 (take (i + 1) ds)
  lines_turn ds i d start before after within read was added =
      let at : 0 + length (take i ds) ≡ i = omega (arith, length-take-le i ds (omega arith)) in
      added
      ∙ ap (λ b. b ++ line_text i (text_of d)) was
      ∙ append_assoc start (lines_from text_of 0 (take i ds)) (line_text i (text_of d))
      ∙ ap (λ p. start ++ (lines_from text_of 0 (take i ds) ++ line_text p (text_of d))) (sym at)
      ∙ ap (λ ls. start ++ ls) (sym (ap (lines_from text_of 0) (take_read ds i d within read) ∙ lines_push 0 (take i ds) d))

  -- the head, all lines and the end, one behind another
  pub lines_end : (ds : List D) (i : ℕ) (head end start before after : List ℕ) → length ds ≤ i → start ≡ head
      → before ≡ start ++ lines_from text_of 0 (take i ds)
      → after ≡ before ++ end
      → after ≡ head ++ (lines_from text_of 0 ds ++ end)
  lines_end ds i head end start before after past begun was added =
      added
      ∙ ap (λ b. b ++ end) (was ∙ ap (λ s. s ++ lines_from text_of 0 (take i ds)) begun ∙ ap (λ l. head ++ lines_from text_of 0 l) (take_all i ds past))
      ∙ append_assoc head (lines_from text_of 0 ds) end
