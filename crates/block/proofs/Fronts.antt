-- What a writer answers, and what it leaves in the memory, by the block in front.
use Rattle.std.proofs.Common.{◌≡◌, ℕ, ◌≤◌, List, ◌++◌, length, drop, Ok, Err, Result, sym, ap, ◌∙◌}
use Rattle.std.specs.Array.{IsFirstChunk}
use Rattle.std.proofs.lemmas.List.{take-append-drop}
use Rattle.std.proofs.lemmas.Bool.{cond-false, le-ltb}
use Rattle.byte_fields.proofs.NumberLaws.{Small}
use Rattle.block.specs.declared.faults.WriteFault.{WriteFault}
use Rattle.block.specs.declared.heads.Head.{Head}
use Rattle.block.specs.Heads.{content_size}
use Rattle.block.specs.Layout.{Held, framed}
use Rattle.block.specs.Reading.{held_by}
use Rattle.block.specs.Writing.{Writes}
use Rattle.block.proofs.Back.{block_held, front_back}

pub refused : (fit : Result (Unit {0}) WriteFault) (h : Held) (memory front : List ℕ) (e : WriteFault) → IsFirstChunk memory front 512 → fit ≡ Err e
    → Writes fit h memory (front ++ drop 512 memory) (Err e)
refused fit h memory front e f p = record {
  is = sym (cond-false _ _ _ (le-ltb (length memory) 512 f.enough) ∙ p);
  memory = ap (λ x. x ++ drop 512 memory) f.same ∙ take-append-drop 512 memory;
  back = λ q. absurd cc;
}

pub written : (fit : Result (Unit {0}) WriteFault) (h : Head) (t memory front block : List ℕ) → IsFirstChunk memory front 512 → fit ≡ Ok tt → block ≡ framed h t
    → length t ≡ content_size h → content_size h ≤ 496 → Small (block ++ drop 512 memory) → Writes fit (held_by h t) memory (block ++ drop 512 memory) (Ok tt)
written fit h t memory front block f p e size le small =
    let rest = drop 512 memory in
    record {
      is = sym (cond-false _ _ _ (le-ltb (length memory) 512 f.enough) ∙ p);
      memory = ap (λ b. b ++ rest) (e ∙ sym (block_held h t size));
      back = λ _. front_back h t rest (block ++ rest) (ap (λ b. b ++ rest) e) small size le;
    }
