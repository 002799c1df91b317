-- A block that was written reads back as what it was made of.
use Rattle.std.proofs.Common.{◌≡◌, ℕ, ◌+◌, ◌-◌, ◌<◌, ◌≤◌, true, cond, eqb, List, ◌++◌, length, take, drop, Ok, Err, sym, ap, ◌∙◌, subst, arith}
use Rattle.std.specs.List.{between}
use Rattle.std.proofs.lemmas.List.{take_at, drop_at, take_all, append_assoc, drop-drop}
use Rattle.std.proofs.lemmas.Bool.{eq-eqb}
use Rattle.byte_fields.specs.Numbers.{digits, numeral, field}
use Rattle.byte_fields.specs.Unused.{zeros, first_used, unless_at}
use Rattle.byte_fields.proofs.NumberLaws.{Small, part_small, numeral_digits}
use Rattle.byte_fields.proofs.Zeros.{length_zeros, zeros_unused}
use Rattle.block.specs.declared.faults.BlockFault.TheVariants.{Length, Check}
use Rattle.block.specs.declared.heads.Head.{Head}
use Rattle.block.specs.declared.heads.Head.TheVariants as head
use Rattle.block.specs.Check.{check_of, weighed}
use Rattle.block.specs.Heads.{content_size, head_bytes, head_of}
use Rattle.block.specs.Layout.{framed, block_of}
use Rattle.block.specs.Reading.{after, held_by, unused_by, unused_in, behind_of, rest_of, laid_of, read_of}
use Rattle.block.proofs.Checks.{check_small}
use Rattle.block.proofs.Frames.{body_of, length_body, length_framed}
use Rattle.block.proofs.HeadBytes.{length_head, head_back}

part_unused : (bs : List ℕ) (from to n : ℕ) → between from to bs ≡ zeros n → unused_in from to bs ≡ Ok tt
part_unused bs from to n e = ap (λ part. unused_by (unless_at from (first_used part))) e ∙ ap (λ o. unused_by (unless_at from o)) (zeros_unused n)

-- the layout, by what its parts give
laid_whole : (bs : List ℕ) (h : Head) → head_of bs ≡ Ok h → unused_in 4 12 bs ≡ Ok tt → unused_in (12 + content_size h) 508 bs ≡ Ok tt
    → laid_of bs ≡ Ok (held_by h (between 12 (12 + content_size h) bs))
laid_whole bs h p q s =
    ap (λ r. after r (rest_of bs)) p
    ∙ ap (λ r. after r (behind_of bs h)) q
    ∙ ap (λ r. after r (λ _. Ok (held_by h (between 12 (12 + content_size h) bs)))) s

back : (h : Head) (t : List ℕ) → length t ≡ content_size h → content_size h ≤ 496 → check_of (framed h t) < 4294967296 → read_of (framed h t) ≡ Ok (held_by h t)
unfolding framed
back h t es le small =
    let s = content_size h in
    let hd = head_bytes h in
    let z = zeros (496 - length t) in
    let body = body_of h t in
    let chk = digits 4 (check_of body) in
    let bs = framed h t in
    let lb : length body ≡ 508 = length_body h t (omega arith) in
    let len : length bs ≡ 512 = length_framed h t (omega arith) in
    let front : take 508 bs ≡ body = take_at body chk 508 lb in
    let same : check_of bs ≡ check_of body = ap (λ x. 1 + weighed 0 x) (front ∙ sym (take_all 508 body (omega arith))) in
    let last : field 508 512 bs ≡ check_of bs = ap (λ x. numeral (take 4 x)) (drop_at body chk 508 lb) ∙ numeral_digits 4 (check_of body) (omega arith) ∙ sym same in
    let flat : bs ≡ hd ++ (zeros 8 ++ (t ++ (z ++ chk))) = simp append_assoc in
    let d4 : drop 4 bs ≡ zeros 8 ++ (t ++ (z ++ chk)) = ap (drop 4) flat ∙ drop_at hd _ 4 (length_head h) in
    let d12 : drop 12 bs ≡ t ++ (z ++ chk) = sym (drop-drop 8 4 bs) ∙ ap (drop 8) d4 ∙ drop_at (zeros 8) _ 8 (length_zeros 8) in
    let ds : drop (12 + s) bs ≡ z ++ chk = sym (drop-drop s 12 bs) ∙ ap (drop s) d12 ∙ drop_at t _ s es in
    let gap : between 4 12 bs ≡ zeros 8 = ap (take 8) d4 ∙ take_at (zeros 8) _ 8 (length_zeros 8) in
    let lz : length z ≡ 508 - (12 + s) = length_zeros (496 - length t) ∙ omega arith in
    let rest : between (12 + s) 508 bs ≡ z = ap (take (508 - (12 + s))) ds ∙ take_at z chk (508 - (12 + s)) lz in
    let con : between 12 (12 + s) bs ≡ t = ap (take (12 + s - 12)) d12 ∙ take_at t (z ++ chk) (12 + s - 12) (omega arith) in
    let e1 : eqb (length bs) 512 ≡ true = eq-eqb (length bs) 512 len in
    let e2 : eqb (field 508 512 bs) (check_of bs) ≡ true = eq-eqb (field 508 512 bs) (check_of bs) last in
    ap (λ x. cond x (cond (eqb (field 508 512 bs) (check_of bs)) (laid_of bs) (Err Check)) (Err (Length (length bs)))) e1
    ∙ ap (λ x. cond x (laid_of bs) (Err Check)) e2
    ∙ laid_whole bs h (ap head_of flat ∙ head_back h _ le) (part_unused bs 4 12 8 gap) (part_unused bs (12 + s) 508 (496 - length t) rest)
    ∙ ap (λ x. Ok (held_by h x)) con

-- The block of what a head announces is its frame.
pub block_held : (h : Head) (t : List ℕ) → length t ≡ content_size h → block_of (held_by h t) ≡ framed h t
block_held (head.Data l count) t e = ap (λ n. framed (head.Data l n) t) (omega arith)
block_held (head.Note size) t e = ap (λ n. framed (head.Note n) t) e

-- memory whose first 512 bytes are a block
pub front_back : (h : Head) (t rest memory : List ℕ) → memory ≡ framed h t ++ rest → Small memory → length t ≡ content_size h → content_size h ≤ 496
    → read_of (take 512 memory) ≡ Ok (held_by h t)
front_back h t rest memory e small es le =
    let bs = framed h t in
    let len : length bs ≡ 512 = length_framed h t (omega arith) in
    let front : take 512 memory ≡ bs = ap (take 512) e ∙ take_at bs rest 512 len in
    ap read_of front ∙ back h t es le (check_small bs (subst Small front (part_small memory 0 512 small)))
