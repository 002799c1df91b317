-- A block that is read is the block of what was read.
use Rattle.std.proofs.Common.{◌≡◌, ℕ, ◌+◌, ◌-◌, ◌≤◌, cond, eqb, List, ◌++◌, length, get_or, take, IfOk, Some, None, Ok, Err, Option, Result, sym, refl, ap, ◌∙◌, subst, arith}
use Rattle.std.specs.List.{between}
use Rattle.std.proofs.lemmas.List.{take_more, take-take, take_all, length-take, length-drop, append_assoc}
use Rattle.std.proofs.lemmas.Bool.{eqb-true}
use Rattle.byte_fields.specs.Numbers.{digits, field}
use Rattle.byte_fields.specs.Unused.{zeros, first_used, unless_at}
use Rattle.byte_fields.proofs.NumberLaws.{Small, take_between, digits_field}
use Rattle.byte_fields.proofs.Ways.{cond_then}
use Rattle.byte_fields.proofs.Zeros.{unused_zeros}
use Rattle.block.specs.declared.faults.BlockFault.{BlockFault}
use Rattle.block.specs.declared.faults.BlockFault.TheVariants.{Length, Check}
use Rattle.block.specs.declared.heads.Head.{Head}
use Rattle.block.specs.declared.heads.Head.TheVariants as head
use Rattle.block.specs.declared.reading.Block.{Block}
use Rattle.block.specs.Check.{check_of, weighed}
use Rattle.block.specs.Heads.{content_size, head_bytes, head_of}
use Rattle.block.specs.Layout.{Held, HasRoom, sealed, framed, IsBlock}
use Rattle.block.specs.Reading.{held_in, held, after, held_by, unused_by, unused_in, behind_of, rest_of, laid_of, read_of}
use Rattle.block.proofs.Back.{block_held}
use Rattle.block.proofs.HeadBytes.{head_only}

after_was : {X Y : Type 0} (r : Result X BlockFault) (f : X → Result Y BlockFault) (y : Y) → after r f ≡ Ok y → (x : X) × (r ≡ Ok x) × (f x ≡ Ok y)
after_was (Ok x) f y p = (x, refl, p)
after_was (Err e) f y p = absurd cc

-- bytes that are not refused for a use are zeros
unused_was : (from : ℕ) (o : Option ℕ) → unused_by (unless_at from o) ≡ Ok tt → o ≡ None
unused_was from None p = refl
unused_was from (Some k) p = absurd cc

part_zeros : (bs : List ℕ) (from to n : ℕ) → to ≤ length bs → n ≡ to - from → unused_in from to bs ≡ Ok tt → between from to bs ≡ zeros n
part_zeros bs from to n le e p =
    let part = between from to bs in
    let size : length part ≡ n = simp (length-take, length-drop) (omega arith) in
    unused_zeros part (unused_was from (first_used part) p) ∙ ap zeros size

head_part : (bs : List ℕ) (h : Head) → Small bs → 4 ≤ length bs → head_of bs ≡ Ok h → (take 4 bs ≡ head_bytes h) × (content_size h ≤ 496)
head_part bs h small le p =
    let was = head_only (get_or bs 0 0) (get_or bs 1 0) (field 2 4 bs) h p in
    let one = take_more bs 0 0 (omega arith) in
    let two = take_more bs 1 0 (omega arith) in
    let size = digits_field bs 2 4 small le in
    let cut = take_between bs 2 4 (omega arith) in
    (cc (was.0), was.1)

parts : (bs : List ℕ) (s : ℕ) → s ≤ 496 → take 508 bs ≡ take 4 bs ++ (between 4 12 bs ++ (between 12 (12 + s) bs ++ between (12 + s) 508 bs))
parts bs s le =
    let gap = take_between bs 4 12 (omega arith) in
    let content = take_between bs 12 (12 + s) (omega arith) in
    let rest = take_between bs (12 + s) 508 (omega arith) in
    let all : take 508 bs ≡ ((take 4 bs ++ between 4 12 bs) ++ between 12 (12 + s) bs) ++ between (12 + s) 508 bs = cc in
    all ∙ simp append_assoc

sealed_back : (bs : List ℕ) → Small bs → length bs ≡ 512 → field 508 512 bs ≡ check_of bs → bs ≡ sealed (take 508 bs)
sealed_back bs small len e =
    let c : check_of (take 508 bs) ≡ check_of bs = ap (λ x. 1 + weighed 0 x) (take-take 508 508 bs (omega arith)) in
    let last : between 508 512 bs ≡ digits 4 (check_of (take 508 bs)) = sym (digits_field bs 508 512 small (omega arith)) ∙ ap (digits 4) (e ∙ sym c) in
    sym (take_all 512 bs (omega arith)) ∙ take_between bs 508 512 (omega arith) ∙ ap (λ x. take 508 bs ++ x) last

has_room : (h : Head) (t : List ℕ) → length t ≡ content_size h → content_size h ≤ 496 → HasRoom (held_by h t)
has_room (head.Data l count) t e le = (omega arith, omega arith)
has_room (head.Note size) t e le = omega arith

framed_only : (bs : List ℕ) (h : Head) → Small bs → length bs ≡ 512 → field 508 512 bs ≡ check_of bs → head_of bs ≡ Ok h
    → unused_in 4 12 bs ≡ Ok tt → unused_in (12 + content_size h) 508 bs ≡ Ok tt → IsBlock bs (held_by h (between 12 (12 + content_size h) bs))
unfolding framed
framed_only bs h small len e p q r =
    let s = content_size h in
    let t = between 12 (12 + s) bs in
    let head = head_part bs h small (omega arith) p in
    let le = head.1 in
    let lt : length t ≡ s = simp (length-take, length-drop) (omega arith) in
    let four = head.0 in
    let gap = part_zeros bs 4 12 8 (omega arith) refl q in
    let rest = part_zeros bs (12 + s) 508 (496 - length t) (omega arith) (omega arith) r in
    let body : take 508 bs ≡ head_bytes h ++ (zeros 8 ++ (t ++ zeros (496 - length t))) = parts bs s le ∙ cc in
    record { is = sealed_back bs small len e ∙ ap sealed body ∙ sym (block_held h t lt); room = has_room h t lt le }

only : (bs : List ℕ) → Small bs → (x : Held) → read_of bs ≡ Ok x → IsBlock bs x
only bs small x p =
    let a = cond_then (eqb (length bs) 512) (cond (eqb (field 508 512 bs) (check_of bs)) (laid_of bs) (Err Check)) (Length (length bs)) x p in
    let len = eqb-true (length bs) 512 a.0 in
    let b = cond_then (eqb (field 508 512 bs) (check_of bs)) (laid_of bs) Check x a.1 in
    let e = eqb-true (field 508 512 bs) (check_of bs) b.0 in
    let c = after_was (head_of bs) (rest_of bs) x b.1 in
    let h = c.0 in
    let d = after_was (unused_in 4 12 bs) (behind_of bs h) x c.2 in
    let f = after_was (unused_in (12 + content_size h) 508 bs) (λ _. Ok (held_by h (between 12 (12 + content_size h) bs))) x d.2 in
    let g : held_by h (between 12 (12 + content_size h) bs) ≡ x = (let q = f.2 in cc) in
    subst (IsBlock bs) g (framed_only bs h small len e c.1 d.1 f.1)

pub made_only : (bs : List ℕ) → Small bs → (r : Result Block BlockFault) → held r ≡ read_of bs → IfOk r (λ b. IsBlock bs (held_in b))
made_only bs small (Ok b) p = only bs small (held_in b) (sym p)
made_only bs small (Err e) p = tt
