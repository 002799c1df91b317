-- What the writes of a block leave.
use Rattle.std.proofs.Common.{◌≡◌, ℕ, ◌+◌, ◌-◌, ◌≤◌, true, cond, leb, ◌&&◌, List, [], ◌++◌, length, take, drop, sym, refl, ap, ◌∙◌, arith, rules}
use lib.Seq.{paste}
use Rattle.std.proofs.lemmas.List.{take_at, take_all, replicate-append-replicate, drop_all, append_assoc, append-nil, length-append, same_lists, places}
use Rattle.std.proofs.lemmas.Bool.{le-leb}
use Rattle.byte_fields.specs.Numbers.{digits, with_field}
use Rattle.byte_fields.specs.Unused.{zeros}
use Rattle.byte_fields.proofs.Zeros.{length_zeros}
use Rattle.block.specs.declared.heads.Head.{Head}
use Rattle.block.specs.Check.{check_of, weighed}
use Rattle.block.specs.Heads.{head_bytes}
use Rattle.block.specs.Layout.{framed}
use Rattle.block.proofs.HeadBytes.{length_head}

-- a part over zeros, behind a front and a gap
pub put_over : (front part : List ℕ) (gap room at n : ℕ) → at ≡ length front + gap → n ≡ length part → gap + n ≤ room
    → paste (front ++ zeros room) at part n ≡ (front ++ (zeros gap ++ part)) ++ zeros (room - gap - n)
unfolding zeros
put_over front part gap room at n e w le = same_lists _ _ (search (rules, places)) (λ k d h. grind (arith, places))

-- what stands in front of the check
abbrev pub body_of : Head → List ℕ → List ℕ
body_of h content = head_bytes h ++ (zeros 8 ++ (content ++ zeros (496 - length content)))

pub length_body : (h : Head) (content : List ℕ) → length content ≤ 496 → length (body_of h content) ≡ 508
length_body h content le = simp (length-append, length_zeros, length_head) (omega arith)

pub length_framed : (h : Head) (content : List ℕ) → length content ≤ 496 → length (framed h content) ≡ 512
unfolding framed
length_framed h content le = length-append (body_of h content) (digits 4 (check_of (body_of h content))) ∙ omega (arith, length_body h content le)

-- a head, its content and the check, one after another over zeros
pub filled : (h : Head) (part content d1 d2 : List ℕ) → length content ≤ 496 → part ≡ head_bytes h → d1 ≡ paste (zeros 512) 0 part (length part) → d2 ≡ paste d1 12 content (length content)
    → with_field 508 512 (check_of d2) d2 ≡ framed h content
unfolding framed zeros
filled h part content d1 d2 le e e1 e2 =
    let n = length content in
    let body = body_of h content in
    let lh : 4 ≡ length (head_bytes h) = sym (length_head h) in
    let lb : length body ≡ 508 = length_body h content le in
    let s1 : d1 ≡ head_bytes h ++ zeros 508 = e1 ∙ ap (λ p. paste (zeros 512) 0 p (length p)) e ∙ ap (paste (zeros 512) 0 (head_bytes h)) (sym lh) ∙ put_over [] (head_bytes h) 0 512 0 4 refl lh (omega arith) in
    let s2 : d2 ≡ (head_bytes h ++ (zeros 8 ++ content)) ++ zeros (508 - 8 - n) =
    e2 ∙ ap (λ d. paste d 12 content n) s1 ∙ put_over (head_bytes h) content 8 508 12 n (omega arith) refl (omega arith) in
    let split : zeros (508 - 8 - n) ≡ zeros (496 - n) ++ zeros 4 = ap zeros (omega arith) ∙ sym (replicate-append-replicate (496 - n) 4 0) in
    let s3 : d2 ≡ body ++ zeros 4 = s2 ∙ ap (λ z. (head_bytes h ++ (zeros 8 ++ content)) ++ z) split ∙ simp append_assoc in
    let front : take 508 d2 ≡ body = ap (take 508) s3 ∙ take_at body (zeros 4) 508 lb in
    let size : length d2 ≡ 512 = ap length s3 ∙ length-append body (zeros 4) ∙ omega arith in
    let check : check_of d2 ≡ check_of body = ap (λ x. 1 + weighed 0 x) (front ∙ sym (take_all 508 body (omega arith))) in
    let behind : drop 512 d2 ≡ [] = drop_all 512 d2 (omega arith) in
    let test : (leb 508 512 && leb 512 (length d2)) ≡ true = le-leb 512 (length d2) (omega arith) in
    ap (λ t. cond t (take 508 d2 ++ (digits 4 (check_of d2) ++ drop 512 d2)) d2) test
    ∙ ap (λ x. x ++ (digits 4 (check_of d2) ++ drop 512 d2)) front
    ∙ ap (λ k. body ++ (digits 4 k ++ drop 512 d2)) check
    ∙ ap (λ r. body ++ (digits 4 (check_of body) ++ r)) behind
    ∙ ap (λ r. body ++ r) (append-nil (digits 4 (check_of body)))
