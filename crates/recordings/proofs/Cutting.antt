-- Bytes that are cut into blocks, one block after another.
use Rattle.std.proofs.Common.{◌≡◌, inl, inr, ℕ, zero, suc, ◌<◌, ◌≤◌, List, [], ◌∷◌, ◌++◌, length, take, drop, Some, None, IfSome, Option, sym, refl, ap, ◌∙◌, subst, arith, append-nil, append_assoc, length-drop, length-take, length-take-le}
use Rattle.std.proofs.Math.Seq.{take-append_seam, drop-append_seam}
use Rattle.std.proofs.lemmas.List.{take_all, drop_all, nil_from_length}
use Rattle.std.proofs.Math.Nat.{eq-or-lt_of_le}
use Rattle.std.specs.Io.KnownBytes.{Consumes, IsAtEnd}
use Rattle.recordings.specs.Input.{blocks_within, blocks_of, GivesBlock, Left}

none_within : (n : ℕ) → blocks_within n [] ≡ []
none_within zero = refl
none_within (suc n) = refl

same_within : (n m : ℕ) (bytes : List ℕ) → length bytes ≤ n → length bytes ≤ m → blocks_within n bytes ≡ blocks_within m bytes
same_within n m [] h k = none_within n ∙ sym (none_within m)
same_within zero m (b ∷ bytes) h k = absurd (omega arith)
same_within (suc n) zero (b ∷ bytes) h k = absurd (omega arith)
same_within (suc n) (suc m) (b ∷ bytes) h k =
    ap (λ l. take 512 (b ∷ bytes) ∷ l)
    (same_within n m (drop 512 (b ∷ bytes)) (omega (arith, length-drop 512 (b ∷ bytes))) (omega (arith, length-drop 512 (b ∷ bytes))))

pub blocks_none : blocks_of [] ≡ []
unfolding blocks_of
blocks_none = refl

pub blocks_more : (bytes : List ℕ) → 0 < length bytes → blocks_of bytes ≡ take 512 bytes ∷ blocks_of (drop 512 bytes)
unfolding blocks_of
blocks_more [] h = absurd (omega arith)
blocks_more (b ∷ bytes) h =
    let rest = drop 512 (b ∷ bytes) in
    ap (λ l. take 512 (b ∷ bytes) ∷ l) (same_within (length bytes) (length rest) rest (omega (arith, length-drop 512 (b ∷ bytes))) (omega arith))

whole_block : (xs ys block : List ℕ) → xs ≡ block ++ ys → length block ≡ 512 → GivesBlock (Some xs) (Some ys) block
whole_block xs ys block read full = (
  sym (take-append_seam block ys) ∙ ap (take (length block)) (sym read) ∙ ap (λ n. take n xs) full,
  ap Some (sym (drop-append_seam block ys) ∙ ap (drop (length block)) (sym read) ∙ ap (λ n. drop n xs) full),
)

last_block : (xs ys block : List ℕ) → xs ≡ block ++ ys → length block ≤ 512 → ys ≡ [] → GivesBlock (Some xs) (Some ys) block
last_block xs ys block read within end =
    let all : xs ≡ block = read ∙ ap (λ l. block ++ l) end ∙ append-nil block in (
      sym (ap (take 512) all ∙ take_all 512 block within),
      ap Some (end ∙ sym (ap (drop 512) all ∙ drop_all 512 block within)),
    )

gives_block : (before after : Option (List ℕ)) (block : List ℕ) → Consumes before after block → length block ≤ 512 → (length block < 512 → IsAtEnd after) → GivesBlock before after block
gives_block None after block read within end = tt
gives_block (Some xs) None block read within end = absurd read
gives_block (Some xs) (Some ys) block read within end =
    elim (eq-or-lt_of_le within) [ inl full ↦ whole_block xs ys block read full | inr short ↦ last_block xs ys block read within (end short) ]

-- Bytes that are filled up to 512, or up to the end of the input, hold the next block.
pub block_read : (before after : Option (List ℕ)) (n : ℕ) (bytes : List ℕ) → length bytes ≡ 512 → n ≤ length bytes
    → Consumes before after (take n bytes) → (n < length bytes → IsAtEnd after) → GivesBlock before after (take n bytes)
block_read before after n bytes whole within read end =
    let long : length (take n bytes) ≡ n = length-take-le n bytes within in
    gives_block before after (take n bytes) read (omega arith) (λ short. end (omega (arith, short)))

-- the blocks of the known bytes begin with these, which were read
abbrev pub ReadsBlocks : Option (List ℕ) → Option (List ℕ) → List (List ℕ) → Type 0
ReadsBlocks known after read = IfSome known (λ bytes. Left (blocks_of bytes) read after)

pub reads_none : (known : Option (List ℕ)) → ReadsBlocks known known []
reads_none None = tt
reads_none (Some bytes) = refl

-- one block more
pub reads_more : (a b c : Option (List ℕ)) (read : List (List ℕ)) (block : List ℕ) → ReadsBlocks a b read → GivesBlock b c block → 0 < length block → ReadsBlocks a c (read ++ (block ∷ []))
reads_more None b c read block was gives some = tt
reads_more (Some xs) None c read block was gives some = absurd was
reads_more (Some xs) (Some ys) c read block was gives some =
    let more : 0 < length ys = omega (arith, ap length gives.0, length-take 512 ys) in
    subst (Left (blocks_of xs) (read ++ (block ∷ []))) (sym gives.1)
    (
    was
    ∙ ap (λ l. read ++ l) (blocks_more ys more ∙ ap (λ b. b ∷ blocks_of (drop 512 ys)) (sym gives.0))
    ∙ sym (append_assoc read (block ∷ []) (blocks_of (drop 512 ys)))
    )

-- no block more
pub reads_all : (a b c : Option (List ℕ)) (read : List (List ℕ)) (block : List ℕ) → ReadsBlocks a b read → GivesBlock b c block → length block ≡ 0 → IfSome a (λ bytes. blocks_of bytes ≡ read)
reads_all None b c read block was gives none = tt
reads_all (Some xs) None c read block was gives none = absurd was
reads_all (Some xs) (Some ys) c read block was gives none =
    let end : ys ≡ [] = nil_from_length ys (omega (arith, ap length gives.0, length-take 512 ys)) in
    was ∙ ap (λ l. read ++ l) (ap blocks_of end ∙ blocks_none) ∙ append-nil read

-- the blocks that an input still has, where its bytes are known
abbrev pub blocks_left : Option (List ℕ) → List (List ℕ)
blocks_left None = []
blocks_left (Some bytes) = blocks_of bytes

pub split_left : (all read : List (List ℕ)) (left : Option (List ℕ)) → Left all read left → all ≡ read ++ blocks_left left
split_left all read None is = absurd is
split_left all read (Some bytes) is = is

pub if_some : {P Q : List ℕ → Type 0} (known : Option (List ℕ)) → ((bytes : List ℕ) → P bytes → Q bytes) → IfSome known P → IfSome known Q
if_some None f h = tt
if_some (Some bytes) f h = f bytes h
