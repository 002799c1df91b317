-- Lists read place by place, and their fronts.
use Rattle.std.proofs.Common.{◌≡◌, ℕ, suc, ◌+◌, ◌<◌, List, [], ◌∷◌, ◌++◌, map, length, get_or, take, sym, refl, ap, ◌∙◌, subst}
use Rattle.std.specs.List.{AllByRecursion}
use Rattle.std.proofs.lemmas.List.{take_more, append-nil, append_assoc, map_push}
use Rattle.std.proofs.ByRecursion.{All-get_or, All-append}
use Rattle.traces.specs.Lists.{fronts_behind}

-- what was read at i has what each element has
pub all_read_lem : {X : Type 0} (P : X → Type 0) (xs : List X) (i : ℕ) (x : X) → i < length xs → x ≡ get_or xs i x → AllByRecursion P xs → P x
all_read_lem P xs i x within read all = subst P (sym read) (All-get_or P xs i x within all)

pub take_read : {X : Type 0} (xs : List X) (i : ℕ) (x : X) → i < length xs → x ≡ get_or xs i x → take (i + 1) xs ≡ take i xs ++ (x ∷ [])
take_read xs i x within read = take_more xs i x within ∙ ap (λ y. take i xs ++ (y ∷ [])) (sym read)

pub all_front : {X : Type 0} (P : X → Type 0) (xs ys : List X) → AllByRecursion P (xs ++ ys) → AllByRecursion P xs
all_front P [] ys all = tt
all_front P (x ∷ xs) ys all = (all.0, all_front P xs ys all.1)

pub all_rest : {X : Type 0} (P : X → Type 0) (xs ys : List X) → AllByRecursion P (xs ++ ys) → AllByRecursion P ys
all_rest P [] ys all = all
all_rest P (x ∷ xs) ys all = all_rest P xs ys all.1

-- what f and g do alike to each element, they do alike to the list
pub map_alike : {X Y : Type 0} (f g : X → Y) (P : X → Type 0) → ((x : X) → P x → f x ≡ g x) → (xs : List X) → AllByRecursion P xs → map f xs ≡ map g xs
map_alike f g P same [] all = refl
map_alike f g P same (x ∷ xs) all = ap (λ y. y ∷ map f xs) (same x all.0) ∙ ap (λ ys. g x ∷ ys) (map_alike f g P same xs all.1)

pub map_after : {X Y Z : Type 0} (f : X → Y) (g : Y → Z) (xs : List X) → map g (map f xs) ≡ map (λ x. g (f x)) xs
map_after f g [] = refl
map_after f g (x ∷ xs) = ap (λ zs. g (f x) ∷ zs) (map_after f g xs)

pub fronts_length : {X : Type 0} (before xs : List X) → length (fronts_behind before xs) ≡ length xs
fronts_length before [] = refl
fronts_length before (x ∷ xs) = ap suc (fronts_length (before ++ (x ∷ [])) xs)

-- one more at the end of a list has one more front, the whole
pub fronts_push : {X : Type 0} (before xs : List X) (y : X) → fronts_behind before (xs ++ (y ∷ [])) ≡ fronts_behind before xs ++ (((before ++ xs) ++ (y ∷ [])) ∷ [])
fronts_push before [] y = ap (λ f. (f ++ (y ∷ [])) ∷ []) (sym (append-nil before))
fronts_push before (x ∷ xs) y =
    ap (λ r. (before ++ (x ∷ [])) ∷ r)
    (fronts_push (before ++ (x ∷ [])) xs y
    ∙ ap (λ f. fronts_behind (before ++ (x ∷ [])) xs ++ ((f ++ (y ∷ [])) ∷ [])) (append_assoc before (x ∷ []) xs))

pub fronts_map : {X Y : Type 0} (f : X → Y) (before xs : List X) → fronts_behind (map f before) (map f xs) ≡ map (map f) (fronts_behind before xs)
fronts_map f before [] = refl
fronts_map f before (x ∷ xs) =
    ap (λ b. b ∷ fronts_behind b (map f xs)) (sym (map_push f before x))
    ∙ ap (λ r. map f (before ++ (x ∷ [])) ∷ r) (fronts_map f (before ++ (x ∷ [])) xs)

pub fronts_all : {X : Type 0} (P : X → Type 0) (before xs : List X) → AllByRecursion P before → AllByRecursion P xs → AllByRecursion (AllByRecursion P) (fronts_behind before xs)
fronts_all P before [] ab ax = tt
fronts_all P before (x ∷ xs) ab ax =
    let more = All-append P before (x ∷ []) ab (ax.0, tt) in
    (more, fronts_all P (before ++ (x ∷ [])) xs more ax.1)
