-- What is told of a pass that begins behind notes.
use Rattle.std.proofs.Common.{◌≡◌, ℕ, ◌-◌, List, [], ◌∷◌, ◌++◌, length, IfOk, IfSome, Some, None, Option, Ok, Err, Result, sym, ap, ◌∙◌, subst, append_assoc, arith}
use Rattle.std.specs.List.{AllByRecursion}
use Rattle.recordings.specs.Input.{blocks_of, Left}
use Rattle.recordings.specs.Opening.{IsNote, Begins, BeginsBehindNotes, BeginsAll}
use Rattle.recordings.specs.declared.opening.Opening.{Opening}
use Rattle.recordings.specs.declared.faults.PassFault.{PassFault}
use Rattle.recordings.specs.declared.faults.PassError.{PassError}
use Rattle.recordings.specs.declared.faults.PassError.TheVariants.{Fault}
use Rattle.recordings.proofs.Cutting.{blocks_left, split_left, if_some}
use Rattle.passes.specs.Reports.{KindReport, ReportOn, OnAll, Told}
use Rattle.passes.specs.Texts.{empty_text, break_text}
use Rattle.passes.proofs.Told.{made_map}

-- How a pass began, by what was answered, in an input of which nothing had been read.
pub record Begun (read : ℕ) (hand : List ℕ) (known left : Option (List ℕ)) (q : Result (Option Opening) PassError) : Type 0 where
  pub begins : BeginsBehindNotes 0 read hand q
  pub all : IfSome known (λ bytes. BeginsAll (blocks_of bytes) 0 read hand left q)

pub begun : (before read : ℕ) (hand : List ℕ) (fresh known left : Option (List ℕ)) (q answer : Result (Option Opening) PassError) → before ≡ 0 → fresh ≡ known → q ≡ answer
    → BeginsBehindNotes before read hand q → IfSome fresh (λ bytes. BeginsAll (blocks_of bytes) before read hand left q) → Begun read hand known left answer
begun before read hand fresh known left q answer none same is begins all =
    let AllOf : ℕ → Option (List ℕ) → Result (Option Opening) PassError → Type 0 = λ n k a. IfSome k (λ bytes. BeginsAll (blocks_of bytes) n read hand left a) in
    record {
      begins = subst (BeginsBehindNotes 0 read hand) is (subst (λ n. BeginsBehindNotes n read hand q) none begins);
      all = subst (AllOf 0 known) is (subst (λ k. AllOf 0 k q) same (subst (λ n. AllOf n fresh q) none all));
    }

-- ---- a data block behind the notes

on_kind : (notes : List (List ℕ)) (read : ℕ) (hand : List ℕ) (o : Opening) → AllByRecursion IsNote notes → Begins notes 0 read hand (Ok (Some o))
    → (rest : List (List ℕ)) (text : List ℕ) → KindReport o.letter (read - 1) (hand ∷ rest) text → ReportOn (notes ++ (hand ∷ rest)) text
on_kind notes read hand o all begins rest text told =
    let behind : read - 1 ≡ length notes = omega (arith, begins.0) in
    ReportOn.of_kind notes rest hand o.letter text all begins.1.1 (subst (λ n. KindReport o.letter n (hand ∷ rest) text) behind told)

behind_notes : (P : List (List ℕ) → List ℕ → Type 0) (notes : List (List ℕ)) (hand : List ℕ) → ((rest : List (List ℕ)) (text : List ℕ) → P rest text → ReportOn (notes ++ (hand ∷ rest)) text)
    → (rest : List (List ℕ)) (text : List ℕ) → OnAll P rest text → OnAll ReportOn (notes ++ (hand ∷ rest)) text
behind_notes P notes hand on rest _ (OnAll.to_the_end text told) = OnAll.to_the_end text (on rest text told)
behind_notes P notes hand on rest _ (OnAll.to_a_fault read behind f are told) =
    OnAll.to_a_fault (notes ++ (hand ∷ read)) behind f (ap (λ l. notes ++ (hand ∷ l)) are ∙ sym (append_assoc notes (hand ∷ read) behind)) (on read (break_text f) told)

all_kind : (all notes : List (List ℕ)) (read : ℕ) (hand : List ℕ) (o : Opening) (left : Option (List ℕ)) (text : List ℕ)
    → AllByRecursion IsNote notes → Begins notes 0 read hand (Ok (Some o)) → Left all (notes ++ (hand ∷ [])) left
    → IfSome left (λ bytes. OnAll (λ rest. KindReport o.letter (read - 1) (hand ∷ rest)) (blocks_of bytes) text) → OnAll ReportOn all text
all_kind all notes read hand o None text are begins is told = absurd is
all_kind all notes read hand o (Some bytes) text are begins is told =
    subst (λ bs. OnAll ReportOn bs text) (sym (is ∙ append_assoc notes (hand ∷ []) (blocks_of bytes)))
    (behind_notes (λ rest. KindReport o.letter (read - 1) (hand ∷ rest)) notes hand (on_kind notes read hand o are begins) (blocks_of bytes) text told)

module _ {read : ℕ} {hand : List ℕ} {known left : Option (List ℕ)} where
  pub told_kind : {X E : Type 0} (o : Opening) (bytes_of : X → List ℕ) (r : Result X E) → Begun read hand known left (Ok (Some o))
      → IfOk r (λ x. Told left (λ rest. KindReport o.letter (read - 1) (hand ∷ rest)) (bytes_of x))
      → IfOk r (λ x. (blocks : List (List ℕ)) × ReportOn blocks (bytes_of x))
  told_kind o bytes_of r begun =
      let b = begun.begins in
      made_map _ _ r (λ x told. (b.0 ++ (hand ∷ told.blocks), on_kind b.0 read hand o b.1.0 b.1.1 told.blocks (bytes_of x) told.on))

  pub told_kind_all : {X E : Type 0} (o : Opening) (bytes_of : X → List ℕ) (r : Result X E) → Begun read hand known left (Ok (Some o))
      → IfOk r (λ x. Told left (λ rest. KindReport o.letter (read - 1) (hand ∷ rest)) (bytes_of x))
      → IfOk r (λ x. IfSome known (λ bytes. OnAll ReportOn (blocks_of bytes) (bytes_of x)))
  told_kind_all o bytes_of r begun =
      made_map _ _ r (λ x told. if_some known (λ bytes b. all_kind (blocks_of bytes) b.0 read hand o left (bytes_of x) b.1.0 b.1.1.0 b.1.1.1 told.all) begun.all)

  -- ---- no data block

  pub told_nothing : (text : List ℕ) → Begun read hand known left (Ok None) → text ≡ empty_text → (blocks : List (List ℕ)) × ReportOn blocks text
  told_nothing text begun told = let b = begun.begins in (b.0, subst (ReportOn b.0) (sym told) (ReportOn.no_data b.0 b.1.0))

  pub told_nothing_all : (text : List ℕ) → Begun read hand known left (Ok None) → text ≡ empty_text → IfSome known (λ bytes. OnAll ReportOn (blocks_of bytes) text)
  told_nothing_all text begun told =
      if_some known (λ bytes b. OnAll.to_the_end text
      (subst (λ bs. ReportOn bs text) (sym b.1.1.1) (subst (ReportOn b.0) (sym told) (ReportOn.no_data b.0 b.1.0)))) begun.all

-- ---- a block that is none

on_fault : (notes : List (List ℕ)) (read : ℕ) (hand : List ℕ) (f : PassFault) → AllByRecursion IsNote notes → Begins notes 0 read hand (Err (Fault f))
    → ReportOn (notes ++ (hand ∷ [])) (break_text f)
on_fault notes read hand f all begins =
    let e = begins.1 in
    let fault = e.1.0 in
    subst (ReportOn (notes ++ (hand ∷ []))) (sym (ap break_text fault)) (ReportOn.no_block notes hand e.0 all e.1.1)

module _ {read : ℕ} {hand : List ℕ} {known left : Option (List ℕ)} where
  pub told_error : {X E : Type 0} (error : PassError) (bytes_of : X → List ℕ) (r : Result X E) → Begun read hand known left (Err error)
      → IfOk r (λ x. (f : PassFault) × ((error ≡ Fault f) × (bytes_of x ≡ break_text f)))
      → IfOk r (λ x. (blocks : List (List ℕ)) × ReportOn blocks (bytes_of x))
  told_error error bytes_of r begun =
      made_map _ _ r (λ x told.
      let b = subst (λ e. BeginsBehindNotes 0 read hand (Err e)) told.1.0 begun.begins in
      (b.0 ++ (hand ∷ []), subst (ReportOn (b.0 ++ (hand ∷ []))) (sym told.1.1) (on_fault b.0 read hand told.0 b.1.0 b.1.1)))

  pub told_error_all : {X E : Type 0} (error : PassError) (bytes_of : X → List ℕ) (r : Result X E) → Begun read hand known left (Err error)
      → IfOk r (λ x. (f : PassFault) × ((error ≡ Fault f) × (bytes_of x ≡ break_text f)))
      → IfOk r (λ x. IfSome known (λ bytes. OnAll ReportOn (blocks_of bytes) (bytes_of x)))
  told_error_all error bytes_of r begun =
      made_map _ _ r (λ x told.
      if_some known (λ bytes b. subst (OnAll ReportOn (blocks_of bytes)) (sym told.1.1)
      (OnAll.to_a_fault (b.0 ++ (hand ∷ [])) (blocks_left left) told.0 (split_left (blocks_of bytes) (b.0 ++ (hand ∷ [])) left b.1.1.1) (on_fault b.0 read hand told.0 b.1.0 b.1.1.0)))
      (subst (λ e. IfSome known (λ bytes. BeginsAll (blocks_of bytes) 0 read hand left (Err e))) told.1.0 begun.all))
