-- The notes in front of a pass, and the block behind them.
use Rattle.std.proofs.Common.{◌≡◌, ℕ, ◌+◌, ◌<◌, List, [], ◌∷◌, ◌++◌, length, Some, None, IfSome, Ok, Err, Option, Result, sym, refl, ap, ◌∙◌, subst, arith}
use Rattle.std.specs.List.{AllByRecursion}
use Rattle.std.proofs.ByRecursion.{All-append}
use Rattle.std.proofs.lemmas.List.{length_push}
use Rattle.station.specs.declared.letters.Letter.{Letter}
use Rattle.block.specs.declared.faults.BlockFault.{BlockFault}
use Rattle.loading.specs.Faults.{load_fault}
use Rattle.loading.specs.declared.faults.LoadCause.TheVariants as cause
use Rattle.recordings.specs.Faults.{pass_fault, IfFault}
use Rattle.recordings.specs.Input.{blocks_of, GivesBlock}
use Rattle.recordings.specs.Opening.{IsNote, Begins, BeginsBehindNotes, BeginsAll, NumberedFrom, ReadBy, kind_of, kind_at, numbered}
use Rattle.recordings.specs.declared.opening.Opening.{Opening}
use Rattle.recordings.specs.declared.faults.PassFault.{PassFault}
use Rattle.recordings.specs.declared.faults.PassError.{PassError}
use Rattle.recordings.specs.declared.faults.PassError.TheVariants.{Fault}
use Rattle.recordings.proofs.Cutting.{ReadsBlocks, reads_none, reads_more, reads_all, if_some}
use Rattle.recordings.proofs.Passing.{of_passed}

-- nothing but notes was read; so many blocks were at hand before the first, and now, and so many bytes were known
pub record Notes (before now index : ℕ) (known left : Option (List ℕ)) : Type 0 where
  pub notes : List (List ℕ)
  pub all : AllByRecursion IsNote notes
  pub at : index ≡ length notes
  pub counted : now ≡ before + index
  pub read : ReadsBlocks known left notes

-- how a pass begins, and where its bytes are known, with which of its blocks
pub record Opened (before now : ℕ) (hand : List ℕ) (known left : Option (List ℕ)) (r : Result (Option Opening) PassError) : Type 0 where
  pub notes : List (List ℕ)
  pub all : AllByRecursion IsNote notes
  pub begins : Begins notes before now hand r
  pub numbered : NumberedFrom before now r
  pub read : IfSome known (λ bytes. ReadBy (blocks_of bytes) notes hand left r)

pub begins_of : {before now : ℕ} {hand : List ℕ} {known left : Option (List ℕ)} {r : Result (Option Opening) PassError} → Opened before now hand known left r
    → BeginsBehindNotes before now hand r
begins_of o = (o.notes, (o.all, o.begins))

pub known_of : {before now : ℕ} {hand : List ℕ} {known left : Option (List ℕ)} {r : Result (Option Opening) PassError} → Opened before now hand known left r
    → IfSome known (λ bytes. BeginsAll (blocks_of bytes) before now hand left r)
known_of {known = known} o = if_some known (λ bytes read. (o.notes, (o.all, (o.begins, read)))) o.read

of_kind : (at : ℕ) (r : Result (Option Letter) BlockFault) (kind : Option Letter) → numbered at r ≡ Ok kind → r ≡ Ok kind
of_kind at (Ok k) kind is = ap Ok cc
of_kind at (Err e) kind is = cc

of_fault : (at : ℕ) (r : Result (Option Letter) BlockFault) (f : PassFault) → numbered at r ≡ Err f → (e : BlockFault) × ((f ≡ pass_fault at (load_fault (cause.Block e) 0)) × (r ≡ Err e))
of_fault at (Ok k) f is = cc
of_fault at (Err e) f is = (e, (cc, refl))

-- the fault of a block that is none has the number by which the block was read, also where it is passed up
pub fault_numbered : (at : ℕ) (hand : List ℕ) (f : PassFault) (r : Result (Option Letter) PassError) → kind_at at hand ≡ Err f → r ≡ Err (Fault f) → IfFault r (λ g. g.index ≡ at)
fault_numbered at hand f r is passed = of_passed (λ g. g.index ≡ at) r f passed (ap (λ g. g.index) (of_fault at (kind_of hand) f is).1.0)

pub no_notes : (before : ℕ) (known : Option (List ℕ)) → Notes before before 0 known known
no_notes before known = record { notes = []; all = tt; at = refl; counted = omega arith; read = reads_none known }

pub note_more : {before now index : ℕ} {known left : Option (List ℕ)} (then : ℕ) (next : Option (List ℕ)) (hand : List ℕ) → Notes before now index known left
    → then ≡ now + 1 → GivesBlock left next hand → 0 < length hand → kind_at index hand ≡ Ok None → Notes before then (index + 1) known next
note_more {index = index} then next hand was more gives some is = record {
  notes = was.notes ++ (hand ∷ []);
  all = All-append IsNote was.notes (hand ∷ []) was.all (of_kind index (kind_of hand) None is, tt);
  at = omega (arith, was.at, length_push was.notes hand);
  counted = omega (arith, more, was.counted);
  read = reads_more _ _ next was.notes hand was.read gives some;
}

pub opened_data : {before now index : ℕ} {known left : Option (List ℕ)} (then : ℕ) (next : Option (List ℕ)) (hand : List ℕ) (l : Letter) → Notes before now index known left
    → then ≡ now + 1 → GivesBlock left next hand → 0 < length hand → kind_at index hand ≡ Ok (Some l)
    → Opened before then hand known next (Ok (Some (record { letter = l; index = index })))
opened_data {index = index} then next hand l was more gives some is =
    record {
      notes = was.notes;
      all = was.all;
      begins = (omega (arith, more, was.counted, was.at), (was.at, of_kind index (kind_of hand) (Some l) is));
      numbered = omega (arith, more, was.counted);
      read = reads_more _ _ next was.notes hand was.read gives some;
    }

pub opened_nothing : {before now index : ℕ} {known left : Option (List ℕ)} (then : ℕ) (next : Option (List ℕ)) (hand : List ℕ) → Notes before now index known left
    → then ≡ now → GivesBlock left next hand → length hand ≡ 0 → Opened before then hand known next (Ok None)
opened_nothing then next hand was same gives none =
    record { notes = was.notes; all = was.all; begins = omega (arith, same, was.counted, was.at); numbered = tt; read = reads_all _ _ next was.notes hand was.read gives none }

pub opened_fault : {before now index : ℕ} {known left : Option (List ℕ)} (then : ℕ) (next : Option (List ℕ)) (hand : List ℕ) (f : PassFault) (r : Result (Option Opening) PassError) → Notes before now index known left
    → then ≡ now + 1 → GivesBlock left next hand → 0 < length hand → kind_at index hand ≡ Err f → r ≡ Err (Fault f) → Opened before then hand known next r
opened_fault {before = before} {index = index} {known = known} then next hand f r was more gives some is passed =
    let e = of_fault index (kind_of hand) f is in
    let fault = e.1.0 ∙ ap (λ n. pass_fault n (load_fault (cause.Block e.0) 0)) was.at in
    let at : f.index ≡ index = fault_numbered index hand f (Err (Fault f)) is refl in
    subst (Opened before then hand known next) (sym passed)
    (record {
      notes = was.notes;
      all = was.all;
      begins = (omega (arith, more, was.counted, was.at), (e.0, (fault, e.1.1)));
      numbered = omega (arith, more, was.counted, at);
      read = reads_more _ _ next was.notes hand was.read gives some;
    })
