-- Blocks loaded into a run, one behind another.
use Rattle.std.specs.Prelude.{◌≡◌, ℕ, ◌+◌, List, [], ◌∷◌, ◌++◌, map, length, Ok, Err, Result}
use Rattle.station.specs.Laws.{Joins, Rules}
use Rattle.run.specs.Calls.{Call, Answer, Load, Loaded, NotLoaded}
use Rattle.run.specs.Rules.{Terms, after, answered}
use Rattle.run.specs.Standing.{Stands}
use Rattle.run.specs.declared.run.Run.{Run}
use Rattle.recordings.specs.declared.faults.PassFault.{PassFault}
use Rattle.recordings.specs.declared.faults.PassError.{PassError}
use Rattle.recordings.specs.declared.faults.PassError.TheVariants.{Input, Fault}

-- what a run answers to the block at hand
abbrev pub pass_answer : {S D : Type 0} → Result ℕ PassFault → Answer S D
pass_answer (Ok n) = Loaded n
pass_answer (Err f) = NotLoaded f.fault

abbrev pub loads_of : {I D : Type 0} → List (List ℕ) → List (Call I D)
loads_of bs = map Load bs

-- Blocks that a run takes, one behind another from its opening on.
pub data Taken {S I D : Type 0} (j : Joins S) (k : Rules S I D) (w : Terms I) : List (List ℕ) → Type 0 where
  none : Taken j k w []
  more : (bs : List (List ℕ)) (b : List ℕ) (n : ℕ) → Taken j k w bs → answered j k w (loads_of bs) (Load b) ≡ Loaded n
      → Taken j k w (bs ++ (b ∷ []))

-- Blocks of which a run takes all but the last; that one is refused, by a fault, and has a number, of which the first
-- block's is given.
pub record Broken {S I D : Type 0} (j : Joins S) (k : Rules S I D) (w : Terms I) (first : ℕ) (f : PassFault) (bs : List (List ℕ)) : Type 0 where
  pub front : List (List ℕ)
  pub last : List ℕ
  pub are : bs ≡ front ++ (last ∷ [])
  pub taken : Taken j k w front
  pub refused : answered j k w (loads_of front) (Load last) ≡ NotLoaded f.fault
  pub at : f.index ≡ first + length front

-- Blocks that a run takes from its opening on, all of them, and how it stands then.
abbrev pub AllTaken : {S I D : Type 0} → Joins S → Rules S I D → List S → Terms I → Run S → List (List ℕ) → Type 0
AllTaken j k given w run bs = Taken j k w bs × Stands j k given w (after j k w (loads_of bs)) run

-- Blocks that were loaded into a run from its opening on, as far as it takes them. The first has a number; so many have been
-- read with it, and so many now.
abbrev pub LoadedTo : {S I D : Type 0} → Joins S → Rules S I D → List S → Terms I → ℕ → ℕ → ℕ → Run S → Result (Unit {0}) PassError → List (List ℕ) → Type 0
LoadedTo j k given w first read now run (Ok u) bs = AllTaken j k given w run bs
LoadedTo j k given w first read now run (Err (Fault f)) bs = (b : Broken j k w first f bs) × (now ≡ read + length b.front)
LoadedTo j k given w first read now run (Err (Input e)) bs = Unit {0}

-- the same of the block at hand and some behind it
abbrev pub LoadedFrom : {S I D : Type 0} → Joins S → Rules S I D → List S → Terms I → ℕ → ℕ → ℕ → List ℕ → Run S → Result (Unit {0}) PassError → Type 0
LoadedFrom j k given w first read now hand run r = (rest : List (List ℕ)) × LoadedTo j k given w first read now run r (hand ∷ rest)

-- The same of the block at hand and all behind it, or those of them up to the first that is refused.
abbrev pub LoadedAll : {S I D : Type 0} → Joins S → Rules S I D → List S → Terms I → ℕ → List ℕ → List (List ℕ) → Run S → Result (Unit {0}) PassError → Type 0
LoadedAll j k given w first hand behind run (Ok u) = AllTaken j k given w run (hand ∷ behind)
LoadedAll j k given w first hand behind run (Err (Fault f)) =
    (front : List (List ℕ)) × ((rest : List (List ℕ)) × ((behind ≡ front ++ rest) × Broken j k w first f (hand ∷ front)))
LoadedAll j k given w first hand behind run (Err (Input e)) = Unit {0}
