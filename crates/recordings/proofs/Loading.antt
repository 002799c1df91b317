-- Blocks loaded into a run, one more at the end.
use Rattle.std.proofs.Common.{◌≡◌, ℕ, ◌+◌, ◌<◌, List, [], ◌∷◌, ◌++◌, length, IfSome, Ok, Err, Option, Result, sym, refl, ap, ◌∙◌, subst, arith}
use Rattle.std.proofs.lemmas.List.{map_push, length_push}
use Rattle.station.specs.Laws.{Joins, Rules}
use Rattle.station.specs.Records.{Records}
use Rattle.run.specs.Calls.{Load, Loaded, NotLoaded}
use Rattle.run.specs.Rules.{Terms, after}
use Rattle.run.specs.Serving.{ServesBy}
use Rattle.run.specs.Standing.{Met, Stands, terms_of}
use Rattle.run.specs.declared.run.Run.{Run}
use Rattle.std.specs.Prelude.{IsErrAnd}
use Rattle.std.specs.declared.io.Error.{Error}
use Rattle.recordings.specs.declared.faults.PassFault.{PassFault}
use Rattle.recordings.specs.declared.faults.PassError.{PassError}
use Rattle.recordings.specs.declared.faults.PassError.TheVariants.{Input, Fault}
use Rattle.recordings.specs.Faults.{IfFault}
use Rattle.recordings.specs.Input.{blocks_of, GivesBlock}
use Rattle.recordings.specs.Loading.{loads_of, Taken, Broken, AllTaken, LoadedFrom, LoadedAll}
use Rattle.recordings.proofs.Cutting.{ReadsBlocks, reads_none, reads_more, reads_all, blocks_left, split_left, if_some}
use Rattle.recordings.proofs.Passing.{of_passed}

-- A loop that loads: some blocks are taken, and one is at hand; the first of them has a number, and so has this one. So many
-- have been read with the first, and so many now; so much was known of the bytes behind the first, and so much is of those
-- behind the one at hand.
pub record Loading {S I D : Type 0} (j : Joins S) (k : Rules S I D) (given : List S) (w : Terms I) (first count : ℕ) (begun : List ℕ) (index read : ℕ) (hand : List ℕ) (known left : Option (List ℕ)) (run : Run S) : Type 0 where
  pub blocks : List (List ℕ)
  pub rest : List (List ℕ)
  pub taken : Taken j k w blocks
  pub stands : Stands j k given w (after j k w (loads_of blocks)) run
  pub at : index ≡ first + length blocks
  pub counted : read ≡ count + length blocks
  pub begins : blocks ++ (hand ∷ []) ≡ begun ∷ rest
  pub behind : ReadsBlocks known left rest

module _ {S I D : Type 0} {j : Joins S} {k : Rules S I D} {records : Records I} {given : List S} {number : ℕ} where
  pub loading_starts : {run : Run S} (first count : ℕ) (hand : List ℕ) (known : Option (List ℕ)) → Met j k records given number [] run
      → Loading j k given (terms_of given number records) first count hand first count hand known known run
  loading_starts first count hand known met =
      record { blocks = []; rest = []; taken = Taken.none; stands = met; at = omega arith; counted = omega arith; begins = refl; behind = reads_none known }

  -- the block at hand is loaded, and the next is read
  pub loading_turn : {first count index read then n : ℕ} {begun hand : List ℕ} {known left : Option (List ℕ)} (next : List ℕ) (after_next : Option (List ℕ)) {before run : Run S}
      → then ≡ read + 1 → GivesBlock left after_next next → 0 < length next
      → Loading j k given (terms_of given number records) first count begun index read hand known left before
      → ServesBy j k records (Load hand) before run (Loaded n)
      → Loading j k given (terms_of given number records) first count begun (index + 1) then next known after_next run
  loading_turn {n = n} {hand = hand} next after_next {run = run} more gives some l serves =
      let w = terms_of given number records in
      let bs = l.blocks in
      let served = serves given number (loads_of bs) l.stands tt in
      record {
        blocks = bs ++ (hand ∷ []);
        rest = l.rest ++ (next ∷ []);
        taken = Taken.more bs hand n l.taken (sym served.answer);
        stands = subst (λ calls. Stands j k given w (after j k w calls) run) (sym (map_push Load bs hand)) served.met;
        at = omega (arith, l.at, length_push bs hand);
        counted = omega (arith, more, l.counted, length_push bs hand);
        begins = ap (λ xs. xs ++ (next ∷ [])) l.begins;
        behind = reads_more _ _ after_next l.rest next l.behind gives some;
      }

  -- it is the last
  loaded_rest : {first count index read n : ℕ} {begun hand : List ℕ} {known left : Option (List ℕ)} {before run : Run S}
      → (l : Loading j k given (terms_of given number records) first count begun index read hand known left before)
      → ServesBy j k records (Load hand) before run (Loaded n)
      → AllTaken j k given (terms_of given number records) run (begun ∷ l.rest)
  loaded_rest {n = n} {hand = hand} {run = run} l serves =
      let w = terms_of given number records in
      let bs = l.blocks in
      let served = serves given number (loads_of bs) l.stands tt in
      subst (AllTaken j k given w run) l.begins (
        Taken.more bs hand n l.taken (sym served.answer),
        subst (λ calls. Stands j k given w (after j k w calls) run) (sym (map_push Load bs hand)) served.met,
      )

  pub loading_ends : {first count index read n : ℕ} {begun hand : List ℕ} {known left : Option (List ℕ)} {before run : Run S} (now : ℕ)
      → Loading j k given (terms_of given number records) first count begun index read hand known left before
      → ServesBy j k records (Load hand) before run (Loaded n)
      → LoadedFrom j k given (terms_of given number records) first count now begun run (Ok tt)
  loading_ends now l serves = (l.rest, loaded_rest l serves)

  pub loading_ends_all : {first count index read n : ℕ} {begun hand : List ℕ} {known left : Option (List ℕ)} {before run : Run S} (nothing : List ℕ) (after_it : Option (List ℕ))
      → GivesBlock left after_it nothing → length nothing ≡ 0
      → Loading j k given (terms_of given number records) first count begun index read hand known left before
      → ServesBy j k records (Load hand) before run (Loaded n)
      → IfSome known (λ bytes. LoadedAll j k given (terms_of given number records) first begun (blocks_of bytes) run (Ok tt))
  loading_ends_all {first = first} {begun = begun} {known = known} {left = left} {run = run} nothing after_it gives none l serves =
      if_some known (λ bytes is. subst (λ rest. AllTaken j k given (terms_of given number records) run (begun ∷ rest)) (sym is) (loaded_rest l serves))
      (reads_all known left after_it l.rest nothing l.behind gives none)

  -- the input fails behind it
  pub loading_fails : {first count index read : ℕ} {begun hand : List ℕ} {known left : Option (List ℕ)} {before : Run S} (now : ℕ) (run : Run S) (e : Error) (r : Result (Unit {0}) PassError)
      → Loading j k given (terms_of given number records) first count begun index read hand known left before
      → IsErrAnd r (λ x. x ≡ Input e) → LoadedFrom j k given (terms_of given number records) first count now begun run r
  loading_fails now run e (Ok u) l h = absurd h
  loading_fails {first = first} {count = count} {begun = begun} now run e (Err x) l h =
      subst (λ y. LoadedFrom j k given (terms_of given number records) first count now begun run (Err y)) (sym h) ([], tt)

  -- it is refused
  broken_at : {first count index read : ℕ} {begun hand : List ℕ} {known left : Option (List ℕ)} {before run : Run S} (f : PassFault)
      → (l : Loading j k given (terms_of given number records) first count begun index read hand known left before)
      → ServesBy j k records (Load hand) before run (NotLoaded f.fault) → f.index ≡ index
      → (b : Broken j k (terms_of given number records) first f (begun ∷ l.rest)) × (read ≡ count + length b.front)
  broken_at {hand = hand} f l serves at =
      let bs = l.blocks in
      let served = serves given number (loads_of bs) l.stands tt in
      (record { front = bs; last = hand; are = sym l.begins; taken = l.taken; refused = sym served.answer; at = at ∙ l.at }, l.counted)

  pub loading_breaks : {first count index read : ℕ} {begun hand : List ℕ} {known left : Option (List ℕ)} {before run : Run S} (f : PassFault) (r : Result (Unit {0}) PassError)
      → Loading j k given (terms_of given number records) first count begun index read hand known left before
      → ServesBy j k records (Load hand) before run (NotLoaded f.fault) → f.index ≡ index → r ≡ Err (Fault f)
      → LoadedFrom j k given (terms_of given number records) first count read begun run r
  loading_breaks {first = first} {count = count} {read = read} {begun = begun} {run = run} f r l serves at passed =
      subst (LoadedFrom j k given (terms_of given number records) first count read begun run) (sym passed) (l.rest, broken_at f l serves at)

  pub loading_breaks_all : {first count index read : ℕ} {begun hand : List ℕ} {known left : Option (List ℕ)} {before run : Run S} (f : PassFault) (r : Result (Unit {0}) PassError)
      → Loading j k given (terms_of given number records) first count begun index read hand known left before
      → ServesBy j k records (Load hand) before run (NotLoaded f.fault) → f.index ≡ index → r ≡ Err (Fault f)
      → IfSome known (λ bytes. LoadedAll j k given (terms_of given number records) first begun (blocks_of bytes) run r)
  loading_breaks_all {first = first} {begun = begun} {known = known} {left = left} {run = run} f r l serves at passed =
      if_some known (λ bytes is. subst (LoadedAll j k given (terms_of given number records) first begun (blocks_of bytes) run) (sym passed)
      (l.rest, (blocks_left left, (split_left (blocks_of bytes) l.rest left is, (broken_at f l serves at).0)))) l.behind

-- The number of a block that is refused goes on from the first block's by the blocks read since.
pub fault_numbered : (count read first index : ℕ) (f : PassFault) (r : Result (Unit {0}) PassError) → f.index ≡ index → count + index ≡ read + first → r ≡ Err (Fault f)
    → IfFault r (λ g. count + g.index ≡ read + first)
fault_numbered count read first index f r is counted passed = of_passed (λ g. count + g.index ≡ read + first) r f passed (omega (arith, is, counted))
