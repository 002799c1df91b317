-- What is told of blocks that were loaded.
use Rattle.std.proofs.Common.{◌≡◌, ℕ, List, ◌∷◌, length, IfOk, IfSome, Option, Ok, Err, Result, sym, ap, ◌∙◌, subst}
use Rattle.station.specs.Laws.{Joins, Rules}
use Rattle.station.specs.Pairs.{pair}
use Rattle.station.specs.Records.{Records}
use Rattle.station.specs.declared.letters.Letter.{Letter}
use Rattle.station.specs.declared.pairing.Pair.{Pair}
use Rattle.traces.specs.Traces.{states_along}
use Rattle.tree.specs.Capacity.{capacity, capacity_from}
use Rattle.run.specs.Rules.{after}
use Rattle.run.specs.Serving.{Tells}
use Rattle.run.specs.Standing.{terms_of}
use Rattle.run.specs.declared.run.Run.{Run}
use Rattle.recordings.specs.Input.{blocks_of}
use Rattle.recordings.specs.Loading.{loads_of, Taken, Broken, AllTaken, LoadedFrom, LoadedAll}
use Rattle.passes.specs.Reports.{pass_terms, Report, KindReport, OnAll, Told}
use Rattle.station.specs.Letters.{letter_text}
use Rattle.passes.specs.Texts.{pass_text, break_text}
use Rattle.recordings.proofs.Cutting.{if_some}
use Rattle.recordings.specs.declared.faults.PassFault.{PassFault}
use Rattle.recordings.specs.declared.faults.PassError.{PassError}
use Rattle.recordings.specs.declared.faults.PassError.TheVariants.{Fault}

pub made_map : {X E : Type 0} (M N : X → Type 0) (r : Result X E) → ((x : X) → M x → N x) → IfOk r M → IfOk r N
made_map M N (Ok x) f m = f x m
made_map M N (Err e) f m = m

room_of : (n : ℕ) → n ≡ 1024 → capacity n ≡ 512
unfolding capacity capacity_from
room_of n p = ap capacity p

pass_terms_lem : {S I : Type 0} (records : Records I) (given : List S) → length given ≡ 1024 → terms_of given 0 records ≡ pass_terms records
pass_terms_lem records given cells = ap (λ n. record { room = n; number = 0; records = records }) (room_of (length given) cells)

module _ {S I D : Type 0} (j : Joins S) (k : Rules S I D) (records : Records I) (given : List S) (cells : length given ≡ 1024)
    (start : D) (text_of : D → List ℕ) (first read : ℕ) (hand : List ℕ) (known : Option (List ℕ)) (run : Run S) where
  abbrev pub OnRest : List (List ℕ) → List ℕ → Type 0
  OnRest rest = Report j k records start text_of first (hand ∷ rest)

  broken_on : (rest : List (List ℕ)) (f : PassFault) → Broken j k (terms_of given 0 records) first f (hand ∷ rest) → OnRest rest (break_text f)
  broken_on rest f broken =
      Report.broken (hand ∷ rest) f (subst (λ w. Broken j k w first f (hand ∷ rest)) (pass_terms_lem records given cells) broken)

  broken_on_all : (f : PassFault) (bytes : List ℕ) → LoadedAll j k given (terms_of given 0 records) first hand (blocks_of bytes) run (Err (Fault f)) → OnAll OnRest (blocks_of bytes) (break_text f)
  broken_on_all f bytes l = OnAll.to_a_fault l.0 l.1.0 f l.1.1.0 (broken_on l.0 f l.1.1.1)

  pub report_broken : {X E : Type 0} (now : ℕ) (error : PassError) (bytes_of : X → List ℕ) (r : Result X E)
      → LoadedFrom j k given (terms_of given 0 records) first read now hand run (Err error)
      → IfSome known (λ bytes. LoadedAll j k given (terms_of given 0 records) first hand (blocks_of bytes) run (Err error))
      → IfOk r (λ x. (f : PassFault) × ((error ≡ Fault f) × (bytes_of x ≡ break_text f)))
      → IfOk r (λ x. Told known OnRest (bytes_of x))
  report_broken now error bytes_of r loaded loaded_all =
      let w = terms_of given 0 records in
      made_map _ _ r (λ x told.
      let l = subst (λ e. LoadedFrom j k given w first read now hand run (Err e)) told.1.0 loaded in
      let a = subst (λ e. IfSome known (λ bytes. LoadedAll j k given w first hand (blocks_of bytes) run (Err e))) told.1.0 loaded_all in
      subst (Told known OnRest) (sym told.1.1)
      (record { blocks = l.0; on = broken_on l.0 told.0 l.1.0; all = if_some known (broken_on_all told.0) a }))

  whole_on : (states shown : List D) (letter : Letter) (text : List ℕ) (rest : List (List ℕ))
      → Tells j k run (λ t. k.is_state start → states ≡ states_along k start t.entries) → k.is_state start
      → shown ≡ states → letter ≡ records.letter → text ≡ pass_text text_of (letter_text letter) shown
      → AllTaken j k given (terms_of given 0 records) run (hand ∷ rest) → OnRest rest text
  whole_on states shown letter text rest along state same lettered told l =
      let bs = hand ∷ rest in
      let entries : shown ≡ states_along k start (after j k (pass_terms records) (loads_of bs)).entries =
      same ∙ along records given 0 (loads_of bs) l.1 state ∙ ap (λ w. states_along k start (after j k w (loads_of bs)).entries) (pass_terms_lem records given cells) in
      subst (OnRest rest) (sym (told ∙ ap (λ l. pass_text text_of (letter_text l) shown) lettered ∙ ap (pass_text text_of (letter_text records.letter)) entries))
      (Report.whole bs (subst (λ w. Taken j k w bs) (pass_terms_lem records given cells) l.0))

  pub report_whole : (now : ℕ) (u : Unit {0}) (states shown : List D) (letter : Letter) (text : List ℕ)
      → LoadedFrom j k given (terms_of given 0 records) first read now hand run (Ok u)
      → IfSome known (λ bytes. LoadedAll j k given (terms_of given 0 records) first hand (blocks_of bytes) run (Ok u))
      → Tells j k run (λ t. k.is_state start → states ≡ states_along k start t.entries) → k.is_state start
      → shown ≡ states → letter ≡ records.letter → text ≡ pass_text text_of (letter_text letter) shown
      → Told known OnRest text
  report_whole now u states shown letter text loaded loaded_all along state same lettered told =
      let whole = λ (rest : List (List ℕ)). whole_on states shown letter text rest along state same lettered told in
      record { blocks = loaded.0; on = whole loaded.0 loaded.1; all = if_some known (λ bytes l. OnAll.to_the_end text (whole (blocks_of bytes) l)) loaded_all }

-- of the kind with a letter that is known
pub of_letter : {X E : Type 0} {l m : Letter} (first : ℕ) (hand : List ℕ) (known : Option (List ℕ)) (bytes_of : X → List ℕ) (r : Result X E) → l ≡ m
    → IfOk r (λ x. Told known (λ rest. KindReport m first (hand ∷ rest)) (bytes_of x))
    → IfOk r (λ x. Told known (λ rest. KindReport l first (hand ∷ rest)) (bytes_of x))
of_letter first hand known bytes_of r is told =
    subst (λ n. IfOk r (λ x. Told known (λ rest. KindReport n first (hand ∷ rest)) (bytes_of x))) (sym is) told

pub paired : {X Y : Type 0} (p : Pair X Y) (x : X) (y : Y) → p.first ≡ x → p.second ≡ y → p ≡ pair x y
paired p x y a b = ap (λ v. pair v p.second) a ∙ ap (pair x) b
