-- Blocks loaded into a run.
use Rattle.std.proofs.Common.{◌≡◌, ℕ, ◌+◌, ◌/◌, ◌<◌, Bool, true, false, cond, leb, List, [], ◌++◌, map, length, get_or, is_ok, MatchResult, sym, None, Ok, Err, Result, refl, ap, ◌∙◌, Some}
use Rattle.std.proofs.lemmas.Bool.{both_ways, cond-true, cond-false}
use Rattle.station.specs.declared.refusals.Refusal.{Refusal}
use Rattle.station.specs.declared.refusals.Refusal.TheVariants.{NoRoom}
use Rattle.std.specs.Result.{IsErrAnd}
use Rattle.std.specs.Simd.{first_chunks}
use Rattle.loading.proofs.RecordReads.{record_bytes, chunk_here}
use Rattle.loading.specs.Faults.{load_fault}
use Rattle.loading.specs.declared.faults.LoadCause.TheVariants as cause
use Rattle.loading.specs.declared.faults.LoadFault.{LoadFault}
use Rattle.run.specs.Calls.{Answer, Loaded, NotLoaded}
use Rattle.run.specs.Rules.{Trace, Grant, Refuse, trace, unless_tried, appended_all}

-- a record's bytes, among the chunks of some bytes
pub chunk_record : (bs : List ℕ) (chunks : List (List ℕ)) (i : ℕ) → chunks ≡ first_chunks 16 (length bs / 16) bs → i < length bs / 16 → get_or chunks i [] ≡ record_bytes bs i
chunk_record bs chunks i e lt = ap (λ xs. get_or xs i []) e ∙ chunk_here bs i lt

-- an error that was turned into another, and an answer that was not
pub marked : {X E F : Type 0} (y : Result X E) (z : Result X F) (d m : F) → MatchResult y (λ v. z ≡ Ok v) (λ e. IsErrAnd z (λ f. f ≡ m)) → z ≡ Err d → ((e : E) × (y ≡ Err e)) × (d ≡ m)
marked (Ok v) z d m h p = absurd cc
marked (Err e) (Ok v) d m h p = absurd cc
marked (Err e) (Err f) d m h p = ((e, refl), cc)

pub marked_ok : {X E F : Type 0} (y : Result X E) (z : Result X F) (x : X) → is_ok z ≡ is_ok y → z ≡ Ok x → (v : X) × (y ≡ Ok v)
marked_ok (Ok v) z x same p = (v, refl)
marked_ok (Err e) z x same p = absurd (both_ways true (sym (ap is_ok p) ∙ same) refl)

-- whether there was room
pub room_found : (b : Bool) (r : Result (Unit {0}) Refusal) (u : Unit {0}) → r ≡ cond b (Ok tt) (Err NoRoom) → r ≡ Ok u → (b ≡ true) × (r ≡ Ok tt)
room_found true r u is h = (refl, is)
room_found false r u is h = absurd cc

pub room_wanting : (b : Bool) (r : Result (Unit {0}) Refusal) (e : Refusal) → r ≡ cond b (Ok tt) (Err NoRoom) → r ≡ Err e → (b ≡ false) × (r ≡ Err NoRoom)
room_wanting true r e is h = absurd cc
room_wanting false r e is h = (refl, is)

module _ {S I D : Type 0} (room : ℕ) (t : Trace I) (a : Answer S D) (x : Result (List I) LoadFault) (idle : t.tried ≡ None) where
  opened : unless_tried t.tried a (appended_all room t x) ≡ appended_all room t x
  opened = ap (λ o. unless_tried o a (appended_all room t x)) idle

  pub load_fault_lem : (f : LoadFault) → x ≡ Err f → unless_tried t.tried a (appended_all room t x) ≡ Refuse (NotLoaded f)
  load_fault_lem f is = opened ∙ ap (appended_all room t) is

  pub load_full : (is : List I) → x ≡ Ok is → leb (length t.entries + length is) room ≡ false
      → unless_tried t.tried a (appended_all room t x) ≡ Refuse (NotLoaded (load_fault cause.NoRoom (length t.entries)))
  load_full is e full = opened ∙ (ap (appended_all room t) e ∙ cond-false _ _ _ full)

  pub load_granted : (is : List I) → x ≡ Ok is → leb (length t.entries + length is) room ≡ true
      → unless_tried t.tried a (appended_all room t x) ≡ Grant (Loaded (length is)) (trace (t.entries ++ map Some is) t.tried)
  load_granted is e fits = opened ∙ (ap (appended_all room t) e ∙ cond-true _ _ _ fits)
