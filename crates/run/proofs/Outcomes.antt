-- From what becomes of a call to what a run has met; and when a call is granted.
use Rattle.std.proofs.Common.{◌≡◌, ℕ, Bool, true, false, cond, eqb, ltb, ◌<◌, length, List, [], ◌∷◌, ◌++◌, is_some, Some, None, Option, sym, refl, ap, ◌∙◌, subst, Ok, Err, is_ok, Result, set}
use Rattle.std.proofs.lemmas.Bool.{ltb-true, both_ways, cond-true, cond-false, eq-eqb, eqb-true}
use Rattle.station.specs.Laws.{Joins, Rules}
use Rattle.station.specs.Records.{Records}
use Rattle.station.specs.declared.refusals.Refusal.{Refusal}
use Rattle.station.specs.declared.refusals.Refusal.TheVariants.{TrialOpen, NothingToSettle, NoSuchPosition}
use Rattle.traces.specs.Entries.{Entry}
use Rattle.traces.specs.Traces.{EntryCounts}
use Rattle.run.specs.Calls.{Call, Answer, Done, Refused, answer_by, put_call}
use Rattle.run.specs.Rules.{Trial, Trace, Terms, Outcome, Grant, Refuse, answer_of, trace_of, trace, edited_at, unless_tried, provided, settled, outcome, after_from, after, empty_trace}
use Rattle.run.specs.Standing.{Stands, Met, terms_of, place_of, tried_by, IsSettledBy, unless_open, unless_uneditable}
use Rattle.run.specs.Serving.{Served, CallCounts}
use Rattle.run.specs.declared.run.Run.{Run}

module _ {S I D : Type 0} where
  -- one call more at the end
  after_push : (j : Joins S) (k : Rules S I D) (w : Terms I) (t : Trace I) (calls : List (Call I D)) (c : Call I D)
      → after_from j k w t (calls ++ (c ∷ [])) ≡ trace_of (after_from j k w t calls) (outcome j k w (after_from j k w t calls) c)
  after_push j k w t [] c = refl
  after_push j k w t (d ∷ calls) c = after_push j k w (trace_of t (outcome j k w t d)) calls c

  pub served_refused : {j : Joins S} {k : Rules S I D} {records : Records I} {given : List S} {number : ℕ} {calls : List (Call I D)} {run : Run S} (c : Call I D) (a : Answer S D)
      → outcome j k (terms_of given number records) (after j k (terms_of given number records) calls) c ≡ Refuse a
      → Met j k records given number calls run → Served j k records given number calls c run a
  served_refused {j} {k} {records} {given} {number} {calls} {run} c a e met =
      let w = terms_of given number records in
      let t = after j k w calls in
      record { answer = sym (ap answer_of e); met = subst (λ u. Stands j k given w u run) (sym (after_push j k w empty_trace calls c ∙ ap (trace_of t) e)) met }

  pub served_granted : {j : Joins S} {k : Rules S I D} {records : Records I} {given : List S} {number : ℕ} {calls : List (Call I D)} {end : Run S} (c : Call I D) (a : Answer S D) (u : Trace I)
      → outcome j k (terms_of given number records) (after j k (terms_of given number records) calls) c ≡ Grant a u
      → Stands j k given (terms_of given number records) u end → Served j k records given number calls c end a
  served_granted {j} {k} {records} {given} {number} {calls} {end} c a u e stands =
      let w = terms_of given number records in
      let t = after j k w calls in
      record { answer = sym (ap answer_of e); met = subst (λ v. Stands j k given w v end) (sym (after_push j k w empty_trace calls c ∙ ap (trace_of t) e)) stands }

module _ {S I D : Type 0} where
  -- a trial is open, or none is
  pub is_tried : (o : Option (Trial I)) (trial : Option ℕ) (a : Answer S D) (x : Outcome S I D) → trial ≡ place_of o → is_some trial ≡ true → unless_tried o a x ≡ Refuse a
  is_tried None trial a x e t = absurd (both_ways (is_some trial) (ap is_some e) t)
  is_tried (Some p) trial a x e t = refl

  -- no trial, and then a test
  pub gate_open : (o : Option (Trial I)) (test : Bool) (a b : Answer S D) (x : Outcome S I D) → o ≡ None → test ≡ true → unless_tried o a (provided test b x) ≡ x
  gate_open o test a b x idle met = ap (λ v. unless_tried v a (provided test b x)) idle ∙ cond-true test x (Refuse b) met

  pub gate_shut : (o : Option (Trial I)) (test : Bool) (a b : Answer S D) (x : Outcome S I D) → o ≡ None → test ≡ false → unless_tried o a (provided test b x) ≡ Refuse b
  gate_shut o test a b x idle failed = ap (λ v. unless_tried v a (provided test b x)) idle ∙ cond-false test x (Refuse b) failed

-- the same by what the first check of an edit answers
pub gate_idle : {I : Type 0} (o : Option (Trial I)) (trial : Option ℕ) (r : Result (Unit {0}) Refusal) (u : Unit {0}) → trial ≡ place_of o → r ≡ unless_open trial → r ≡ Ok u → o ≡ None
gate_idle None trial r u e s ok = refl
gate_idle (Some p) trial r u e s ok = absurd (both_ways true (ap is_ok (sym ok ∙ s ∙ ap unless_open e)) refl)

pub gate_none : (trial : Option ℕ) (r : Result (Unit {0}) Refusal) (u : Unit {0}) → r ≡ unless_open trial → r ≡ Ok u → is_some trial ≡ false
gate_none None r u s ok = refl
gate_none (Some p) r u s ok = absurd (both_ways true (ap is_ok (sym ok ∙ s)) refl)

pub gate_some : (trial : Option ℕ) (r : Result (Unit {0}) Refusal) (e : Refusal) → r ≡ unless_open trial → r ≡ Err e → is_some trial ≡ true
gate_some None r e s err = absurd cc
gate_some (Some p) r e s err = refl

gate_closed : {S I D : Type 0} (o : Option (Trial I)) (trial : Option ℕ) (r : Result (Unit {0}) Refusal) (e : Refusal) (x : Outcome S I D) → trial ≡ place_of o → r ≡ unless_open trial → r ≡ Err e
    → unless_tried o (Refused TrialOpen) x ≡ Refuse (Refused e)
gate_closed None trial r e x t s err = absurd (both_ways true (ap is_ok (sym (ap unless_open t) ∙ sym s ∙ err)) refl)
gate_closed (Some p) trial r e x t s err = (let same = sym (s ∙ ap unless_open t) ∙ err in cc)

-- an edit that its first check refuses
pub served_open : {S I D X : Type 0} {j : Joins S} {k : Rules S I D} {records : Records I} {given : List S} {number : ℕ} {calls : List (Call I D)} {run : Run S}
    (c : Call I D) (f : X → Answer S D) (x : Outcome S I D) (s : Result (Unit {0}) Refusal) (r : Result X Refusal) (e : Refusal)
    → outcome j k (terms_of given number records) (after j k (terms_of given number records) calls) c ≡ unless_tried (after j k (terms_of given number records) calls).tried (Refused TrialOpen) x
    → s ≡ unless_open run.trial → s ≡ Err e → r ≡ Err e → Met j k records given number calls run → Served j k records given number calls c run (answer_by f r)
served_open {j} {k} {records} {given} {number} {calls} {run} c f x s r e is settled was same met =
    let t = after j k (terms_of given number records) calls in
    served_refused c (answer_by f r) (is ∙ gate_closed t.tried run.trial s e x met.trying settled was ∙ ap (λ q. Refuse (answer_by f q)) (sym same)) met

-- the same by what the checks of an edit at a position answer
pub record Editable {I : Type 0} (o : Option (Trial I)) (position size : ℕ) : Type 0 where
  pub idle : o ≡ None
  pub within : position < size

pub editable : {I : Type 0} (o : Option (Trial I)) (trial : Option ℕ) (position size : ℕ) (r : Result (Unit {0}) Refusal) (u : Unit {0}) → trial ≡ place_of o
    → r ≡ unless_uneditable trial position size → r ≡ Ok u → Editable o position size
editable None trial position size r u e s ok = record { idle = refl; within = passed (ltb position size) refl (sym (s ∙ ap (λ v. unless_uneditable v position size) e) ∙ ok) }
  where
    passed : (b : Bool) → ltb position size ≡ b → ◌≡◌ {A = Result (Unit {0}) Refusal} (cond b (Ok tt) (Err NoSuchPosition)) (Ok u) → position < size
    passed true h p = ltb-true position size h
    passed false h p = absurd cc
editable (Some p) trial position size r u e s ok = absurd (both_ways true (ap is_ok (sym ok ∙ s ∙ ap (λ v. unless_uneditable v position size) e)) refl)

shut : {S I D : Type 0} (o : Option (Trial I)) (trial : Option ℕ) (position size : ℕ) (e : Refusal) (x : Outcome S I D) → trial ≡ place_of o → unless_uneditable trial position size ≡ Err e
    → unless_tried o (Refused TrialOpen) (provided (ltb position size) (Refused NoSuchPosition) x) ≡ Refuse (Refused e)
shut None trial position size e x t h = failed (ltb position size) (sym (ap (λ v. unless_uneditable v position size) t) ∙ h)
  where
    failed : (b : Bool) → ◌≡◌ {A = Result (Unit {0}) Refusal} (cond b (Ok tt) (Err NoSuchPosition)) (Err e) → provided b (Refused NoSuchPosition) x ≡ Refuse (Refused e)
    failed true p = absurd cc
    failed false p = let same : NoSuchPosition ≡ e = cc in ap (λ v. Refuse (Refused v)) same
shut (Some p) trial position size e x t h =
    let q : ◌≡◌ {A = Result (Unit {0}) Refusal} (Err TrialOpen) (Err e) = sym (ap (λ v. unless_uneditable v position size) t) ∙ h in
    let same : TrialOpen ≡ e = cc in
    ap (λ v. Refuse (Refused v)) same

-- an edit at a position that these checks refuse
pub served_uneditable : {S I D X : Type 0} {j : Joins S} {k : Rules S I D} {records : Records I} {given : List S} {number : ℕ} {calls : List (Call I D)} {run : Run S}
    (c : Call I D) (f : X → Answer S D) (x : Outcome S I D) (position : ℕ) (s : Result (Unit {0}) Refusal) (r : Result X Refusal) (e : Refusal)
    → outcome j k (terms_of given number records) (after j k (terms_of given number records) calls) c ≡ edited_at (after j k (terms_of given number records) calls) position x
    → s ≡ unless_uneditable run.trial position run.length → s ≡ Err e → r ≡ Err e → Met j k records given number calls run → Served j k records given number calls c run (answer_by f r)
served_uneditable {j} {k} {records} {given} {number} {calls} {run} c f x position s r e is checks was same met =
    let t = after j k (terms_of given number records) calls in
    served_refused c (answer_by f r)
    (is ∙ shut t.tried run.trial position (length t.entries) e x met.trying (ap (unless_uneditable run.trial position) (sym met.counted) ∙ sym checks ∙ was) ∙ ap (λ q. Refuse (answer_by f q)) (sym same)) met

-- an option by its test
pub is_nothing : {X : Type 0} (o : Option X) → is_some o ≡ false → o ≡ None
is_nothing None e = refl
is_nothing (Some x) e = absurd (both_ways true e refl)

pub is_something : {X : Type 0} (o : Option X) → is_some o ≡ true → (x : X) × (o ≡ Some x)
is_something None e = absurd (both_ways true (sym e) refl)
is_something (Some x) e = (x, refl)

-- the trial that is open
opened : {I : Type 0} (o : Option (Trial I)) (i : ℕ) → Some i ≡ place_of o → (old : Entry I) × (o ≡ Some (record { place = i; old = old }))
opened None i e = absurd (both_ways true (ap is_some e) refl)
opened (Some p) i e = (p.old, let same : i ≡ p.place = cc in ap (λ x. Some (record { place = x; old = p.old })) (sym same))

-- a settlement that this ticket cannot bring about
pub unsettled : {S I D : Type 0} (o : Option (Trial I)) (run : Run S) (number shown : ℕ) (f : Trial I → Outcome S I D) → run.trial ≡ place_of o → run.number ≡ number
    → tried_by shown run ≡ None → settled o number shown f ≡ Refuse (Refused NothingToSettle)
unsettled None run number shown f e n h = refl
unsettled (Some p) run number shown f e n h = cond-false _ _ _ (differs (eqb shown number) (ap (λ m. cond (eqb shown m) (Some p.place) None) (sym n) ∙ ap (λ o. cond (eqb shown run.number) o None) (sym e) ∙ h))
  where
    differs : (b : Bool) → cond b (Some p.place) None ≡ None → b ≡ false
    differs true h = absurd (both_ways true (ap is_some h) refl)
    differs false h = refl

-- one that it brings about
pub record Settling {I : Type 0} (o : Option (Trial I)) (number shown place : ℕ) : Type 0 where
  pub old : Entry I
  pub tried : o ≡ Some (record { place = place; old = old })
  pub same : shown ≡ number

pub settling : {S I : Type 0} (o : Option (Trial I)) (run : Run S) (number shown place : ℕ) → run.trial ≡ place_of o → run.number ≡ number
    → tried_by shown run ≡ Some place → Settling o number shown place
settling o run number shown place e n h =
    let both = found (eqb shown run.number) run.trial h in
    let was = opened o place (sym both.1 ∙ e) in
    record { old = was.0; tried = was.1; same = eqb-true shown run.number both.0 ∙ n }
  where
    found : (b : Bool) (t : Option ℕ) → cond b t None ≡ Some place → (b ≡ true) × (t ≡ Some place)
    found true t h = (refl, h)
    found false t h = absurd (both_ways true (ap is_some (sym h)) refl)

-- a ticket that settles an open trial, by what the code asks
pub found_by : {S : Type 0} {shown : ℕ} {run : Run S} (s : IsSettledBy shown run) → tried_by shown run ≡ Some s.place
found_by {S} {shown} {run} s = cond-true (eqb shown run.number) run.trial None (eq-eqb shown run.number s.numbered) ∙ s.tried

-- a write that was granted
pub granted_by : (b : Bool) (r : Result (Unit {0}) Refusal) → r ≡ cond b (Ok tt) (Err NoSuchPosition) → r ≡ Ok tt → b ≡ true
granted_by true r e h = refl
granted_by false r e h = absurd (both_ways true (ap is_ok (sym h ∙ e)) refl)

pub settles : {S I D : Type 0} {o : Option (Trial I)} {number shown place : ℕ} (f : Trial I → Outcome S I D) (s : Settling o number shown place)
    → settled o number shown f ≡ f (record { place = place; old = s.old })
settles {number} {shown} {place} f s =
    ap (λ v. settled v number shown f) s.tried ∙ cond-true (eqb shown number) (f (record { place = place; old = s.old })) (Refuse (Refused NothingToSettle)) (eq-eqb shown number s.same)

-- an entry put at a position, whichever call it is
pub put_outcome : {S I D : Type 0} (j : Joins S) (k : Rules S I D) (w : Terms I) (t : Trace I) (p : ℕ) (e : Entry I)
    → outcome j k w t (put_call p e) ≡ edited_at t p (Grant Done (trace (set t.entries p e) t.tried))
put_outcome j k w t p (Some i) = refl
put_outcome j k w t p None = refl

pub put_counts : {S I D : Type 0} (k : Rules S I D) (p : ℕ) (e : Entry I) → CallCounts k (put_call p e) → EntryCounts k e
put_counts k p (Some i) h = h
put_counts k p None h = tt
