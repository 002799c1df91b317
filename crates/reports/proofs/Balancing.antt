-- The balance of counts, by one step and then by the list.
use Rattle.std.proofs.Common.{◌≡◌, ℕ, suc, ◌+◌, ◌-◌, ◌%◌, ◌<◌, ◌≤◌, List, [], ◌∷◌, length, Some, sym, refl, ◌∙◌, arith, None}
use Rattle.std.specs.List.{AllByRecursion}
use Rattle.std.proofs.lemmas.Bool.Decides.{nat_tests}
use Rattle.traces.specs.Entries.{Entry}
use Rattle.traces.specs.Traces.{EntryCounts, items_of, replayed, ran}
use Rattle.counts.specs.Counts.{count_state, count_rules}
use Rattle.counts.specs.Tallies.{no_tallies, plus, of_difference, between}
use Rattle.counts.specs.declared.frames.FrameCount.{FrameCount}
use Rattle.counts.specs.declared.states.CountState.{CountState}
use Rattle.counts.specs.declared.tallies.Tallies.{Tallies}
use Rattle.reports.specs.Balance.{nothing_seen, count_of_first, Balanced, Balances}

-- what one difference adds: late by at most 1, and where not late, missing and the frame itself make up for it
one_late : (d : ℕ) → (of_difference d).late ≤ 1
one_late d = grind (arith, nat_tests)

one_balance : (d : ℕ) → (of_difference d).late ≡ 0 → 1 + (of_difference d).missing ≡ d + (of_difference d).repeats
one_balance d h = grind (arith, nat_tests)

-- the same once it is added to tallies, which wrap
added : (n l d tm tr xm xr : ℕ) → l < 16384 → d ≡ ((n + 16384) - l) % 16384 → 1 + xm ≡ d + xr
    → (1 + (tm + xm) % 4294967296 + l + tr) % 16384 ≡ (n + (tr + xr) % 4294967296 + tm) % 16384
added n l d tm tr xm xr hl is h = omega arith

-- two stretches one behind the other
chained : (f m0 m1 m2 r0 r1 r2 l0 l1 l2 : ℕ)
    → (1 + m1 + l0 + r0) % 16384 ≡ (l1 + r1 + m0) % 16384
    → (f + m2 + l1 + r1) % 16384 ≡ (l2 + r2 + m1) % 16384
    → (suc f + m2 + l0 + r0) % 16384 ≡ (l2 + r2 + m0) % 16384
chained f m0 m1 m2 r0 r1 r2 l0 l1 l2 a b = omega arith

-- from a last count and tallies: late does not fall, and where it stays the counts balance
record Carried (is : List FrameCount) (l : ℕ) (t : Tallies) (end : CountState) : Type 0 where
  last : ℕ
  seen : end.last ≡ Some last
  grows : t.late ≤ end.tallies.late
  balance : end.tallies.late ≡ t.late
      → (length is + end.tallies.missing + l + t.repeats) % 16384 ≡ (last + end.tallies.repeats + t.missing) % 16384

carried : (is : List FrameCount) (l : ℕ) (t : Tallies) → l < 16384 → AllByRecursion count_rules.is_item is → t.late + length is < 4294967296
    → Carried is l t (replayed count_rules (count_state (Some l) t) is)
carried [] l t hl all room = record { last = l; seen = refl; grows = omega arith; balance = λ _. omega arith }
carried (i ∷ is) l t hl all room =
    let d : ℕ = ((i.count + 16384) - l) % 16384 in
    let x : Tallies = between l i.count in
    let small : x.late ≤ 1 = one_late d in
    let here : (t.late + x.late) % 4294967296 ≡ t.late + x.late = omega arith in
    let rest = carried is i.count (plus t x) all.0 all.1 (omega arith) in
    record {
      last = rest.last;
      seen = rest.seen;
      grows = omega (arith, rest.grows);
      balance = λ same.
          let none : x.late ≡ 0 = omega (arith, rest.grows) in
          let still : (plus t x).late ≡ t.late = omega arith in
          chained (length is) t.missing (plus t x).missing _ t.repeats (plus t x).repeats _ l i.count _
          (added i.count l d t.missing t.repeats x.missing x.repeats hl refl (one_balance d none))
          (rest.balance (same ∙ sym still));
    }

items_count : (es : List (Entry FrameCount)) → AllByRecursion (EntryCounts count_rules) es → AllByRecursion count_rules.is_item (items_of es)
items_count [] all = tt
items_count (Some i ∷ es) all = (all.0, items_count es all.1)
items_count (None ∷ es) all = items_count es all.1

items_fewer : (es : List (Entry FrameCount)) → length (items_of es) ≤ length es
items_fewer [] = omega arith
items_fewer (Some i ∷ es) = omega (arith, items_fewer es)
items_fewer (None ∷ es) = omega (arith, items_fewer es)

-- the balance of the frames alone
items_balance : (is : List FrameCount) (first : ℕ) → AllByRecursion count_rules.is_item is → length is ≤ 4096 → count_of_first is ≡ Some first
    → (replayed count_rules nothing_seen is).tallies.late ≡ 0 → Balanced (length is) first (replayed count_rules nothing_seen is)
items_balance [] first all few starts none = let z : ◌≡◌ {A = ℕ} 0 1 = cc in absurd (omega arith)
items_balance (i ∷ is) first all few starts none =
    let rest = carried is i.count no_tallies all.0 all.1 (omega arith) in
    let e : i.count ≡ first = cc in
    record { last = rest.last; seen = rest.seen; balance = omega (arith, rest.balance none) }

pub balances : (es : List (Entry FrameCount)) → AllByRecursion (EntryCounts count_rules) es → length es ≤ 4096 → Balances es (ran count_rules nothing_seen es)
balances es all few first = items_balance (items_of es) first (items_count es all) (omega (arith, items_fewer es))
