-- An answer that is well came by the way that is well.
use Rattle.std.proofs.Common.{◌≡◌, ℕ, Bool, true, false, cond, Ok, Err, Result, refl, arith}

pub cond_then : {Y E : Type 0} (b : Bool) (x : Result Y E) (e : E) (y : Y) → cond b x (Err e) ≡ Ok y → (b ≡ true) × (x ≡ Ok y)
cond_then true x e y p = (refl, p)
cond_then false x e y p = let z : ◌≡◌ {A = ℕ} 0 1 = cc in absurd (omega arith)

pub cond_else : {Y E : Type 0} (b : Bool) (x : Result Y E) (e : E) (y : Y) → cond b (Err e) x ≡ Ok y → (b ≡ false) × (x ≡ Ok y)
cond_else true x e y p = let z : ◌≡◌ {A = ℕ} 0 1 = cc in absurd (omega arith)
cond_else false x e y p = (refl, p)
