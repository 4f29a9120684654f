-- `array::from_fn` with a closure that changes no capture: what holds of each call holds of each element. Assumes nothing.
use Rattle.std.proofs.Common.{◌≡◌, ◌≤◌, ◌<◌, inl, inr, ℕ, zero, suc, List, ◌+◌, refl, sym, subst, slice_index_or, arith}
use Rattle.std.proofs.Math.Nat.{eq-or-lt_of_le}
use Rattle.std.specs.Array.{IsFromFnResultFrom, IsFromFnResult}
use denote.Param.Members.{Mut, Called}

module _ {F B : Type 0} (g : Mut F (ℕ × Unit {0}) B) (P : ℕ → B → Type 0)
    (f : F) (h : (i : ℕ) (y : B) (q : F) → Called g f (i, tt) y q → (q ≡ f) × P i y) where
  each_from : (p : F) (ys : List B) (i n k : ℕ) (d : B) → p ≡ f → IsFromFnResultFrom g p ys i n → i ≤ k → k < i + n → P k (slice_index_or ys k d)
  each_from p ys i zero k d e t low high = absurd (omega (arith, low, high))
  each_from p ys i (suc n) k d e t low high =
      let here = h i t.1 t.0 (subst (λ (x : F). Called g x (i, tt) t.1 t.0) e t.3) in
      let first : i ≡ k → P k (slice_index_or ys k d) = λ at. subst (λ j. P j (slice_index_or ys j d)) at (subst (P i) (sym (t.2.1 d)) here.1) in
      let later : i < k → P k (slice_index_or ys k d) = λ lt. each_from t.0 ys (i + 1) n k d here.0 t.4 (omega (arith, lt)) (omega (arith, high)) in
      elim (eq-or-lt_of_le low) [
        | inl at ↦ first at
        | inr lt ↦ later lt
      ]

  pub each : (ys : List B) (n k : ℕ) (d : B) → IsFromFnResult g f ys n → k < n → P k (slice_index_or ys k d)
  each ys n k d made lt = each_from f ys 0 n k d refl made.each (omega arith) (omega (arith, lt))
