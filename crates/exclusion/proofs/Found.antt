-- What is found of a setup whose way was followed to the sink, in the terms of the code. Assumes nothing.
use Prim.Native.Nat.{ℕ, suc, ◌+◌, ◌-◌, ◌*◌, ◌/◌, ◌%◌, ◌^◌, ◌≤◌, ◌<◌}
use mathlib.Core.Path.{◌≡◌, refl, sym, ap, subst, ◌∙◌}
use mathlib.Core.Bool.{Bool, true, false, not, true≢false}
use mathlib.Core.List.{List}
use mathlib.Core.Option.{some, none}
use native.Mathlib.Nat.{le_refl, le_trans, div-eq_of_lt, mod-lt, mod-le, lt_of_lt_of_le}
use native.Mathlib.Omega.{arith}
use lib.Pow.{pow_pos, pow_mono, split, high, low}
use Rattle.words.specs.Words.{word_at}
use Rattle.diagram.specs.Format.{Words, height}
use Rattle.diagram.specs.Meaning.{bit, under}
use Rattle.diagram.specs.Count.{smallest}
use Rattle.diagram.proofs.Paths.{under_always, under_never}
use Rattle.diagram.proofs.Local.{under_mod}
use Rattle.diagram.proofs.Select.{Least, smallest_least}
use Rattle.diagram.proofs.Digits.{above, fits, same_digit}
use Rattle.exclusion.specs.Finding.{is_permitted, ruled_out, finding}
use Rattle.exclusion.specs.Inner.{Passed, Follows, turned_at}
use Rattle.exclusion.proofs.Digits.{turned_bit, turned_above, turned_whole}
use Rattle.exclusion.proofs.Begins.{Same, begins_is, is_begins, finds_permitted, finds_nothing, finds_ruled}

module _ (t : List ℕ) (n from x e h other : ℕ) (F : Follows t n from x e h other) (x_Fits : x < 2 ^ n) where
  abbrev w : Words
  w = word_at t

  abbrev P : ℕ → Bool
  P = under w from

  -- it ended at `always`
  pub found_permitted : e ≡ 0 → finding P n x ≡ is_permitted
  found_permitted q = finds_permitted P n x x_Fits (F.along x refl ∙ ap (λ (d : ℕ). under w d x) q ∙ under_always w x)

  -- it ended at `never`
  module _ (never : e ≡ 1) where
    dead : (y : ℕ) → y / 2 ^ (h - 1) ≡ x / 2 ^ (h - 1) → P y ≡ false
    dead y q = F.along y q ∙ ap (λ (d : ℕ). under w d y) never ∙ under_never w y

    -- without a node
    pub found_nothing : n < h → finding P n x ≡ ruled_out 0 none
    found_nothing l =
        let q : h - 1 ≡ n = omega (arith, F.low) in
        finds_nothing P n x x_Fits (λ y i. dead y (subst (λ (g : ℕ). y / 2 ^ g ≡ x / 2 ^ g) (sym q) (div-eq_of_lt i ∙ sym (div-eq_of_lt x_Fits))))

    -- behind a node: `rest` is the smallest setup under the edge not taken
    module _ (few : h ≤ n) (rest : ℕ) (rest-is : smallest (under w other) (2 ^ height w (other / 2)) ≡ some rest) where
      Q : Passed t n from x e h other
      Q = F.passed few

      least : Least (under w other) (2 ^ height w (other / 2)) rest
      least = smallest_least (under w other) (2 ^ height w (other / 2)) rest rest-is

      abbrev front : ℕ
      front = turned_at h x

      rest_fits : rest < 2 ^ (h - 1)
      rest_fits = lt_of_lt_of_le least.below (pow_mono (omega (arith, Q.lower)))

      -- what is permitted under that edge is so without its first settings, and is not below `rest`
      other_mod : (g y : ℕ) → height w (other / 2) ≤ g → under w other (y % 2 ^ g) ≡ under w other y
      other_mod g y = under_mod w n Q.lies.nodes Q.lies.reduced.ordered other g y Q.lies.inside

      rest_least : (y : ℕ) → under w other y ≡ true → rest ≤ y
      rest_least y p =
          let H = height w (other / 2) in
          le_trans (least.least (y % 2 ^ H) (mod-lt y (pow_pos H)) (other_mod H y (le_refl H) ∙ p)) (mod-le y (2 ^ H))

      digits : (front + rest) / 2 ^ (h - 1) ≡ front / 2 ^ (h - 1)
      digits = ap (λ (m : ℕ). (m + rest) / 2 ^ (h - 1)) (turned_whole h F.tall x) ∙ high (front / 2 ^ (h - 1)) (h - 1) rest_fits

      last_digits : (front + rest) % 2 ^ (h - 1) ≡ rest
      last_digits = ap (λ (m : ℕ). (m + rest) % 2 ^ (h - 1)) (turned_whole h F.tall x) ∙ low (front / 2 ^ (h - 1)) (h - 1) rest_fits

      agrees : (front + rest) / 2 ^ h ≡ x / 2 ^ h
      agrees = above (h - 1) h front (front + rest) (omega arith) digits ∙ turned_above h F.tall x

      pub given_fits : front + rest < 2 ^ n
      given_fits = fits h n x (front + rest) few x_Fits agrees

      permits : P (front + rest) ≡ true
      permits = Q.across (front + rest) digits ∙ sym (other_mod (h - 1) (front + rest) (omega (arith, Q.lower))) ∙ ap (under w other) last_digits ∙ least.passes

      -- nothing smaller that agrees is permitted: not with the same setting, and not with the other
      none_smaller : (y : ℕ) → P y ≡ true → y / 2 ^ h ≡ x / 2 ^ h → front + rest ≤ y
      none_smaller y p q = go (bit h x) refl (bit h y) refl
        where
          turned : bit h y ≡ not (bit h x) → front + rest ≤ y
          turned r =
              let d = same_digit h F.tall front y (q ∙ sym (turned_above h F.tall x)) (r ∙ sym (turned_bit h F.tall x)) in
              let l = rest_least (y % 2 ^ (h - 1)) (other_mod (h - 1) y (omega (arith, Q.lower)) ∙ sym (Q.across y d) ∙ p) in
              omega (arith, split y (h - 1), turned_whole h F.tall x, ap (λ (m : ℕ). m * 2 ^ (h - 1)) d, l)

          go : (b : Bool) → bit h x ≡ b → (c : Bool) → bit h y ≡ c → front + rest ≤ y
          go true i true j = absurd (true≢false (sym p ∙ dead y (same_digit h F.tall x y q (j ∙ sym i))))
          go true i false j = turned (j ∙ ap not (sym i))
          go false i true j = turned (j ∙ ap not (sym i))
          go false i false j = absurd (true≢false (sym p ∙ dead y (same_digit h F.tall x y q (j ∙ sym i))))

      pub found_ruled : finding P n x ≡ ruled_out (n + 1 - h) (some (front + rest))
      found_ruled =
          let p : suc (n - h) ≡ n + 1 - h = omega arith in
          let before : n - (n - h) ≡ h = omega arith in
          let at : n - suc (n - h) ≡ h - 1 = omega arith in
          let lower : (y : ℕ) → Same P n x (n - h) y → y / 2 ^ h ≡ x / 2 ^ h = λ y. subst (λ (g : ℕ). y / 2 ^ g ≡ x / 2 ^ g) before in
          finds_ruled P n x (n - h) (front + rest) (omega (arith, F.tall)) (λ y _ q. dead y (subst (λ (g : ℕ). y / 2 ^ g ≡ x / 2 ^ g) at q)) (record {
            below = given_fits;
            passes = is_begins P n x (n - h) (front + rest) permits (subst (λ (g : ℕ). (front + rest) / 2 ^ g ≡ x / 2 ^ g) (sym before) agrees);
            least = λ y _ b. let i = begins_is P n x (n - h) y b in none_smaller y i.0 (lower y i.1);
          }) ∙ ap (λ (m : ℕ). ruled_out m (some (front + rest))) p
