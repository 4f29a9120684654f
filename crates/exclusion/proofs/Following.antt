-- A setup's way, from the first edge on and by one node more, in the terms of the code. Assumes nothing.
use Prim.Native.Nat.{ℕ, ◌+◌, ◌-◌, ◌/◌, ◌%◌, ◌^◌, ◌≤◌}
use mathlib.Core.Path.{◌≡◌, refl, sym, ap, ◌∙◌}
use mathlib.Core.Logic.{◌≢◌}
use mathlib.Core.Bool.{Bool, true, false, not, cond}
use mathlib.Core.List.{List}
use native.Mathlib.Omega.{arith}
use lib.Dec.{eqb}
use Rattle.words.specs.Words.{word_at}
use Rattle.diagram.specs.Format.{height}
use Rattle.diagram.specs.Meaning.{bit}
use Rattle.diagram.proofs.Paths.{height_le_settings}
use Rattle.diagram.proofs.Digits.{above}
use Rattle.walking.specs.Inner.{Lies, Forks}
use Rattle.walking.proofs.Forking.{own_side}
use Rattle.exclusion.specs.Inner.{Along, Follows, turned_at}
use Rattle.exclusion.proofs.Digits.{turned_bit, turned_above}

-- a way along x that has reached edge e goes on by its two sides, along whatever begins as x does
pub goes_on : {t : List ℕ} {n e h high low : ℕ} → Forks t n e h high low → (from x g : ℕ) → Along (word_at t) from x g e → h ≤ g → (y : ℕ) → y / 2 ^ g ≡ x / 2 ^ g → (b : Bool) → bit h y ≡ b
    → Along (word_at t) from y (h - 1) (cond b high low)
unfolding bit
goes_on {t} {n} {e} {h} {high} {low} S from x g A l y q b p z r =
    A z (above (h - 1) g y z (omega arith) r ∙ q) ∙ own_side S b z (ap (λ (d : ℕ). eqb (d % 2) 1) r ∙ p)

-- a way that has reached an edge of the diagram, below the last node passed
pub record Reaches (t : List ℕ) (n from x e h other : ℕ) : Type 0 where
  pub lies : Lies t n e
  pub below : height (word_at t) (e / 2) ≤ h - 1
  pub follows : Follows t n from x e h other

-- before the first node
pub reaches_first : (t : List ℕ) (n e x other : ℕ) → Lies t n e → Reaches t n e x e (n + 1) other
reaches_first t n e x other L = record {
  lies = L;
  below = omega (arith, height_le_settings (word_at t) n L.nodes L.reduced.ordered (e / 2) L.inside);
  follows = record { tall = omega arith; low = omega arith; along = λ y q. refl; passed = λ l. absurd (omega arith) };
}

-- one node more, by the side of the setup's own setting
pub reaches_next : (t : List ℕ) (n from x e h₀ other₀ h high low : ℕ) → Reaches t n from x e h₀ other₀ → Forks t n e h high low
    → (on : Bool) → on ≡ bit h x → (next other : ℕ) → next ≡ cond on high low → other ≡ cond (not on) high low → Reaches t n from x next h other
reaches_next t n from x e h₀ other₀ h high low R S on on_is next other next_is other-is =
    rw (next_is, other-is) record {
      lies = S.lies on;
      below = omega (arith, S.lower on);
      follows = record {
        tall = S.tall;
        low = omega (arith, S.few);
        along = goes x refl on (sym on_is);
        passed = λ _. record {
          lies = S.lies (not on);
          lower = S.lower (not on);
          differ = either on;
          across = goes (turned_at h x) (above h (h₀ - 1) x (turned_at h x) falls (turned_above h S.tall x)) (not on) (turned_bit h S.tall x ∙ ap not (sym on_is));
        };
      };
    }
  where
    falls : h ≤ h₀ - 1
    falls = omega (arith, S.height_is, R.below)

    goes : (y : ℕ) → y / 2 ^ (h₀ - 1) ≡ x / 2 ^ (h₀ - 1) → (b : Bool) → bit h y ≡ b → Along (word_at t) from y (h - 1) (cond b high low)
    goes = goes_on S from x (h₀ - 1) R.follows.along falls

    either : (b : Bool) → cond (not b) high low ≢ cond b high low
    either true q = S.differ (sym q)
    either false q = S.differ q
