-- The pairs made ready, one by one. Assumes nothing.
use Prim.Native.Nat.{ℕ, zero, suc, ◌+◌, ◌*◌, ◌/◌, ◌%◌, ◌<◌}
use mathlib.Core.Path.{◌≡◌, refl, sym, ap, ap₂, subst, ◌∙◌}
use mathlib.Core.Bool.{Bool, true, false, cond, not}
use native.Mathlib.Omega.{arith}
use lib.Dec.{eqb}
use borrow.Author.Tests.{ne_eqb}
use Rattle.words.proofs.Stores.{Updated}
use Rattle.diagram.specs.Format.{Words}
use Rattle.diagram.specs.Meaning.{flip}
use Rattle.pairing.specs.Pairs.{first_edge, second_edge, pair_height}
use Rattle.naming.specs.declared.Operation.{Operation}
use Rattle.naming.specs.Combination.{names}
use Rattle.naming.specs.Inner.{IsFlag, Readied}

-- a sink permits if its flag is 0
sink_permits : (a : ℕ) → eqb a 0 ≡ flip a true
unfolding flip
sink_permits zero = refl
sink_permits (suc a) = ne_eqb (suc a) 0 (λ e. omega arith)

-- the flag of two sinks, by whether they are named
module _ (op : Operation) (a b : ℕ) (r : Bool) (r-is : r ≡ names op (eqb a 0) (eqb b 0)) where
  named_is : names op (flip a true) (flip b true) ≡ r
  named_is = sym (r-is ∙ ap₂ (names op) (sink_permits a) (sink_permits b))

  -- 0 if they are, or else 1
  pub flag_is : (f : ℕ) → f ≡ cond (not r) 1 0 → IsFlag op a b f
  unfolding flip
  flag_is f e = rw e (go r named_is)
    where
      go : (r : Bool) → names op (flip a true) (flip b true) ≡ r → IsFlag op a b (cond (not r) 1 0)
      go true n = record { low = omega arith; permits = sym n }
      go false n = record { low = omega arith; permits = sym n }

module _ (op : Operation) (w v : Words) where
  -- one pair: its height is stored, and then a flag if that is 0
  module _ (W X : ℕ → ℕ) (P i pair h : ℕ) (inside : i < P) (pair_is : pair ≡ W i) (h-is : h ≡ pair_height w v pair) (U : Updated W X (2 * P + i) h) where
    height_is : h ≡ pair_height w v (W i)
    height_is = h-is ∙ ap (pair_height w v) pair_is

    pub readied_tall : (h ≡ 0 → ⊥) → Readied op w v W X P i
    readied_tall n = record {
      ready = record { height_is = U.here ∙ height_is; flag_is = λ e. absurd (n (height_is ∙ e)); edge_stays = λ l. U.other (P + i) (λ e. omega arith) };
      others = λ k n m. U.other k m;
    }

    pub readied_sink : h ≡ 0 → (W' : ℕ → ℕ) (f : ℕ) → IsFlag op (pair / 131072 % 2) (pair % 131072 % 2) f → Updated X W' (P + i) f → Readied op w v W W' P i
    unfolding first_edge second_edge
    readied_sink z W' f F Q = record {
      ready = record {
        height_is = Q.other (2 * P + i) (λ e. omega arith) ∙ U.here ∙ height_is;
        flag_is = λ _. rw Q.here (subst (λ (q : ℕ). IsFlag op (first_edge q % 2) (second_edge q % 2) f) pair_is F);
        edge_stays = λ l. absurd (omega (arith, height_is));
      };
      others = λ k n m. Q.other k n ∙ U.other k m;
    }
