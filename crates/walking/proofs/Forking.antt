-- The two sides of an edge at its node's setting, in the terms of the code. Assumes nothing.
use Prim.Native.Nat.{ℕ, ◌+◌, ◌*◌, ◌/◌, ◌%◌, ◌≤◌, ◌<◌}
use mathlib.Core.Path.{◌≡◌, sym, ap, ◌∙◌}
use mathlib.Core.Bool.{Bool, true, false, cond}
use mathlib.Core.List.{List}
use native.Mathlib.Omega.{arith}
use lib.ListN.{length}
use Rattle.words.specs.Words.{word_at}
use Rattle.words.proofs.Cases.{less, same, more, tri}
use Rattle.diagram.specs.Format.{Words, height}
use Rattle.diagram.specs.Meaning.{bit, under}
use Rattle.diagram.specs.Ordered.{Ordered}
use Rattle.diagram.specs.Reading.{IsRecord, turn, cofactor}
use Rattle.diagram.proofs.Paths.{tall_node, height_le_settings}
use Rattle.diagram.proofs.Cofactor.{goes_on, cofactor_low, cofactor_own, cofactors_differ}
use Rattle.walking.specs.Inner.{Lies, Forks}

-- an edge permits what its side does, of setups that have the node's setting so
pub own_side : {t : List ℕ} {n e h high low : ℕ} → Forks t n e h high low → (b : Bool) (z : ℕ) → bit h z ≡ b → under (word_at t) e z ≡ under (word_at t) (cond b high low) z
own_side {t} {n} {e} {h} {high} {low} F b z q = F.own z ∙ ap (λ (c : Bool). under (word_at t) (cond c high low) z) q

-- edge e leads to node v
module _ (t : List ℕ) (n e v : ℕ) (L : Lies t n e) (v-is : v ≡ e / 2) where
  abbrev w : Words
  w = word_at t

  ordered : Ordered w n L.nodes
  ordered = L.reduced.ordered

  pub node_room : 8 * v + 8 ≤ length t
  node_room = omega (arith, L.holds.long, L.inside, v-is)

  -- which is not the sink, and has this record
  module _ (some : 0 < v) (h a c : ℕ) (r : IsRecord w v h a c) (high low : ℕ) (s : (high ≡ turn (e % 2) a) × (low ≡ turn (e % 2) c)) where
    height_is : h ≡ height w (e / 2)
    height_is = r.height_is ∙ ap (height w) v-is

    tall : 0 < h
    tall = omega (arith, height_is, tall_node w n L.nodes ordered (e / 2) (omega (arith, v-is)) L.inside)

    side_is : (b : Bool) → cond b high low ≡ cofactor w h b e
    side_is true = goes_on w e h v h v-is r.height_is (omega arith) true a high r.then_is s.0
    side_is false = goes_on w e h v h v-is r.height_is (omega arith) false c low r.else_is s.1

    side_low : (b : Bool) → (cond b high low / 2 ≤ e / 2) × (height w (cond b high low / 2) < h)
    side_low b = rw (side_is b) (cofactor_low w n L.nodes ordered e h L.inside (omega (arith, height_is)) tall b)

    side_smaller : (b : Bool) → cond b high low / 2 < e / 2
    side_smaller b = let l = side_low b in elim (tri (cond b high low / 2) (e / 2)) [
      | less q ↦ q
      | same q ↦ absurd (omega (arith, height_is, ap (height w) q))
      | more q ↦ absurd (omega arith)
    ]

    sides : (y : ℕ) → under w e y ≡ under w (cond (bit h y) high low) y
    sides y = cofactor_own w n L.nodes ordered e h L.inside (omega (arith, height_is)) tall y ∙ ap (λ (d : ℕ). under w d y) (sym (side_is (bit h y)))

    pub forks : Forks t n e h high low
    forks = record {
      height_is = height_is;
      tall = tall;
      few = omega (arith, height_is, height_le_settings w n L.nodes ordered (e / 2) L.inside);
      lies = λ b. record { nodes = L.nodes; holds = L.holds; reduced = L.reduced; inside = omega (arith, side_low b, L.inside) };
      smaller = side_smaller;
      lower = λ b. (side_low b).1;
      differ = λ q. cofactors_differ w n L.nodes L.reduced e h L.inside height_is tall (sym (side_is true) ∙ q ∙ side_is false);
      own = sides;
    }
