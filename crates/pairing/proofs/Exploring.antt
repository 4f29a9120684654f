-- All pairs that the root edges lead to, and how many. Assumes nothing.
use Prim.Native.Nat.{ℕ, ◌+◌, ◌*◌, ◌/◌, ◌^◌, ◌≤◌, ◌<◌}
use mathlib.Core.Path.{◌≡◌, sym, ap, ◌∙◌, subst}
use mathlib.Core.Bool.{Bool, true}
use mathlib.Core.List.{List}
use native.Mathlib.Omega.{arith}
use native.Mathlib.Nat.{le_refl}
use Rattle.words.specs.Words.{word_at}
use Rattle.diagram.specs.Format.{Words, height}
use Rattle.diagram.specs.Ordered.{HasDiagram}
use Rattle.diagram.specs.Reading.{Within}
use Rattle.diagram.proofs.Paths.{height_le_settings}
use Rattle.diagram.proofs.Members.{members_le, members_all}
use Rattle.pairing.specs.Pairs.{pair_of, pair_height, follow, reached, pair_count}
use Rattle.pairing.specs.Inner.{PairWithin, Among, Closed, Visited, Overfull, AllPairs}
use Rattle.pairing.proofs.Pairs.{greater_bound, first_of_pair, second_of_pair, pair_within, pair_small, follow_within, follow_lower}
use Rattle.pairing.proofs.Leading.{leads_self, leads_within, leads_keep}

module _ (t u : List ℕ) (n a b : ℕ) (D : HasDiagram t n (a / 2)) (E : HasDiagram u n (b / 2)) where
  abbrev w : Words
  w = word_at t

  abbrev v : Words
  v = word_at u

  abbrev R : ℕ → Bool
  R = reached w v n a b

  -- the nodes of the roots lie in their tables
  first_root : Within t (a / 2)
  first_root = record { settings = n; nodes = a / 2; holds = D; inside = le_refl (a / 2) }

  second_root : Within u (b / 2)
  second_root = record { settings = n; nodes = b / 2; holds = E; inside = le_refl (b / 2) }

  small : b < 131072
  small = omega (arith, E.few)

  roots_within : PairWithin t u (pair_of a b)
  roots_within = pair_within t u a b first_root second_root

  -- the pair of the roots, as the code makes it
  pub root_within : PairWithin t u (a * 131072 + b)
  root_within = unfold pair_of in roots_within

  -- ... is no higher than there are settings
  root_low : pair_height w v (pair_of a b) ≤ n
  unfolding pair_height
  root_low =
      rw (first_of_pair a b small, second_of_pair a b small)
      (greater_bound (height w (a / 2)) (height v (b / 2)) n (height_le_settings w n (a / 2) D.ordered (a / 2) (le_refl (a / 2)))
      (height_le_settings v n (b / 2) E.ordered (b / 2) (le_refl (b / 2))))

  -- the roots are reached, and following keeps what is reached
  root_reached : R (pair_of a b) ≡ true
  unfolding reached
  root_reached = leads_self w v n (pair_of a b)

  reached_closed : Closed w v R
  unfolding reached
  reached_closed pair e l on = leads_keep t u n (pair_of a b) pair roots_within root_low e l on

  -- what is reached is not above n
  reached_low : (pair : ℕ) → R pair ≡ true → pair_height w v pair ≤ n
  unfolding reached
  reached_low pair e = (leads_within w v (λ k. PairWithin t u k × (pair_height w v k ≤ n))
      (λ k q l on. (follow_within t u k q.0 l on, omega (arith, q.1, follow_lower t u k q.0 l on))) n (pair_of a b) pair (roots_within, root_low) e).1

  -- there is at least one
  pub none_held : 0 < pair_count w v n a b
  unfolding pair_count
  none_held = members_le (λ _. pair_of a b) R (2 ^ 34) 1 (record {
    small = λ i l. pair_small t u (pair_of a b) roots_within;
    pass = λ i l. root_reached;
    distinct = λ i j l m e. omega arith;
  })

  -- the visit of their pair, in an empty sheet
  module _ (W : ℕ → ℕ) (P : ℕ) where
    pub root_full : Overfull w v W P 0 (a * 131072 + b) → P < pair_count w v n a b
    unfolding pair_of pair_count
    root_full f = f R reached_closed root_reached (λ i l. absurd (omega arith))

    module _ (W' : ℕ → ℕ) (index total : ℕ) (A : Visited t u W W' P 0 (a * 131072 + b) index total) where
      -- it is the first
      first_is : (0 < total) × (W' 0 ≡ pair_of a b)
      unfolding pair_of
      first_is =
          let e : index ≡ 0 = omega (arith, A.early) in
          (omega (arith, A.there), subst (λ (i : ℕ). W' i ≡ pair_of a b) e A.here)

      -- what was found is reached, and what is reached was found
      sound : (i : ℕ) → i < total → R (W' i) ≡ true
      unfolding pair_of
      sound i l = A.passes R reached_closed root_reached i (omega arith) l

      complete : (pair : ℕ) → R pair ≡ true → Among W' total pair
      complete pair e = leads_within w v (Among W' total)
          (λ k m l on.
          let q = (A.done m.0 (omega arith) m.1).leads on (subst (λ (x : ℕ). 0 < pair_height w v x) (sym m.2) l) in
          (q.0, q.1, q.3 ∙ ap (follow w v on) m.2))
          n (pair_of a b) pair (0, first_is.0, first_is.1) (unfold reached in e)

      -- ... so there are as many
      counted : total ≡ pair_count w v n a b
      unfolding pair_count
      counted = members_all W' R (2 ^ 34) total (record { small = A.keys.small; pass = sound; distinct = A.keys.distinct }) (λ x l e. complete x e)

      pub all_pairs : AllPairs t u n a b W' P total
      all_pairs = record {
        few = A.keys.few;
        begins = first_is;
        sound = sound;
        complete = complete;
        counted = counted;
        distinct = A.keys.distinct;
        low = λ i l. reached_low (W' i) (sound i l);
        inside = λ i l. (A.done i (omega arith) l).inside;
        leads = λ on i l. (A.done i (omega arith) l).leads on;
      }
