-- The table's nodes below a limit are numbered, in the terms of the loop that does it. Assumes nothing.
use Prim.Native.Nat.{ℕ, ◌+◌, ◌*◌, ◌/◌, ◌≤◌, ◌<◌}
use mathlib.Core.Path.{◌≡◌, refl, sym, subst, ◌∙◌}
use mathlib.Core.Logic.{inl, inr}
use mathlib.Core.Bool.{Bool, true, false}
use mathlib.Core.List.{List}
use native.Mathlib.Omega.{arith}
use native.Mathlib.Nat.{le_refl}
use lib.ListN.{length}
use Rattle.words.specs.Words.{word_at}
use Rattle.diagram.specs.Format.{Words, high_field, middle_field, low_field, then_edge, else_edge}
use Rattle.diagram.proofs.Paths.{side}
use Rattle.numbering.specs.Renewal.{renew, Renewable, StaysPlain, IsKey, Gave}
use Rattle.numbering.proofs.Images.{renew_as}
use Rattle.numbering.proofs.Keys.{keyed_readable, place_live}
use Rattle.numbering.proofs.Finish.{alike_same, alike_trans}
use Rattle.numbering.proofs.Given.{Placed, left_out, placed_alike, placed_other, gave_length, gave_placed}
use Rattle.cutting.specs.Cut.{TwiceCut}
use Rattle.merging.specs.Inner.{cut_node, front, Done, Merging, Beyond, higher, level, Limits, Passing, Passed}
use Rattle.merging.proofs.Lists.{cut_inside, cut_level}
use Rattle.merging.proofs.Merge.{Plain, few_records, merging_keyed, high, front_plain}
use Rattle.merging.proofs.Least.{Chosen}
use Rattle.merging.proofs.StepTable.{table_adds, step_table}

-- before the first turn
pub turn_first : (R : Words) (map : List ℕ) (n N limit q r c last p : ℕ) → Merging R (word_at map) n N c last p q r → Limits R (word_at map) n N p q r limit → Passing R map map n N limit p q r c last p
turn_first R map n N limit q r c last p G L = record {
  reached = record { merging = G; ahead = le_refl p; alike = alike_same (word_at map); same_length = refl };
  others = λ v o. refl;
  limits = L;
}

-- the new record of a cut's next node is not below a limit
module _ (R W : Words) (n N c last p q r : ℕ) (X : TwiceCut R n N) (G : Merging R W n N c last p q r) (few : c < 268435454) (b : Bool) (l : front q r b ≤ n) (limit : ℕ) where
  abbrev v : ℕ
  v = cut_node N n b (front q r b)

  -- nor is its height below that of the limit
  pub beyond_limit : Beyond R W N n p q r (front q r b) v limit → (high_field limit ≤ front q r b) × (0 < W v → limit ≤ renew W (R v))
  beyond_limit (higher m) =
      let f = G.fronts.low b in
      let i = cut_inside R n N X b (front q r b) l in
      let h = high R W n N c last p q r X G few v (omega arith) i.1 in
      let e = cut_level R n N X b (front q r b) f l in
      (omega arith, λ k. unfold high_field in omega arith)
  beyond_limit (level m d e f) = (m, f)

  -- ... and stays so while a node of the table is numbered
  beyond_stays : (W' : Words) (c' last' : ℕ) → p ≤ N → Placed R W W' p c last c' last' → Beyond R W N n p q r (front q r b) v limit → Beyond R W' N n (p + 1) q r (front q r b) v limit
  beyond_stays W' c' last' m P (higher i) = higher i
  beyond_stays W' c' last' m P (level i d e f) =
      level i ((table_adds N n p q r m).old (then_edge R v / 2) d) ((table_adds N n p q r m).old (else_edge R v / 2) e)
      (λ k. rw (renew_as R W W' v stays) (f (rw own at k)))
    where
      own : W' v ≡ W v
      own = placed_other P v (λ s. omega (arith, (cut_inside R n N X b (front q r b) l).0, G.fronts.low b))

      still : (u : ℕ) → Done N n p q r u → W' u ≡ W u
      still u o = placed_other P u (λ s. (table_adds N n p q r m).fresh (subst (λ (a : ℕ). Done N n p q r a) s o))

      stays : (s : Bool) → W' (side R s v / 2) ≡ W (side R s v / 2)
      stays true = still (then_edge R v / 2) d
      stays false = still (else_edge R v / 2) e

-- a turn: node p is the next one
module _ (R : Words) (map₀ map : List ℕ) (n N limit p₀ q r c last p : ℕ) (X : TwiceCut R n N) (T : Passing R map₀ map n N limit p₀ q r c last p)
    (settings : n ≤ 63) (nodes : N ≤ 65535) (l : p ≤ N) where
  abbrev W : Words
  W = word_at map

  G : Merging R W n N c last p q r
  G = T.reached.merging

  few : c < 268435454
  few = omega (arith, few_records R W n N c last p q r X G)

  -- not above the limit: it may come next
  chosen : renew W (R p) ≤ limit → 0 < W p → Chosen R W n N p q r p
  chosen m k = record {
    by_table = λ i. (k, le_refl (renew W (R p)));
    by_cut = λ b i. let t = beyond_limit R W n N c last p q r X G few b i limit (T.limits b i) in
        let h = high R W n N c last p q r X G few p G.fronts.p_low (omega arith) in
        (unfold high_field in omega (arith, t.0), λ o. omega (arith, t.1 o));
  }

  -- it has its place
  turn : (map' : List ℕ) (c' last' : ℕ) → length map' ≡ length map → Placed R W (word_at map') p c last c' last' → (0 < W p → renew W (R p) ≤ limit)
      → Passing R map₀ map' n N limit p₀ q r c' last' (p + 1)
  turn map' c' last' long P m = record {
    reached = record {
      merging = step_table R W (word_at map') n N c last p q r c' last' X G few l P (λ k. chosen (m k) k);
      ahead = omega (arith, T.reached.ahead);
      alike = alike_trans (word_at map₀) W (word_at map') T.reached.alike (placed_alike P);
      same_length = long ∙ T.reached.same_length;
    };
    others = λ v o. placed_other P v (λ e. elim o [ inl a ↦ omega (arith, T.reached.ahead) | inr a ↦ omega arith ]) ∙ T.others v o;
    limits = λ b i. beyond_stays R W n N c last p q r X G few b i limit (word_at map') c' last' l P (T.limits b i);
  }

  -- it is left out
  pub turn_pass : (m : ℕ) → m ≡ W p → m ≡ 0 → Passing R map₀ map n N limit p₀ q r c last (p + 1)
  turn_pass m m-is none = turn map c last refl (left_out (sym m-is ∙ none) refl refl refl) (λ k. absurd (omega arith))

  -- it is kept, and has record z
  module _ (z m : ℕ) (z-is : z ≡ R p) (m-is : m ≡ W p) (some : m ≡ 0 → ⊥) where
    live : 0 < W p
    live = place_live map p m m-is some

    P : Plain W z
    P = rw z-is (front_plain R W n N c last p q r X G few p refl l live)

    -- its new record can be read off
    pub turn_ready : 8 * (N + n + n) + 8 ≤ length map → Renewable map z × StaysPlain W z
    turn_ready long = ((keyed_readable R map n (N + n + n) (merging_keyed R W n N c last p q r X G settings nodes) long p z G.fronts.p_low (omega arith) z-is).kept live, P.stays)

    module _ (word : ℕ) (w : word ≡ renew W z) where
      -- its edges differ
      pub turn_differ : (word ≡ 0 → ⊥) × (middle_field word ≡ low_field word → ⊥)
      turn_differ = rw w (P.some, P.differ)

      -- it is above the limit: the table's nodes that are not are numbered
      pub turn_last : limit < word → Passed R map₀ map n N limit p₀ q r c last p
      turn_last h = record { passing = T; above = λ i. (live, rw (← z-is, ← w) h) }

      -- or it gets its number
      pub turn_next : (map' : List ℕ) (c' last' : ℕ) → 8 * p + 8 ≤ length map → word ≤ limit → Gave map map' p word 0 c last c' last' → Passing R map₀ map' n N limit p₀ q r c' last' (p + 1)
      turn_next map' c' last' long h g =
          turn map' c' last' (gave_length map map' p word 0 c last c' last' long g)
          (gave_placed R n (N + n + n) c last (Done N n p q r) X.ordered few map map' p word 0 c' last' G.going G.fronts.p_low (omega arith) long (rw z-is at key) g)
          (λ k. rw (← z-is, ← w) h)
        where
          key : IsKey W p z word 0
          key = record { dead = λ k. absurd (omega (arith, live)); word_is = λ k. w; flag_is = λ k. sym P.even; flag_low = omega arith }

-- behind the table's last node
pub turn_end : (R : Words) (map₀ map : List ℕ) (n N limit p₀ q r c last p : ℕ) → Passing R map₀ map n N limit p₀ q r c last p → N < p → Passed R map₀ map n N limit p₀ q r c last (N + 1)
turn_end R map₀ map n N limit p₀ q r c last p T l = record {
  passing = subst (Passing R map₀ map n N limit p₀ q r c last) (omega (arith, T.reached.merging.fronts.p_high)) T;
  above = λ i. absurd (omega arith);
}
