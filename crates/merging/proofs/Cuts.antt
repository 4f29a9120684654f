-- A cut's next node is numbered, in the terms of the code. Assumes nothing.
use Prim.Native.Nat.{ℕ, ◌+◌, ◌*◌, ◌/◌, ◌%◌, ◌≤◌, ◌<◌}
use mathlib.Core.Path.{◌≡◌, sym, ap, subst, ◌∙◌}
use mathlib.Core.Logic.{inl, inr}
use mathlib.Core.Bool.{Bool, true, false}
use mathlib.Core.List.{List}
use native.Mathlib.Omega.{arith}
use lib.ListN.{length}
use Rattle.words.specs.Words.{word_at}
use Rattle.words.proofs.Cases.{less, same, more, tri}
use Rattle.diagram.specs.Format.{Words, high_field, middle_field, then_edge, else_edge}
use Rattle.diagram.proofs.Paths.{side}
use Rattle.numbering.specs.Renewal.{IsKey, Gave}
use Rattle.numbering.proofs.Images.{image_as, renew_as}
use Rattle.numbering.proofs.Finish.{alike_trans}
use Rattle.numbering.proofs.Given.{placed_alike, gave_length, gave_placed}
use Rattle.cutting.specs.Cut.{TwiceCut}
use Rattle.merging.specs.Inner.{cut_node, front, Done, in_table, in_cut, Merging, Beyond, level, Limits, Comes, Reached, Passed, Moved}
use Rattle.merging.proofs.Moves.{sides}
use Rattle.merging.proofs.Lists.{cut_inside, cut_level}
use Rattle.merging.proofs.Merge.{few_records, high}
use Rattle.merging.proofs.Least.{Chosen}
use Rattle.merging.proofs.StepCut.{step_cut}
use Rattle.merging.proofs.Passing.{beyond_limit}

-- the key of a cut's node of height h has that height, or is 0
pub key_high : (R W : Words) (n N c last p q r : ℕ) → TwiceCut R n N → Merging R W n N c last p q r → c < 268435454 → (b : Bool) (h word flag : ℕ) → 0 < h → h ≤ n
    → IsKey W (cut_node N n b h) (R (cut_node N n b h)) word flag → high_field word ≤ h
key_high R W n N c last p q r X G few b h word flag l m K =
    let i = cut_inside R n N X b h m in
    let t = high R W n N c last p q r X G few (cut_node N n b h) (omega arith) i.1 in
    let e = cut_level R n N X b h l m in
    elim (tri 0 (W (cut_node N n b h))) [
      | less k ↦ rw (K.word_is k) (omega arith)
      | same k ↦ rw (K.dead (sym k)) (unfold high_field in omega arith)
      | more k ↦ absurd (omega arith)
    ]

-- u is the next node of cut b, and its key is `word` before the table's nodes up to it are numbered
module _ (R : Words) (map : List ℕ) (n N c last p q r u word flag : ℕ) (b : Bool) (X : TwiceCut R n N) (G : Merging R (word_at map) n N c last p q r) (settings : n ≤ 63) (nodes : N ≤ 65535)
    (C : Comes R (word_at map) n N p q r b (cut_node N n b (front q r b))) (u-is : u ≡ cut_node N n b (front q r b)) (key : IsKey (word_at map) u (R u) word flag) where
  abbrev W : Words
  W = word_at map

  abbrev v : ℕ
  v = cut_node N n b (front q r b)

  K : IsKey W v (R v) word flag
  K = subst (λ (a : ℕ). IsKey W a (R a) word flag) u-is key

  few : c < 268435454
  few = omega (arith, few_records R W n N c last p q r X G)

  -- it lies behind the table, and before the end
  beyond : (N < v) × (v ≤ N + n + n)
  beyond = let i = cut_inside R n N X b (front q r b) C.inside in (omega (arith, i.0, G.fronts.low b), i.1)

  -- its own record is its limit
  own : Beyond R W N n p q r (front q r b) v word
  own =
      level (key_high R W n N c last p q r X G few b (front q r b) word flag (G.fronts.low b) C.inside K) C.then_done C.else_done
      (λ k. omega (arith, K.word_is k))

  -- the other cut's is not below it either
  pub cut_limits : Limits R W n N p q r word
  cut_limits d l = elim (sides d b) [
    | inl e ↦ subst (λ (s : Bool). Beyond R W N n p q r (front q r s) (cut_node N n s (front q r s)) word) (sym e) own
    | inr e ↦ C.limit word flag K d e l
  ]

  -- after these nodes
  module _ (map₁ : List ℕ) (c₁ last₁ p₁ : ℕ) (P : Passed R map map₁ n N word p q r c₁ last₁ p₁) where
    abbrev W₁ : Words
    W₁ = word_at map₁

    G₁ : Merging R W₁ n N c₁ last₁ p₁ q r
    G₁ = P.passing.reached.merging

    few₁ : c₁ < 268435454
    few₁ = omega (arith, few_records R W₁ n N c₁ last₁ p₁ q r X G₁)

    still : (a : ℕ) → Done N n p q r a → W₁ a ≡ W a
    still a (in_table i) = P.passing.others a (inl i)
    still a (in_cut true i j) = P.passing.others a (inr (omega arith))
    still a (in_cut false i j) = P.passing.others a (inr (omega arith))

    sides_still : (s : Bool) → W₁ (side R s v / 2) ≡ W (side R s v / 2)
    sides_still true = still (then_edge R v / 2) C.then_done
    sides_still false = still (else_edge R v / 2) C.else_done

    own_still : W₁ v ≡ W v
    own_still = P.passing.others v (inr beyond.0)

    -- the key stays
    K₁ : IsKey W₁ v (R v) word flag
    unfolding then_edge
    K₁ = record {
      dead = λ k. K.dead (sym own_still ∙ k);
      word_is = λ k. K.word_is (rw own_still at k) ∙ sym (renew_as R W W₁ v sides_still);
      flag_is = λ k. K.flag_is (rw own_still at k) ∙ ap (λ (a : ℕ). a % 2) (sym (image_as W W₁ (middle_field (R v)) (sides_still true)));
      flag_low = K.flag_low;
    }

    pub give_few : (8 * (N + n + n) + 8 ≤ length map) → (8 * u + 8 ≤ length map₁) × (c₁ < 268435454)
    give_few l = (omega (arith, u-is, beyond.1, P.passing.reached.same_length), few₁)

    chosen : 0 < W₁ v → Chosen R W₁ n N p₁ q r v
    chosen k = record {
      by_table = λ l. let a = P.above l in (a.0, omega (arith, a.1, K₁.word_is k));
      by_cut = λ d l. let t = beyond_limit R W₁ n N c₁ last₁ p₁ q r X G₁ few₁ d l word (P.passing.limits d l) in
          let h = high R W₁ n N c₁ last₁ p₁ q r X G₁ few₁ v (omega (arith, beyond.0)) beyond.1 in
          (omega (arith, t.0, h, ap high_field (K₁.word_is k)), λ o. omega (arith, t.1 o, K₁.word_is k));
    }

    -- the node gets its place
    pub cut_reached : (map₂ : List ℕ) (c₂ last₂ q₂ r₂ : ℕ) → 8 * (N + n + n) + 8 ≤ length map → Gave map₁ map₂ u word flag c₁ last₁ c₂ last₂ → Moved q r q₂ r₂ b → Reached R map map₂ n N p c₂ last₂ p₁ q₂ r₂
    cut_reached map₂ c₂ last₂ q₂ r₂ long g T =
        let room = rw u-is at (give_few long).0 in
        let g : Gave map₁ map₂ v word flag c₁ last₁ c₂ last₂ = rw u-is at g in
        let Q = gave_placed R n (N + n + n) c₁ last₁ (Done N n p₁ q r) X.ordered few₁ map₁ map₂ v word flag c₂ last₂ G₁.going (omega (arith, beyond.0)) beyond.1 room K₁ g in
        record {
          merging = step_cut R W₁ (word_at map₂) n N c₁ last₁ p₁ q r c₂ last₂ q₂ r₂ b X G₁ few₁ T C.inside Q chosen;
          ahead = P.passing.reached.ahead;
          alike = alike_trans W W₁ (word_at map₂) P.passing.reached.alike (placed_alike Q);
          same_length = gave_length map₁ map₂ v word flag c₁ last₁ c₂ last₂ room g ∙ P.passing.reached.same_length;
        }
