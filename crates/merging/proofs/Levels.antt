-- A level of the cuts is numbered, in the terms of the code. Assumes nothing.
use Prim.Native.Nat.{ℕ, suc, ◌+◌, ◌-◌, ◌*◌, ◌/◌, ◌≤◌, ◌<◌}
use mathlib.Core.Path.{◌≡◌, refl, sym, subst, ◌∙◌}
use mathlib.Core.Bool.{Bool, true, false, not, cond, true≢false}
use mathlib.Core.List.{List}
use native.Mathlib.Omega.{arith}
use native.Mathlib.Nat.{le_refl}
use lib.Dec.{ltb}
use borrow.Author.Tests.{ltb-true, ltb-false}
use Rattle.words.specs.Words.{word_at}
use Rattle.words.proofs.Cases.{less, same, more, tri}
use Rattle.diagram.specs.Format.{Words, high_field}
use Rattle.diagram.proofs.Paths.{side}
use Rattle.numbering.specs.Renewal.{IsKey}
use Rattle.cutting.specs.Cut.{TwiceCut}
use Rattle.merging.specs.Inner.{cut_node, front, Done, Merging, higher, level, Limits, Comes, Passed, Moved}
use Rattle.merging.proofs.Moves.{done_moves}
use Rattle.merging.proofs.Lists.{cut_inside, cut_level}
use Rattle.merging.proofs.Merge.{few_records, high}
use Rattle.merging.proofs.Least.{sides_done}
use Rattle.merging.proofs.Cuts.{key_high}

-- fronts of one height
pub same_front : (q r : ℕ) → r ≡ q → (b : Bool) → front q r b ≡ q
same_front q r e true = e
same_front q r e false = refl

-- either way round, the smaller of two comes first
smaller_first : (a b : ℕ) (swap d : Bool) → swap ≡ ltb b a → cond swap b a ≤ cond d b a
smaller_first a b true true e = le_refl b
smaller_first a b true false e = omega (arith, ltb-true b a (sym e))
smaller_first a b false true e = ltb-false b a (sym e)
smaller_first a b false false e = le_refl a

-- a node has one key
key_unique : (W : Words) (v z w f w' f' : ℕ) → IsKey W v z w f → IsKey W v z w' f' → w ≡ w'
key_unique W v z w f w' f' K L = elim (tri 0 (W v)) [ less k ↦ K.word_is k ∙ sym (L.word_is k) | same k ↦ K.dead (sym k) ∙ sym (L.dead (sym k)) | more k ↦ absurd (omega arith) ]

-- both fronts moved
pub moved_both : (q r q₁ r₁ q₂ r₂ : ℕ) (b : Bool) → Moved q r q₁ r₁ b → Moved q₁ r₁ q₂ r₂ (not b) → r ≡ q → (q₂ ≡ q + 1) × (r₂ ≡ q + 1)
moved_both q r q₁ r₁ q₂ r₂ true S T e = (omega (arith, S.there false (λ p. true≢false (sym p)), T.here), omega (arith, S.here, T.there true true≢false))
moved_both q r q₁ r₁ q₂ r₂ false S T e = (omega (arith, S.here, T.there false (λ p. true≢false (sym p))), omega (arith, S.there true true≢false, T.here))

-- a side and the other one
not_self : (b : Bool) → not b ≡ b → ⊥
not_self true e = true≢false (sym e)
not_self false e = true≢false e

not_other : (d b : Bool) → (d ≡ not b → ⊥) → d ≡ b
not_other true true n = refl
not_other false false n = refl
not_other true false n = absurd (n refl)
not_other false true n = absurd (n refl)

-- no table's node below level q is above the limit of that level
pub level_limits : (R W : Words) (n N p q r limit : ℕ) → r ≡ q → 0 < q → limit ≡ q * 288230376151711744 - 1 → Limits R W n N p q r limit
unfolding high_field
level_limits R W n N p q r limit e l m b i = higher (omega (arith, same_front q r e b))

-- the table's nodes below level q are numbered
module _ (R : Words) (map map₁ : List ℕ) (n N p q r limit c last p₁ : ℕ) (X : TwiceCut R n N) (settings : n ≤ 63) (nodes : N ≤ 65535) (e : r ≡ q) (l : q ≤ n) (limit_is : limit ≡ q * 288230376151711744 - 1)
    (P : Passed R map map₁ n N limit p q r c last p₁) where
  abbrev W₁ : Words
  W₁ = word_at map₁

  G : Merging R W₁ n N c last p₁ q r
  G = P.passing.reached.merging

  few : c < 268435454
  few = omega (arith, few_records R W₁ n N c last p₁ q r X G)

  some : 0 < q
  some = G.fronts.low false

  -- what the nodes of the level lead to is done
  level_ready : (b s : Bool) → Done N n p₁ q r (side R s (cut_node N n b q) / 2)
  level_ready b s =
      let i = cut_inside R n N X b q l in
      let o = some in
      sides_done R W₁ n N c last p₁ q r X G few q
      (λ m. let h = high R W₁ n N c last p₁ q r X G few p₁ G.fronts.p_low (omega arith) in unfold high_field in omega (arith, (P.above m).1))
      (λ d m. omega (arith, same_front q r e d)) (cut_node N n b q) (omega arith) i.1 (omega (arith, cut_level R n N X b q some l)) s

  -- the node of the smaller key comes first
  module _ (swap : Bool) (va wa fa vb wb fb : ℕ) (va-is : va ≡ cut_node N n false q) (A : IsKey W₁ va (R va) wa fa)
      (vb-is : vb ≡ cut_node N n true q) (B : IsKey W₁ vb (R vb) wb fb) (swap_is : swap ≡ ltb wb wa) where
    key : (d : Bool) → IsKey W₁ (cut_node N n d q) (R (cut_node N n d q)) (cond d wb wa) (cond d fb fa)
    key true = subst (λ (v : ℕ). IsKey W₁ v (R v) wb fb) vb-is B
    key false = subst (λ (v : ℕ). IsKey W₁ v (R v) wa fa) va-is A

    pub comes_first : Comes R W₁ n N p₁ q r swap (cut_node N n swap (front q r swap))
    comes_first = rw (same_front q r e swap) (record {
      inside = rw (same_front q r e swap) l;
      then_done = level_ready swap true;
      else_done = level_ready swap false;
      limit = λ word flag K d o m. rw (same_front q r e d)
          (level (key_high R W₁ n N c last p₁ q r X G few swap q word flag some l K) (level_ready d true) (level_ready d false)
          (λ k. omega (arith, (key d).word_is k, smaller_first wa wb swap d swap_is, key_unique W₁ (cut_node N n swap q) (R (cut_node N n swap q)) word flag (cond swap wb wa) (cond swap fb fa) K (key swap))));
    })

  -- and the other one next
  pub comes_next : (swap : Bool) (map₂ : List ℕ) (c₂ last₂ p₂ q₂ r₂ : ℕ) → p₁ ≤ p₂ → Moved q r q₂ r₂ swap → Merging R (word_at map₂) n N c₂ last₂ p₂ q₂ r₂
      → Comes R (word_at map₂) n N p₂ q₂ r₂ (not swap) (cut_node N n (not swap) (front q₂ r₂ (not swap)))
  comes_next swap map₂ c₂ last₂ p₂ q₂ r₂ m T G₂ = rw at_front (record {
    inside = rw at_front l;
    then_done = done_moves m T (level_ready (not swap) true);
    else_done = done_moves m T (level_ready (not swap) false);
    limit = λ word flag K d o i. higher (omega (
      arith,
      subst (λ (s : Bool). front q₂ r₂ s ≡ suc (front q r s)) (sym (not_other d swap o)) T.here,
      same_front q r e d,
      key_high R (word_at map₂) n N c₂ last₂ p₂ q₂ r₂ X G₂ (omega (arith, few_records R (word_at map₂) n N c₂ last₂ p₂ q₂ r₂ X G₂)) (not swap) q word flag some l K,
    ));
  })
    where
      at_front : front q₂ r₂ (not swap) ≡ q
      at_front = T.there (not swap) (not_self swap) ∙ same_front q r e (not swap)
