-- Numbering a twice-cut table from its start to its end. Assumes nothing.
use Prim.Native.Nat.{ℕ, suc, ◌+◌, ◌≤◌, ◌<◌}
use mathlib.Core.Path.{◌≡◌, refl, ◌∙◌}
use mathlib.Core.Logic.{inl, inr}
use mathlib.Core.Bool.{Bool, true, false}
use mathlib.Core.List.{List}
use native.Mathlib.Omega.{arith}
use native.Mathlib.Nat.{le_refl}
use lib.ListN.{length}
use Rattle.words.specs.Words.{word_at}
use Rattle.words.proofs.Cases.{less, same, more, tri}
use Rattle.diagram.specs.Format.{Words, high_field}
use Rattle.diagram.proofs.Paths.{height_le_settings}
use Rattle.numbering.specs.Numbered.{Marks, KeepsOrder, Alike, AllNumbered}
use Rattle.numbering.proofs.Finish.{start, all_numbered, alike_same, alike_trans}
use Rattle.cutting.specs.Cut.{TwiceCut}
use Rattle.merging.specs.Inner.{front, Done, in_table, in_cut, Merging, Reached, Passed}
use Rattle.merging.proofs.Lists.{Left, left_table, left_cut, place}
use Rattle.merging.proofs.Merge.{few_records, high}
use Rattle.merging.proofs.Levels.{same_front}

-- the same with the fronts under other names
pub passed_as : {R : Words} {map map' : List ℕ} {n N limit p q r c' last' p' q' r' : ℕ}
    → q' ≡ q → r' ≡ r → Passed R map map' n N limit p q r c' last' p' → Passed R map map' n N limit p q' r' c' last' p'
passed_as e f P = rw (e, f) P

-- numbering goes on and on
pub reached_trans : {R : Words} {map map₁ map₂ : List ℕ} {n N p c₁ last₁ p₁ q₁ r₁ c₂ last₂ p₂ q₂ r₂ : ℕ} → Reached R map map₁ n N p c₁ last₁ p₁ q₁ r₁ → Reached R map₁ map₂ n N p₁ c₂ last₂ p₂ q₂ r₂
    → Reached R map map₂ n N p c₂ last₂ p₂ q₂ r₂
reached_trans {map = map} {map₁ = map₁} {map₂ = map₂} a b = record {
  merging = b.merging;
  ahead = omega (arith, a.ahead, b.ahead);
  alike = alike_trans (word_at map) (word_at map₁) (word_at map₂) a.alike b.alike;
  same_length = b.same_length ∙ a.same_length;
}

-- nothing is numbered yet
pub reached_first : (R : Words) (map : List ℕ) (n N : ℕ) → Marks R (word_at map) (N + n + n) → Reached R map map n N 1 0 0 1 1 1
reached_first R map n N K = record {
  merging = record {
    fronts = record { p_low = omega arith; p_high = omega arith; low = λ b. omega (arith, one b); high = λ b. omega (arith, one b) };
    going = start R (word_at map) (N + n + n) (Done N n 1 1 1) K none;
    kept = record { plain = λ i l k. let e : i ≡ 0 = omega arith in rw e (omega (arith, K.sink)); rises = λ i k a l x y. absurd (omega arith) };
    count = omega arith;
  };
  ahead = le_refl 1;
  alike = alike_same (word_at map);
  same_length = refl;
}
  where
    one : (b : Bool) → front 1 1 b ≡ 1
    one = same_front 1 1 refl

    none : (u : ℕ) → Done N n 1 1 1 (suc u) → ⊥
    none u (in_table a) = omega arith
    none u (in_cut true a b) = omega arith
    none u (in_cut false a b) = omega arith

module _ (R : Words) (map map₁ : List ℕ) (n N q r c last p : ℕ) (X : TwiceCut R n N) (settings : n ≤ 63) (nodes : N ≤ 65535) (e : r ≡ q) (l : n < q) where
  -- no new record is above the greatest word, so the table is numbered too
  pub finished : (p₀ p₁ : ℕ) (map₀ : List ℕ) → Reached R map map₀ n N p₀ c last p q r → (c₁ last₁ : ℕ) → Passed R map₀ map₁ n N 18446744073709551615 p q r c₁ last₁ p₁
      → AllNumbered R (word_at map₁) (N + n + n) c₁ × KeepsOrder (word_at map₁) (N + 1) × Alike (word_at map) (word_at map₁) × (c₁ ≤ N + n + n) × (length map₁ ≡ length map)
  finished p₀ p₁ map₀ A c₁ last₁ P =
      let t = reached_trans A P.passing.reached in
      (all_numbered R (word_at map₁) (N + n + n) c₁ last₁ (Done N n p₁ q r) G.going all, rw end at G.kept, t.alike, few, t.same_length)
    where
      G : Merging R (word_at map₁) n N c₁ last₁ p₁ q r
      G = P.passing.reached.merging

      few : c₁ ≤ N + n + n
      few = few_records R (word_at map₁) n N c₁ last₁ p₁ q r X G

      behind : p₁ ≤ N → ⊥
      behind m =
          let h = high R (word_at map₁) n N c₁ last₁ p₁ q r X G (omega (arith, few)) p₁ G.fronts.p_low (omega arith) in
          let i = height_le_settings R n (N + n + n) X.ordered p₁ (omega arith) in
          unfold high_field in omega (arith, (P.above m).1)

      end : p₁ ≡ N + 1
      end = let h = G.fronts.p_high in elim (tri p₁ (N + 1)) [ less l ↦ absurd (behind (omega arith)) | same e ↦ e | more l ↦ absurd (omega arith) ]

      no : (v : ℕ) → Left N n p₁ q r v → ⊥
      no v (left_table i j) = behind (omega arith)
      no v (left_cut b i j) = omega (arith, same_front q r e b)

      all : (u : ℕ) → u < N + n + n → Done N n p₁ q r (suc u)
      all u m = elim (place N n p₁ q r (suc u) m) [ inl d ↦ d | inr d ↦ absurd (no (suc u) d) ]
