-- The nodes of one height are numbered by searching: their words are sorted and made unique, and each node finds its own. Assumes nothing.
use Prim.Native.Nat.{ℕ, ◌+◌, ◌-◌, ◌*◌, ◌≤◌, ◌<◌}
use mathlib.Core.Path.{◌≡◌, refl, ◌∙◌}
use mathlib.Core.Bool.{Bool, true, false}
use mathlib.Core.List.{List}
use native.Mathlib.Omega.{arith}
use Rattle.words.specs.Words.{word_at}
use Rattle.sorting.specs.Sorting.{Strict, Among, Sorted, Unique}
use Rattle.reducing.specs.Inner.{edge_of, records_of}
use Rattle.reducing.specs.Steps.{Nodes, Staged, Ready, side_of, Candidate, Collected, Countable, Counted}
use Rattle.reducing.proofs.Collecting.{ready_side, collected_low}
use Rattle.reducing.proofs.Giving.{good_as}
use Rattle.reducing.proofs.Raising.{Leaves}

-- the values of the words a to b - 1 of X are the words a to r - 1 of Z, in strictly ascending order
pub record Settled (X Z : ℕ → ℕ) (a b r : ℕ) : Type 0 where
  pub from : a ≤ r
  pub to : r ≤ b
  pub strict : Strict Z a r
  pub kept : (v : ℕ) → Among X a b v → Among Z a r v
  pub came : (v : ℕ) → Among Z a r v → Among X a b v
  pub before : (i : ℕ) → i < a → Z i ≡ X i
  pub after : (i : ℕ) → b ≤ i → Z i ≡ X i

-- sorted and made unique
pub settled : {s s' s'' : List ℕ} {a b r : ℕ} → Sorted s s' a b → Unique s' s'' a b r → Settled (word_at s) (word_at s'') a b r
settled S U = record {
  from = U.from;
  to = U.to;
  strict = U.strict;
  kept = λ v m. U.kept v (S.kept v m);
  came = λ v m. S.came v (U.came v m);
  before = λ i l. U.before i l ∙ S.before i l;
  after = λ i l. U.after i l ∙ S.after i l;
}

module _ {few : Bool} (D : Nodes) (W X Z : ℕ → ℕ) (P c h first end r : ℕ) (R : Ready few D W P c h first) (collected : Collected few D W X P c h end 0) (M : Settled X Z c end r)
    (off : few ≡ false) where
  C : Collected false D W X P c h end 0
  C = rw off at collected

  abbrev S : Staged D W P c (h - 1)
  S = R.staged

  end_low : end ≤ P
  end_low = collected_low D W P c h first R X end collected

  edge_stays : (b : Bool) (i : ℕ) → edge_of Z P b i ≡ edge_of X P b i
  edge_stays true i = M.after (P + i) (omega (arith, end_low))
  edge_stays false i = M.after (3 * P + i) (omega (arith, end_low))

  link_stays : (i : ℕ) → i < D.count → Z (2 * P + i) ≡ W (2 * P + i)
  link_stays i l = M.after (2 * P + i) (omega (arith, end_low)) ∙ C.links i (omega (arith, S.few))

  -- the edges of a node of height h
  sides : (b : Bool) (i : ℕ) → i < D.count → D.height i ≡ h → edge_of Z P b i ≡ side_of D W P b i
  sides b i l q = edge_stays b i ∙ C.sides b i l (omega arith) q

  -- the nodes of height h can be numbered
  pub countable : Countable D Z P c r h first
  countable = record {
    few = S.few;
    low = R.low;
    to = omega (arith, M.to, end_low);
    nodes = λ i l q. record {
      strict = M.strict;
      small = λ b. rw (sides b i l q) (ready_side D W P c h first R b i l (omega arith) (omega (arith, R.some)));
      there = rw (sides true i l q, sides false i l q) (λ n. M.kept _ (C.made i l (omega arith) q n));
    };
    links = λ i l. link_stays i l ∙ S.links i l;
    begins = R.begins;
  }

  -- they are numbered
  module _ (W' : ℕ → ℕ) (N : Counted D Z W' P r h 0) where
    word_new : (k : ℕ) → k < r → W' k ≡ Z k
    word_new k l = N.before k (omega (arith, M.to, end_low))

    candidate : (k : ℕ) → c ≤ k → k < r → Candidate false D W P h (Z k)
    candidate k a b =
        let m = M.came (Z k) (record { at = k; from = a; to = b; is = refl }) in
        rw m.is at (C.came m.at m.from m.to)

    kept : (b : Bool) (i : ℕ) → i < D.count → (D.height i ≡ h → ⊥) → edge_of W' P b i ≡ edge_of Z P b i
    kept true i l n = N.kept i l (λ e. absurd (n e))
    kept false i l n = N.behind (3 * P + i) (omega arith)

    pub search_leaves : Leaves D W W' P c h r
    unfolding Strict records_of
    search_leaves = record {
      up = M.from;
      room = omega (arith, M.to, C.room);
      strict = λ i j l m n. omega (arith, word_new i (omega arith), word_new j n, M.strict i j l m n);
      came = λ k a b. rw (word_new k b) (candidate k a b);
      given = λ i l q. good_as (rw (sides true i l q, sides false i l q) at (N.given i l (omega arith) q)) (omega arith) (λ k a. word_new k a);
      before = λ k l. N.before k (omega (arith, C.up, end_low)) ∙ M.before k l ∙ C.before k l;
      kept = λ b i l n. kept b i l n ∙ edge_stays b i ∙ C.kept b i l (λ e. absurd (n e));
      links = λ i l. N.behind (2 * P + i) (omega arith) ∙ link_stays i l;
    }
