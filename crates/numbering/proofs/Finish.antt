-- Numbering from its start to its end. Assumes nothing.
use Prim.Native.Nat.{ℕ, suc, ◌/◌, ◌≤◌, ◌<◌}
use mathlib.Core.Path.{◌≡◌, refl}
use mathlib.Core.Logic.{◌⊎◌, inl, inr}
use native.Mathlib.Omega.{arith}
use Rattle.diagram.specs.Format.{Words, then_edge, else_edge}
use Rattle.diagram.specs.Ordered.{Ordered}
use Rattle.numbering.specs.Numbered.{Numbered, Wanted, Marks, Marked, Alike, Going, AllNumbered, Finished}
use Rattle.numbering.proofs.Means.{renumber_under}
use Rattle.numbering.proofs.Names.{renumber_root, renumber_proper}

-- the kept nodes that are done, said otherwise
numbered_as : (R W L : Words) (M c : ℕ) (Done Done' : ℕ → Type 0) → Numbered R W L M c Done → ((u : ℕ) → u < M → Done (suc u) → Done' (suc u))
    → ((u : ℕ) → u < M → 0 < W (suc u) → Done' (suc u) → Done (suc u)) → Numbered R W L M c Done'
numbered_as R W L M c Done Done' S old only = record {
  sink = S.sink;
  base = S.base;
  small = S.small;
  good = λ u l k d. S.good u l k (only u l k d);
  rises = S.rises;
  source = λ i l. let s = S.source i l in record {
    node = s.node;
    inside = s.inside;
    live = s.live;
    done = old s.node s.inside s.done;
    apart = s.apart;
    number = s.number;
    makes = s.makes;
  };
}

-- nothing is numbered: nodes that are left out are passed
pub pass : (R W : Words) (M c last : ℕ) (Done Done' : ℕ → Type 0) → Going R W M c last Done → ((u : ℕ) → Done u → Done' u)
    → ((u : ℕ) → Done' u → (W u ≡ 0) ⊎ Done u) → Going R W M c last Done'
pass R W M c last Done Done' G old only = record {
  list = G.list;
  numbered = numbered_as R W G.list M c Done Done' G.numbered (λ u l. old (suc u)) (λ u l. done u);
  latest = G.latest;
  closed = G.closed;
  below = λ u l k d. let b = G.below u l k (done u k d) in (old (then_edge R (suc u) / 2) b.0, old (else_edge R (suc u) / 2) b.1);
  ahead = λ u l k d. G.ahead u l k (λ q. d (old (suc u) q));
}
  where
    done : (u : ℕ) → 0 < W (suc u) → Done' (suc u) → Done (suc u)
    done u k d = elim (only (suc u) d) [ inl q ↦ absurd (omega arith) | inr q ↦ q ]

-- nothing is done yet: what is kept is marked by 1
pub start : (R W : Words) (M : ℕ) (Done : ℕ → Type 0) → Marks R W M → ((u : ℕ) → Done (suc u) → ⊥) → Going R W M 0 0 Done
start R W M Done K none = record {
  list = λ i. 0;
  numbered = record {
    sink = K.sink;
    base = refl;
    small = λ v l. omega (arith, K.bits v l);
    good = λ v l k d. absurd (none v d);
    rises = λ i l. absurd (omega arith);
    source = λ i l. absurd (omega arith);
  };
  latest = refl;
  closed = K.closed;
  below = λ u l k d. absurd (none u d);
  ahead = λ u l k d. omega arith;
}

-- all is done
pub all_numbered : (R W : Words) (M c last : ℕ) (Done : ℕ → Type 0) → Going R W M c last Done → ((u : ℕ) → u < M → Done (suc u)) → AllNumbered R W M c
all_numbered R W M c last Done G all = record {
  list = G.list;
  numbered = numbered_as R W G.list M c Done (λ v. v ≤ M) G.numbered (λ u l d. l) (λ u l k d. all u l);
  closed = G.closed;
}

-- W₀ are the marks that said what to keep
pub finish : (R W₀ W : Words) (n M c root : ℕ) → Ordered R n M → Marked R W₀ M root → Alike W₀ W → AllNumbered R W M c → c < 268435455 → root / 2 ≤ M → Finished R W n M c root
finish R W₀ W n M c root D K A G few inside = record {
  list = G.list;
  proper = renumber_proper R W G.list n M c (λ v. v ≤ M) D G.closed G.numbered few (λ v l. l) root inside wanted;
  root_node = renumber_root R W G.list n M c (λ v. v ≤ M) D G.closed G.numbered few (λ v l. l) root inside wanted;
  means = λ x. renumber_under R W G.list n M c (λ v. v ≤ M) D G.closed G.numbered few (λ v l. l) root x inside (A.up (root / 2) K.top);
  numbered = G.numbered;
}
  where
    wanted : Wanted R W M (root / 2)
    wanted k l i = elim (K.wanted k l (A.down (suc k) i)) [ inl q ↦ inl q | inr q ↦ inr (q.0, q.1, A.up (suc q.0) q.2, q.3) ]

-- the same nodes are kept
pub alike_trans : (W W' W'' : Words) → Alike W W' → Alike W' W'' → Alike W W''
alike_trans W W' W'' a b = record { up = λ v l. b.up v (a.up v l); down = λ v l. a.down v (b.down v l) }

pub alike_same : (W : Words) → Alike W W
alike_same W = record { up = λ v l. l; down = λ v l. l }
