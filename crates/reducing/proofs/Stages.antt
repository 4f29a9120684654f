-- The nodes before any height is numbered, before the next one, and when all are. Assumes nothing.
use Prim.Native.Nat.{ℕ, ◌+◌, ◌-◌, ◌*◌, ◌≤◌, ◌<◌}
use mathlib.Core.Path.{◌≡◌, refl}
use mathlib.Core.Bool.{Bool, true, false}
use mathlib.Core.List.{List}
use native.Mathlib.Omega.{arith}
use lib.Dec.{leb}
use lib.ListN.{get_or}
use Rattle.diagram.proofs.CountLaws.{count_le}
use Rattle.reducing.specs.Inner.{height_of, edge_of, records_of, HoldsNodes, Numbers}
use Rattle.reducing.specs.Steps.{Nodes, last_of, Linked, Staged, Ready}

-- the nodes that a sheet holds
abbrev pub nodes_of : (ℕ → ℕ) → ℕ → ℕ → ℕ → Nodes
nodes_of W P n M = record { height = height_of W P; edge = edge_of W P; top = n; count = M }

-- the lists of all heights begin at `heads`
abbrev pub Begin : Nodes → List ℕ → Type 0
Begin D heads = (h : ℕ) → h ≤ 63 → get_or heads h 0 ≡ last_of D.height h D.count

module _ (W : ℕ → ℕ) (P n M : ℕ) (H : HoldsNodes W P n M) where
  -- their lists are made
  module _ (X : ℕ → ℕ) (heads : List ℕ) (L : Linked (height_of W P) W X heads P M) where
    edge_stays : (b : Bool) (i : ℕ) → i < M → edge_of X P b i ≡ edge_of W P b i
    edge_stays true i l = L.others (P + i) (λ m. absurd (omega (arith, H.few)))
    edge_stays false i l = L.others (3 * P + i) (λ m. omega (arith, H.few))

    pub staged_first : Staged (nodes_of W P n M) X P 0 0
    staged_first = record {
      few = H.few;
      loose = H.loose;
      levelled = record {
        base = unfold records_of in refl;
        sinks = λ i l e. rw (edge_stays true i l) (H.flags i l e);
        small = λ i l m. absurd (omega arith);
        good = λ i l p m. absurd (omega arith);
        rises = λ k l. absurd (omega arith);
        origin = λ k l. absurd (omega arith);
      };
      room = omega arith;
      flags = λ i l e. edge_stays true i l;
      waits = λ b i l m. edge_stays b i l;
      links = L.links;
    }

-- the next height is h
pub staged_ready : (few : Bool) (D : Nodes) (W : ℕ → ℕ) (P c h first : ℕ) → Staged D W P c (h - 1) → 0 < h → h ≤ 63 → c ≤ 65535 → first ≡ last_of D.height h D.count
    → (few ≡ true → D.count ≤ 65536) → Ready few D W P c h first
staged_ready few D W P c h first S k l m e f = record { some = k; low = l; small = m; staged = S; begins = e; count_low = f }

-- the nodes of the sheet W are numbered in X up to height h
module _ (W X : ℕ → ℕ) (P n M c h : ℕ) (S : Staged (nodes_of W P n M) X P c h) where
  pub staged_numbers : Numbers W X P M c h
  staged_numbers = record { levelled = S.levelled; flags_stay = S.flags }

  pub staged_few : c ≤ M
  staged_few = omega (arith, S.room, count_le (λ i. leb (height_of W P i) h) M)
