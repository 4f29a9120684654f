-- The pairs made ready to be numbered: for inner contracts only. Assumes nothing.
use Rattle.std.specs.Prelude.{ℕ, ◌+◌, ◌*◌, ◌%◌, ◌≤◌, ◌<◌, ◌≡◌, true, List}
use Rattle.diagram.specs.Format.{Words}
use Rattle.diagram.specs.Meaning.{flip}
use Rattle.pairing.specs.Pairs.{first_edge, second_edge, pair_height}
use Rattle.pairing.specs.Inner.{PairWithin}
use Rattle.naming.specs.declared.Operation.{Operation}
use Rattle.naming.specs.Combination.{names}

-- f is the flag of what an operation makes of two sinks whose flags are a and b
pub record IsFlag (op : Operation) (a b f : ℕ) : Type 0 where
  pub low : f < 2
  pub permits : flip f true ≡ names op (flip a true) (flip b true)

-- the first `count` words are pairs of edges that lie in their tables
abbrev pub PairsWithin : List ℕ → List ℕ → (ℕ → ℕ) → ℕ → Type 0
PairsWithin t u W count = (i : ℕ) → i < count → PairWithin t u (W i)

-- pair i is made ready: its height stands in the place of a slot and, if that is 0, the flag of its two sinks in the place of an edge
pub record Ready (op : Operation) (w v : Words) (W W' : ℕ → ℕ) (P i : ℕ) : Type 0 where
  pub height_is : W' (2 * P + i) ≡ pair_height w v (W i)
  pub flag_is : pair_height w v (W i) ≡ 0 → IsFlag op (first_edge (W i) % 2) (second_edge (W i) % 2) (W' (P + i))
  pub edge_stays : 0 < pair_height w v (W i) → W' (P + i) ≡ W (P + i)

-- ... and no other place is changed
pub record Readied (op : Operation) (w v : Words) (W W' : ℕ → ℕ) (P i : ℕ) : Type 0 where
  pub ready : Ready op w v W W' P i
  pub others : (k : ℕ) → (k ≡ P + i → ⊥) → (k ≡ 2 * P + i → ⊥) → W' k ≡ W k

-- the first `done` pairs are made ready; the pairs, the edges of the others and all second edges stay
pub record AllReady (op : Operation) (w v : Words) (W W' : ℕ → ℕ) (P done : ℕ) : Type 0 where
  pub ready : (i : ℕ) → i < done → Ready op w v W W' P i
  pub pairs : (i : ℕ) → i < P → W' i ≡ W i
  pub waiting : (i : ℕ) → done ≤ i → i < P → W' (P + i) ≡ W (P + i)
  pub second : (i : ℕ) → W' (3 * P + i) ≡ W (3 * P + i)
