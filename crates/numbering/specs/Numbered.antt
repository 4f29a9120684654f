-- An ordered diagram R of nodes 1 to M whose kept nodes are numbered anew by a map W, one after the other. For inner contracts only. Assumes nothing.
use Rattle.std.specs.Prelude.{ℕ, suc, ◌+◌, ◌*◌, ◌/◌, ◌%◌, ◌≤◌, ◌<◌, ◌≡◌, ◌⊎◌}
use Rattle.diagram.specs.Format.{Words, height, then_edge, else_edge}
use Rattle.diagram.specs.Meaning.{under}
use Rattle.diagram.specs.Ordered.{Ordered, Reduced, Proper}
use Rattle.numbering.specs.Renewal.{image, normal, renew}

-- x, the map's place of a node of height h whose edges become t and e, is right: 1 + that edge, where they are equal; or else the number of its record in the list L of c records, with the flag
pub data Good (h t e x : ℕ) (L : Words) (c : ℕ) : Type 0 where
  dropped : t ≡ e → x ≡ suc t → Good h t e x L c
  made : (i : ℕ) → i < c → (t ≡ e → ⊥) → x ≡ suc (2 * suc i + t % 2) → L (suc i) ≡ normal h t e → Good h t e x L c

-- node + 1 is why there is a record i + 1
pub record Source (R W L : Words) (M : ℕ) (Done : ℕ → Type 0) (i : ℕ) : Type 0 where
  pub node : ℕ
  pub inside : node < M
  pub live : 0 < W (suc node)
  pub done : Done (suc node)
  pub apart : image W (then_edge R (suc node)) ≡ image W (else_edge R (suc node)) → ⊥
  pub number : W (suc node) ≡ suc (2 * suc i + image W (then_edge R (suc node)) % 2)
  pub makes : L (suc i) ≡ normal (height R (suc node)) (image W (then_edge R (suc node))) (image W (else_edge R (suc node)))

-- the records L 1 to L c are those of the nodes that are done, in ascending order, each once; W says which
pub record Numbered (R W L : Words) (M c : ℕ) (Done : ℕ → Type 0) : Type 0 where
  pub sink : W 0 ≡ 1
  pub base : L 0 ≡ 0
  pub small : (v : ℕ) → v ≤ M → W v ≤ 2 * c + 2
  pub good : (v : ℕ) → v < M → 0 < W (suc v) → Done (suc v) → Good (height R (suc v)) (image W (then_edge R (suc v))) (image W (else_edge R (suc v))) (W (suc v)) L c
  pub rises : (i : ℕ) → i < c → L i < L (suc i)
  pub source : (i : ℕ) → i < c → Source R W L M Done i

-- what is kept keeps its edges' nodes
pub record Closed (R W : Words) (M : ℕ) : Type 0 where
  pub closed_then : (k : ℕ) → k < M → 0 < W (suc k) → 0 < W (then_edge R (suc k) / 2)
  pub closed_else : (k : ℕ) → k < M → 0 < W (suc k) → 0 < W (else_edge R (suc k) / 2)

-- every kept node but `top` and the sink is named by a kept record
abbrev pub Wanted : Words → Words → ℕ → ℕ → Type 0
Wanted R W M top = (k : ℕ) → k < M → 0 < W (suc k) → (suc k ≡ top) ⊎ ((j : ℕ) × (j < M) × (0 < W (suc j)) × ((then_edge R (suc j) / 2 ≡ suc k) ⊎ (else_edge R (suc j) / 2 ≡ suc k)))

-- the nodes that are to be kept are marked by 1: the sink, and what they lead to
pub record Marks (R W : Words) (M : ℕ) : Type 0 where
  pub sink : W 0 ≡ 1
  pub bits : (v : ℕ) → v ≤ M → W v ≤ 1
  pub closed : Closed R W M

-- ... they are the root's node and what it leads to
pub record Marked (R W : Words) (M root : ℕ) : Type 0 where
  pub marks : Marks R W M
  pub top : 0 < W (root / 2)
  pub wanted : Wanted R W M (root / 2)

-- the same nodes are kept
pub record Alike (W W' : Words) : Type 0 where
  pub up : (v : ℕ) → 0 < W v → 0 < W' v
  pub down : (v : ℕ) → 0 < W' v → 0 < W v

-- the places of the nodes before p keep their order, and are of plain edges
pub record KeepsOrder (W : Words) (p : ℕ) : Type 0 where
  pub plain : (i : ℕ) → i < p → 0 < W i → W i % 2 ≡ 1
  pub rises : (i k : ℕ) → i < k → k < p → 0 < W i → 0 < W k → W i < W k

-- the nodes up to N are a reduced table, and keep their order
pub record PlainTable (R W : Words) (n N : ℕ) : Type 0 where
  pub table : Reduced R n N
  pub kept : KeepsOrder W (N + 1)

-- the nodes that are done are numbered, with c records of which `last` is the last; what is left has records that are not below it
pub record Going (R W : Words) (M c last : ℕ) (Done : ℕ → Type 0) : Type 0 where
  pub list : Words
  pub numbered : Numbered R W list M c Done
  pub latest : list c ≡ last
  pub closed : Closed R W M
  pub below : (u : ℕ) → u < M → 0 < W (suc u) → Done (suc u) → Done (then_edge R (suc u) / 2) × Done (else_edge R (suc u) / 2)
  pub ahead : (u : ℕ) → u < M → 0 < W (suc u) → (Done (suc u) → ⊥) → last ≤ renew W (R (suc u))

-- all kept nodes are numbered, with c records
pub record AllNumbered (R W : Words) (M c : ℕ) : Type 0 where
  pub list : Words
  pub numbered : Numbered R W list M c (λ v. v ≤ M)
  pub closed : Closed R W M

-- ... and the records, with the root's edge, are a proper diagram that means the same
pub record Finished (R W : Words) (n M c root : ℕ) : Type 0 where
  pub list : Words
  pub proper : Proper list n c
  pub root_node : image W root / 2 ≡ c
  pub means : (x : ℕ) → under list (image W root) x ≡ under R root x
  pub numbered : Numbered R W list M c (λ v. v ≤ M)

-- the nodes' new records can be read off
pub record Keyed (R W : Words) (n M : ℕ) : Type 0 where
  pub ordered : Ordered R n M
  pub closed : Closed R W M
  pub small : (v : ℕ) → v ≤ M → W v < 268435456
