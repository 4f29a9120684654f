-- The settings that an edge looks at. Assumes nothing.
use Prim.Native.Nat.{ℕ, ◌-◌, ◌/◌, ◌≤◌}
use mathlib.Core.Bool.{Bool, cond}
use mathlib.Core.List.{List}
use native.Mathlib.Omega.{arith}
use Rattle.words.specs.Words.{word_at}
use Rattle.diagram.specs.Format.{height}
use Rattle.diagram.specs.Meaning.{under}
use Rattle.diagram.proofs.Paths.{height_le_settings}
use Rattle.diagram.proofs.Local.{under_agree}
use Rattle.walking.specs.Inner.{Lies, Forks}
use Rattle.distances.specs.Inner.{LooksAt}
use Rattle.distances.proofs.Near.{looks_up}

-- an edge looks only at the settings of its node
pub edge_looks : (t : List ℕ) (n e : ℕ) → Lies t n e → LooksAt (under (word_at t) e) (height (word_at t) (e / 2))
edge_looks t n e L y z q = under_agree (word_at t) n L.nodes L.reduced.ordered e (height (word_at t) (e / 2)) y z L.inside (omega arith) q

-- ... of which there are at most 63
pub edge_few : (t : List ℕ) (n e : ℕ) → Lies t n e → height (word_at t) (e / 2) ≤ 63
edge_few t n e L = omega (arith, height_le_settings (word_at t) n L.nodes L.reduced.ordered (e / 2) L.inside, L.holds.few_settings)

-- its sides look only at those behind it
pub side_looks : {t : List ℕ} {n e h high low : ℕ} → Forks t n e h high low → (b : Bool) → LooksAt (under (word_at t) (cond b high low)) (h - 1)
side_looks {t} {n} {e} {h} {high} {low} F b =
    let s = cond b high low in
    looks_up (under (word_at t) s) (height (word_at t) (s / 2)) (h - 1) (omega (arith, F.lower b)) (edge_looks t n s (F.lies b))
