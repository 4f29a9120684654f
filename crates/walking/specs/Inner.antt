-- An edge in a reduced diagram, and its two sides: for inner contracts only. Assumes nothing.
use Rattle.std.specs.Prelude.{ℕ, ◌/◌, ◌≤◌, ◌<◌, ◌≡◌, ◌≢◌, Bool, cond, List}
use Rattle.words.specs.Words.{word_at}
use Rattle.diagram.specs.Format.{height}
use Rattle.diagram.specs.Meaning.{bit, under}
use Rattle.diagram.specs.Ordered.{Reduced, HasDiagram}

-- edge e lies in a reduced diagram of n settings that the bytes hold
pub record Lies (bytes : List ℕ) (n e : ℕ) : Type 0 where
  pub nodes : ℕ
  pub holds : HasDiagram bytes n nodes
  pub reduced : Reduced (word_at bytes) n nodes
  pub inside : e / 2 ≤ nodes

-- ... of some number of settings
abbrev pub LiesIn : List ℕ → ℕ → Type 0
LiesIn bytes e = (n : ℕ) × Lies bytes n e

-- the two sides of edge e at its node's setting, of height h: they lie lower in the diagram and differ, and e permits what the side of a setup's own setting does
pub record Forks (bytes : List ℕ) (n e h high low : ℕ) : Type 0 where
  pub height_is : h ≡ height (word_at bytes) (e / 2)
  pub tall : 0 < h
  pub few : h ≤ n
  pub lies : (b : Bool) → Lies bytes n (cond b high low)
  pub smaller : (b : Bool) → cond b high low / 2 < e / 2
  pub lower : (b : Bool) → height (word_at bytes) (cond b high low / 2) < h
  pub differ : high ≢ low
  pub own : (y : ℕ) → under (word_at bytes) e y ≡ under (word_at bytes) (cond (bit h y) high low) y

-- ... whatever the number of settings
abbrev pub ForksIn : List ℕ → ℕ → ℕ → ℕ → ℕ → Type 0
ForksIn bytes e h high low = (n : ℕ) → Lies bytes n e → Forks bytes n e h high low
