-- What the steps down to a setup know: for inner contracts only. Assumes nothing.
use Rattle.std.specs.Prelude.{ℕ, ◌+◌, ◌-◌, ◌*◌, ◌/◌, ◌^◌, ◌≤◌, ◌<◌, ◌≡◌, Bool, cond, List, leb}
use Rattle.words.specs.Words.{word_at}
use Rattle.diagram.specs.Format.{Words, height}
use Rattle.diagram.specs.Meaning.{under}
use Rattle.diagram.specs.Count.{count_below}
use Rattle.counting.specs.Inner.{Opens}
use Rattle.descent.specs.Settings.{IsLeft}
use Rattle.descent.specs.declared.Way.{Way}

-- after settings are chosen as the digits of x, h of n being left: edge e permits the setups that begin so, and `left` is the number left of the rank asked for
pub record Chosen (w : Words) (n root asked h e left x : ℕ) : Type 0 where
  pub few : h ≤ n
  pub same : (y : ℕ) → y < 2 ^ h → under w e y ≡ under w root (x * 2 ^ h + y)
  pub number : IsLeft (under w root) n asked h x left

-- what lies below edge e, where h settings are left: its node is of height g, and it permits c setups
pub record IsBelow (w : Words) (e h g c : ℕ) : Type 0 where
  pub height_is : g ≡ height w (e / 2)
  pub count_is : c ≡ count_below (under w e) (2 ^ h)

-- a setting chosen where the first `off` of the setups have it off: on, if the number left is past those, less their number, and one digit more
pub record IsChoice (off left x : ℕ) (on : Bool) (left' x' : ℕ) : Type 0 where
  pub on_is : on ≡ leb off left
  pub left_is : left' ≡ cond on (left - off) left
  pub digits_is : x' ≡ cond on (x * 2 + 1) (x * 2)

-- a way down, h settings being left: its edge can be counted, it has what lies below, and the number left is one of its setups
pub record Stands (table sheet : List ℕ) (h : ℕ) (way : Way) : Type 0 where
  pub opens : Opens table sheet way.edge.value h
  pub below : IsBelow (word_at table) way.edge.value h way.height way.count
  pub left_fits : way.left < way.count

-- a way after a setting that its edge's node does not look at: half of the setups are left
pub record Crossed (way next : Way) : Type 0 where
  pub same_edge : next.edge.value ≡ way.edge.value
  pub same_height : next.height ≡ way.height
  pub half : next.count ≡ way.count / 2
  pub on : Bool
  pub choice : IsChoice (way.count / 2) way.left way.digits on next.left next.digits

-- the settings chosen so far are the digits of a way, as `Chosen` says
abbrev pub ChosenBy : Words → ℕ → ℕ → ℕ → ℕ → Way → Type 0
ChosenBy w n root asked h way = Chosen w n root asked h way.edge.value way.left way.digits

-- from one way to the next, by the setting of height h: one digit more, whatever was asked for
pub record Advances (table sheet : List ℕ) (h : ℕ) (way next : Way) : Type 0 where
  pub stands : Stands table sheet (h - 1) next
  pub digits : next.digits / 2 ≡ way.digits
  pub chosen : (n root asked : ℕ) → ChosenBy (word_at table) n root asked h way → ChosenBy (word_at table) n root asked (h - 1) next
