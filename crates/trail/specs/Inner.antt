-- What is kept of the way down to a rank, for the next one: for inner contracts only. Assumes nothing.
use Rattle.std.specs.Prelude.{ℕ, ◌+◌, ◌-◌, ◌/◌, ◌^◌, ◌≤◌, ◌<◌, ◌≡◌, List, length, get_or}
use Rattle.std.proofs.Math.Option.{some}
use Rattle.words.specs.Words.{word_at}
use Rattle.diagram.specs.Meaning.{under}
use Rattle.diagram.specs.Count.{count_below, select}
use Rattle.counting.specs.Inner.{Opens}
use Rattle.descent.specs.declared.Way.{Way}
use Rattle.descent.specs.Inner.{Chosen, ChosenBy, Stands}

-- some of the 64 ends is above rank r
pub record Ends (ends : List ℕ) (r : ℕ) : Type 0 where
  pub top : ℕ
  pub few : top < 64
  pub above : r < get_or ends top 0

-- the way down to rank r where h settings are left: the digits chosen are those of x, and the setups that begin so end before rank `end`
pub record Entry (t s : List ℕ) (n root r h e end x : ℕ) : Type 0 where
  pub opens : Opens t s e h
  pub left : ℕ
  pub chosen : Chosen (word_at t) n root r h e left x
  pub end_is : end + left ≡ r + count_below (under (word_at t) e) (2 ^ h)

-- what is kept of the way down to rank r from edge `root` over n settings, up to where h are left and the digits of x chosen: an entry for each number k of settings left whose setups do not end before r
pub record Trail (t s : List ℕ) (n root r : ℕ) (edges ends : List ℕ) (h x : ℕ) : Type 0 where
  pub few : n ≤ 63
  pub edges_long : length edges ≡ 64
  pub ends_long : length ends ≡ 64
  pub top : get_or ends n 0 ≡ count_below (under (word_at t) root) (2 ^ n)
  pub entry : (k : ℕ) → h ≤ k → k ≤ n → r < get_or ends k 0 → Entry t s n root r k (get_or edges k 0) (get_or ends k 0) (x / 2 ^ (k - h))

-- before the first rank, in whichever table root edge `root` has `count` setups over n settings
abbrev pub AtRoot : ℕ → ℕ → ℕ → List ℕ → List ℕ → ℕ → Type 0
AtRoot n root count edges ends x = (t s : List ℕ) → Opens t s root n → count ≡ count_below (under (word_at t) root) (2 ^ n) → Trail t s n root 0 edges ends 0 x

-- the way itself, and what is kept of it
pub record Follows (t s : List ℕ) (n root r : ℕ) (edges ends : List ℕ) (h : ℕ) (way : Way) : Type 0 where
  pub low : h ≤ n
  pub stands : Stands t s h way
  pub chosen : ChosenBy (word_at t) n root r h way
  pub trail : Trail t s n root r edges ends h way.digits

-- some way is followed, from whichever edge
abbrev pub Followed : List ℕ → List ℕ → ℕ → List ℕ → List ℕ → ℕ → Way → Type 0
Followed t s r edges ends h way = (n : ℕ) × (root : ℕ) × Follows t s n root r edges ends h way

-- rank r can be followed from what is kept of the way to the setup `last`
pub record Resumes (t s : List ℕ) (n root r : ℕ) (edges ends : List ℕ) (last : ℕ) : Type 0 where
  pub trail : Trail t s n root r edges ends 0 last
  pub inside : r < count_below (under (word_at t) root) (2 ^ n)

abbrev pub Resumed : List ℕ → List ℕ → ℕ → List ℕ → List ℕ → ℕ → Type 0
Resumed t s r edges ends last = (n : ℕ) × (root : ℕ) × Resumes t s n root r edges ends last

-- the setup x of rank r was found, and the way to it is kept
pub record Reaches (t s : List ℕ) (n root r : ℕ) (edges ends : List ℕ) (x : ℕ) : Type 0 where
  pub setup_is : select (under (word_at t) root) (2 ^ n) r ≡ some x
  pub trail : Trail t s n root r edges ends 0 x

-- whichever way was followed, it is followed on
abbrev pub FollowsOn : List ℕ → List ℕ → ℕ → List ℕ → List ℕ → ℕ → Way → List ℕ → List ℕ → ℕ → Way → Type 0
FollowsOn t s r edges ends h way edges' ends' h' way' = (n root : ℕ) → Follows t s n root r edges ends h way → Follows t s n root r edges' ends' h' way'

-- ... and to its setup
abbrev pub FollowsTo : List ℕ → List ℕ → ℕ → List ℕ → List ℕ → ℕ → Way → List ℕ → List ℕ → ℕ → Type 0
FollowsTo t s r edges ends h way edges' ends' x = (n root : ℕ) → Follows t s n root r edges ends h way → Reaches t s n root r edges' ends' x

-- ... from what was kept
abbrev pub ResumesTo : List ℕ → List ℕ → ℕ → List ℕ → List ℕ → ℕ → List ℕ → List ℕ → ℕ → Type 0
ResumesTo t s r edges ends last edges' ends' x = (n root : ℕ) → Resumes t s n root r edges ends last → Reaches t s n root r edges' ends' x
