-- Pairs of edges that lie in their tables, and what they lead to. Assumes nothing.
use Prim.Native.Nat.{ℕ, ◌+◌, ◌-◌, ◌*◌, ◌/◌, ◌%◌, ◌^◌, ◌≤◌, ◌<◌, max}
use mathlib.Core.Path.{◌≡◌, ap, ◌∙◌}
use mathlib.Core.Bool.{Bool}
use mathlib.Core.List.{List}
use native.Mathlib.Omega.{arith}
use lib.ListN.{length}
use borrow.Author.Tests.{lt-ltb, le-ltb}
use Rattle.words.specs.Words.{word_at}
use Rattle.words.proofs.Cases.{less, same, more, tri}
use Rattle.diagram.specs.Format.{Words, height}
use Rattle.diagram.specs.Reading.{Within, cofactor}
use Rattle.diagram.proofs.Inside.{within_room, within_below}
use Rattle.diagram.proofs.Cofactor.{no_sink, cofactor_low}
use Rattle.pairing.specs.Pairs.{pair_of, first_edge, second_edge, greater, pair_height, follow}
use Rattle.pairing.specs.Inner.{PairWithin}

-- the greater of two numbers
greater_low : (a b : ℕ) → a < b → greater a b ≡ b
greater_low a b l = rw (lt-ltb a b l)

greater_high : (a b : ℕ) → b ≤ a → greater a b ≡ a
greater_high a b l = rw (le-ltb a b l)

pub greater_bound : (a b h : ℕ) → (a ≤ h) → (b ≤ h) → greater a b ≤ h
greater_bound a b h p q = elim (tri a b) [
  | less l ↦ rw (greater_low a b l) q
  | same l ↦ rw (greater_high a b (omega arith)) p
  | more l ↦ rw (greater_high a b (omega arith)) p
]

pub greater_is : (a b : ℕ) → max a b ≡ greater a b
greater_is a b = elim (tri a b) [
  | less l ↦ rw (greater_low a b l) (omega arith)
  | same l ↦ rw (greater_high a b (omega arith)) (omega arith)
  | more l ↦ rw (greater_high a b (omega arith)) (omega arith)
]

greater_least : (a b : ℕ) → (a ≤ greater a b) × (b ≤ greater a b)
greater_least a b = elim (tri a b) [
  | less l ↦ rw (greater_low a b l) (omega arith, omega arith)
  | same l ↦ rw (greater_high a b (omega arith)) (omega arith, omega arith)
  | more l ↦ rw (greater_high a b (omega arith)) (omega arith, omega arith)
]

-- the edges of a pair are read back
pub first_of_pair : (a b : ℕ) → b < 2 ^ 17 → first_edge (pair_of a b) ≡ a
unfolding first_edge pair_of
first_of_pair a b l = omega arith

pub second_of_pair : (a b : ℕ) → b < 2 ^ 17 → second_edge (pair_of a b) ≡ b
unfolding second_edge pair_of
second_of_pair a b l = omega arith

-- an edge to a node in a table is below 2 ^ 17
edge_small : (t : List ℕ) (e : ℕ) → Within t (e / 2) → e < 2 ^ 17
edge_small t e W = omega (arith, W.inside, W.holds.few)

pub pair_within : (t u : List ℕ) (a b : ℕ) → Within t (a / 2) → Within u (b / 2) → PairWithin t u (pair_of a b)
pair_within t u a b A B =
    let l = edge_small u b B in
    record { first = rw (first_of_pair a b l) A; second = rw (second_of_pair a b l) B }

-- a pair of edges that both lie below h lies below h
pair_lower : (w v : Words) (x y h : ℕ) → y < 2 ^ 17 → height w (x / 2) < h → height v (y / 2) < h → pair_height w v (pair_of x y) < h
unfolding pair_height
pair_lower w v x y h l p q =
    rw (first_of_pair x y l, second_of_pair x y l) (omega (arith, greater_bound (height w (x / 2)) (height v (y / 2)) (h - 1) (omega arith) (omega arith)))

module _ (t u : List ℕ) (pair : ℕ) (I : PairWithin t u pair) where
  abbrev w : Words
  w = word_at t

  abbrev v : Words
  v = word_at u

  abbrev a : ℕ
  a = first_edge pair

  abbrev b : ℕ
  b = second_edge pair

  abbrev h : ℕ
  h = pair_height w v pair

  pub pair_small : pair < 2 ^ 34
  unfolding first_edge
  pair_small = omega (arith, edge_small t (pair / 2 ^ 17) I.first)

  pub first_low : height w (a / 2) ≤ h
  unfolding pair_height
  first_low = (greater_least (height w (a / 2)) (height v (b / 2))).0

  pub second_low : height v (b / 2) ≤ h
  unfolding pair_height
  second_low = (greater_least (height w (a / 2)) (height v (b / 2))).1

  -- a pair of some height leads to pairs in the tables that are lower
  module _ (some : 0 < h) (on : Bool) where
    first_cofactor : (cofactor w h on a / 2 ≤ a / 2) × (height w (cofactor w h on a / 2) < h)
    first_cofactor = let W = I.first in cofactor_low w W.settings W.nodes W.holds.ordered a h W.inside first_low some on

    second_cofactor : (cofactor v h on b / 2 ≤ b / 2) × (height v (cofactor v h on b / 2) < h)
    second_cofactor = let W = I.second in cofactor_low v W.settings W.nodes W.holds.ordered b h W.inside second_low some on

    pub first_within : Within t (cofactor w h on a / 2)
    first_within = within_below t (a / 2) I.first (cofactor w h on a / 2) first_cofactor.0

    pub second_within : Within u (cofactor v h on b / 2)
    second_within = within_below u (b / 2) I.second (cofactor v h on b / 2) second_cofactor.0

    pub first_small : cofactor w h on a < 2 ^ 17
    first_small = edge_small t (cofactor w h on a) first_within

    pub second_small : cofactor v h on b < 2 ^ 17
    second_small = edge_small u (cofactor v h on b) second_within

    pub follow_within : PairWithin t u (follow w v on pair)
    unfolding follow
    follow_within = pair_within t u (cofactor w h on a) (cofactor v h on b) first_within second_within

    pub follow_lower : pair_height w v (follow w v on pair) < h
    unfolding follow
    follow_lower = pair_lower w v (cofactor w h on a) (cofactor v h on b) h second_small first_cofactor.1 second_cofactor.1

  -- ... as the code finds them, by the height h' of the pair
  module _ (h' : ℕ) (height_is : h' ≡ h) (some : 0 < h') where
    pub first_asks : Within t (pair / 131072 / 2) × (height w (pair / 131072 / 2) ≤ h') × (0 < h')
    unfolding first_edge
    first_asks = (I.first, omega (arith, first_low), some)

    pub second_asks : Within u (pair % 131072 / 2) × (height v (pair % 131072 / 2) ≤ h') × (0 < h')
    unfolding second_edge
    second_asks = (I.second, omega (arith, second_low), some)

    pub side_is : (on : Bool) (x y : ℕ) → x ≡ cofactor w h' on (pair / 131072) → y ≡ cofactor v h' on (pair % 131072)
        → (x < 131072) × (y < 131072) × (x * 131072 + y ≡ follow w v on pair)
    unfolding first_edge second_edge follow pair_of
    side_is on x y p q =
        let l : 0 < h = omega arith in
        let e : x ≡ cofactor w h on a = p ∙ ap (λ (g : ℕ). cofactor w g on a) height_is in
        let f : y ≡ cofactor v h on b = q ∙ ap (λ (g : ℕ). cofactor v g on b) height_is in
        (rw e (first_small l on), rw f (second_small l on), rw (e, f))

-- the height of a pair, as the code finds it
module _ (t u : List ℕ) (pair : ℕ) (I : PairWithin t u pair) where
  pub first_room : 8 * (pair / 131072 / 2) + 8 ≤ length t
  unfolding first_edge
  first_room = within_room t (first_edge pair / 2) I.first

  pub second_room : 8 * (pair % 131072 / 2) + 8 ≤ length u
  unfolding second_edge
  second_room = within_room u (second_edge pair / 2) I.second

  module _ (x y : ℕ) (x-is : x ≡ height (word_at t) (pair / 131072 / 2)) (y-is : y ≡ height (word_at u) (pair % 131072 / 2)) where
    pub higher : max x y ≡ pair_height (word_at t) (word_at u) pair
    unfolding first_edge second_edge pair_height
    higher = greater_is x y ∙ rw (x-is, y-is)

-- a node as high as the setting asked for is not the sink, and has its record
pub high_node : (t : List ℕ) (e h v g : ℕ) → Within t (e / 2) → 0 < h → v ≡ e / 2 → g ≡ height (word_at t) v → h ≤ g → (0 < v) × (8 * v + 8 ≤ length t)
high_node t e h v g W l v-is g-is q = (no_sink (word_at t) v (omega (arith, g-is)), rw v-is (within_room t (e / 2) W))
