-- A table with the nodes of two cuts behind it is numbered in the order of the new records: what holds in between. For inner contracts only. Assumes nothing.
use Rattle.std.specs.Prelude.{ℕ, suc, ◌+◌, ◌/◌, ◌≤◌, ◌<◌, ◌≡◌, ◌⊎◌, Bool, cond, List, length}
use Rattle.words.specs.Words.{word_at}
use Rattle.diagram.specs.Format.{Words, high_field, then_edge, else_edge}
use Rattle.numbering.specs.Renewal.{renew, IsKey}
use Rattle.numbering.specs.Numbered.{KeepsOrder, Alike, Going}

-- the node of height h of a cut: the second one, or the first
abbrev pub cut_node : ℕ → ℕ → Bool → ℕ → ℕ
cut_node N n second h = cond second (N + n) N + h

-- of the first cut's front q and the second one's r, each the height of its next node: the one of a cut
abbrev pub front : ℕ → ℕ → Bool → ℕ
front q r second = cond second r q

-- the nodes before the front p of the table, and the fronts of the cuts
pub data Done (N n p q r v : ℕ) : Type 0 where
  in_table : v < p → Done N n p q r v
  in_cut : (second : Bool) → cut_node N n second 0 < v → v < cut_node N n second (front q r second) → Done N n p q r v

-- the fronts are at nodes, or behind the last one
pub record Fronts (N n p q r : ℕ) : Type 0 where
  pub p_low : 0 < p
  pub p_high : p ≤ N + 1
  pub low : (second : Bool) → 0 < front q r second
  pub high : (second : Bool) → front q r second ≤ n + 1

-- the nodes before the fronts are numbered, with c records of which `last` is the last
pub record Merging (R W : Words) (n N c last p q r : ℕ) : Type 0 where
  pub fronts : Fronts N n p q r
  pub going : Going R W (N + n + n) c last (Done N n p q r)
  pub kept : KeepsOrder W p
  pub count : c + 3 ≤ p + q + r

-- a limit that the new record of a cut's next node v, of height h, is not below, whatever table nodes that are not above the limit are numbered before it
pub data Beyond (R W : Words) (N n p q r h v limit : ℕ) : Type 0 where
  higher : high_field limit < h → Beyond R W N n p q r h v limit
  level : high_field limit ≤ h → Done N n p q r (then_edge R v / 2) → Done N n p q r (else_edge R v / 2) → (0 < W v → limit ≤ renew W (R v)) → Beyond R W N n p q r h v limit

-- the next node of either cut is beyond the limit
abbrev pub Limits : Words → Words → ℕ → ℕ → ℕ → ℕ → ℕ → ℕ → Type 0
Limits R W n N p q r limit = (second : Bool) → front q r second ≤ n → Beyond R W N n p q r (front q r second) (cut_node N n second (front q r second)) limit

-- v, the next node of a cut, may come next, after the table's nodes whose new records are not above its own: its edges lead to nodes that are done, and the other cut's next node is not below it
pub record Comes (R W : Words) (n N p q r : ℕ) (second : Bool) (v : ℕ) : Type 0 where
  pub inside : front q r second ≤ n
  pub then_done : Done N n p q r (then_edge R v / 2)
  pub else_done : Done N n p q r (else_edge R v / 2)
  pub limit : (word flag : ℕ) → IsKey W v (R v) word flag → (other : Bool) → (other ≡ second → ⊥) → front q r other ≤ n
      → Beyond R W N n p q r (front q r other) (cut_node N n other (front q r other)) word

-- numbering goes on, from the table's front p, to the fronts p', q' and r'
pub record Reached (R : Words) (map map' : List ℕ) (n N p c' last' p' q' r' : ℕ) : Type 0 where
  pub merging : Merging R (word_at map') n N c' last' p' q' r'
  pub ahead : p ≤ p'
  pub alike : Alike (word_at map) (word_at map')
  pub same_length : length map' ≡ length map

-- ... over the table's nodes only, whose new records are not above a limit
pub record Passing (R : Words) (map map' : List ℕ) (n N limit p q r c' last' p' : ℕ) : Type 0 where
  pub reached : Reached R map map' n N p c' last' p' q r
  pub others : (v : ℕ) → (v < p) ⊎ (N < v) → word_at map' v ≡ word_at map v
  pub limits : Limits R (word_at map') n N p' q r limit

-- ... over all of them: the next one is kept, and its record is above
pub record Passed (R : Words) (map map' : List ℕ) (n N limit p q r c' last' p' : ℕ) : Type 0 where
  pub passing : Passing R map map' n N limit p q r c' last' p'
  pub above : p' ≤ N → (0 < word_at map' p') × (limit < renew (word_at map') (R p'))

-- the front of one cut is a node further
pub record Moved (q r q' r' : ℕ) (second : Bool) : Type 0 where
  pub here : front q' r' second ≡ suc (front q r second)
  pub there : (other : Bool) → (other ≡ second → ⊥) → front q' r' other ≡ front q r other
  pub sum : q' + r' ≡ q + r + 1
