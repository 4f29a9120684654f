-- Which answers moved when rule 6 came to be tried before rule 5, in the words of request 5. Assumes nothing.
use Rattle.std.specs.Prelude.{ℕ, suc, ◌-◌, ◌/◌, ◌%◌, ◌≤◌, ◌<◌, ◌≡◌, ◌⊎◌, true, cond, ◌&&◌, ◌||◌, List, eqb, ltb, leb, length}
use Rattle.words.specs.Words.{word_at}
use Rattle.diagram.specs.Format.{Words, settings, nodes, height, then_edge, else_edge}
use Rattle.diagram.specs.Answer.{Answer, value, refusal, and_then, pass, each}
use Rattle.diagram.specs.Rules.{misled, check_header, check_records, check_names}

-- rules 4 to 8 of record k as they were tried before: 4, 5, 6, 7, 8
unfoldable pub former_record : Words → ℕ → ℕ → Answer (Unit {0})
former_record w n k =
    cond (eqb (height w k) 0 || ltb n (height w k)) (refusal 4 k)
    (cond (ltb 1 k && leb (w k) (w (k - 1))) (refusal 5 k)
    (cond (misled w k (then_edge w k) || misled w k (else_edge w k)) (refusal 6 k)
    (cond (eqb (then_edge w k % 2) 1) (refusal 7 k)
    (cond (eqb (then_edge w k) (else_edge w k)) (refusal 8 k)
    pass))))

-- the whole check by that order, as `checking_for` is by the present one
unfoldable pub former_for : (ℕ → ℕ) → List ℕ → List ℕ → Answer (ℕ × ℕ)
former_for need table sheet =
    let w = word_at table in
    and_then (check_header table (length sheet / 8) need) λ _.
    and_then (and_then (each (λ k. former_record w (settings w) (suc k)) (nodes w)) λ _. check_names w (nodes w)) λ _.
    value (settings w, nodes w)

-- record k has a permitted height and breaks rules 5 and 6 both
pub record BreaksBoth (w : Words) (n k : ℕ) : Type 0 where
  -- the height
  pub tall : 0 < height w k
  pub low : height w k ≤ n
  -- rule 5: it is not above the record before it
  pub later : 1 < k
  pub falls : w k ≤ w (k - 1)
  -- rule 6: one of its edges
  pub misleads : (misled w k (then_edge w k) ≡ true) ⊎ (misled w k (else_edge w k) ≡ true)

-- ... and is the first record that is refused: the header passes, and every record before it
pub record Moves (need : ℕ → ℕ) (table sheet : List ℕ) (k : ℕ) : Type 0 where
  pub header_passes : check_header table (length sheet / 8) need ≡ pass
  pub is_record : k ≤ nodes (word_at table)
  pub before_pass : check_records (word_at table) (settings (word_at table)) (k - 1) ≡ pass
  pub both : BreaksBoth (word_at table) (settings (word_at table)) k
