-- Which tables are loose: rules 1, 2 and 4 as they stand, 3 and 6 as far as loose tables keep them, and 10 in its place, in the order in which they are tried. What they permit is `permitted`, as of any table. Assumes nothing.
use Rattle.std.specs.Prelude.{ℕ, suc, ◌/◌, Bool, true, cond, ◌||◌, List, ◌≡◌, eqb, ltb, leb}
use Rattle.words.specs.Words.{word_at}
use Rattle.diagram.specs.Format.{Words, settings, nodes, height, then_edge, else_edge}
use Rattle.diagram.specs.Answer.{Answer, value, refusal, and_then, pass, each}
use Rattle.diagram.specs.Rules.{check_header_of}

-- edge e of a record of height h leads to a node above N, or to one whose height is not below h
unfoldable pub astray : Words → ℕ → ℕ → ℕ → Bool
astray w N h e = ltb N (e / 2) || leb h (height w (e / 2))

-- rules 4 and 6, of record k among n settings and N nodes
unfoldable pub check_loose_record : Words → ℕ → ℕ → ℕ → Answer (Unit {0})
check_loose_record w n N k =
    cond (eqb (height w k) 0 || ltb n (height w k)) (refusal 4 k)
    (cond (astray w N (height w k) (then_edge w k) || astray w N (height w k) (else_edge w k)) (refusal 6 k)
    pass)

-- ... record by record upward, used or not
unfoldable pub check_loose_records : Words → ℕ → ℕ → Answer (Unit {0})
check_loose_records w n N = each (λ k. check_loose_record w n N (suc k)) N

-- all rules in their order: the loose table's n and N, or the first refusal
unfoldable pub check_loose : List ℕ → ℕ → (ℕ → ℕ) → Answer (ℕ × ℕ)
check_loose bytes lent need =
    let w = word_at bytes in
    and_then (check_header_of true bytes lent need) λ _.
    and_then (check_loose_records w (settings w) (nodes w)) λ _.
    value (settings w, nodes w)

-- a table is loose, with n settings and N nodes, if none of these rules refuses it, whatever memory is lent
abbrev pub IsLoose : List ℕ → ℕ → ℕ → Type 0
IsLoose bytes n N = check_loose bytes 0 (λ _. 0) ≡ value (n, N)
