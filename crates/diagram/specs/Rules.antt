-- Which tables are accepted: rules 1 to 9, and 10 in its place, in the order in which they are tried. Assumes nothing.
use Rattle.std.specs.Prelude.{ℕ, suc, ◌+◌, ◌-◌, ◌*◌, ◌/◌, ◌%◌, Bool, false, not, cond, ◌&&◌, ◌||◌, List, ◌≡◌, eqb, ltb, leb, length}
use Rattle.words.specs.Words.{word_at}
use Rattle.diagram.specs.Format.{Words, settings, nodes, root, height, then_edge, else_edge}
use Rattle.diagram.specs.Count.{some_below}
use Rattle.diagram.specs.Answer.{Answer, value, refusal, and_then, pass, each}

-- edge e of record k leads to a node not below k, or to one whose height is not below the record's
unfoldable pub misled : Words → ℕ → ℕ → Bool
misled w k e = leb k (e / 2) || leb (height w k) (height w (e / 2))

-- rules 4 to 8, of record k among n settings, tried as 4, 6, 5, 7, 8
unfoldable pub check_record : Words → ℕ → ℕ → Answer (Unit {0})
check_record w n k =
    cond (eqb (height w k) 0 || ltb n (height w k)) (refusal 4 k)
    (cond (misled w k (then_edge w k) || misled w k (else_edge w k)) (refusal 6 k)
    (cond (ltb 1 k && leb (w k) (w (k - 1))) (refusal 5 k)
    (cond (eqb (then_edge w k % 2) 1) (refusal 7 k)
    (cond (eqb (then_edge w k) (else_edge w k)) (refusal 8 k)
    pass))))

-- record j names node k
unfoldable pub names : Words → ℕ → ℕ → Bool
names w j k = eqb (then_edge w j / 2) k || eqb (else_edge w j / 2) k

-- some record of 1 to m names node k
unfoldable pub named : Words → ℕ → ℕ → Bool
named w m k = some_below (λ j. names w (suc j) k) m

-- rule 9, of record k among N
unfoldable pub check_named : Words → ℕ → ℕ → Answer (Unit {0})
check_named w N k = cond (named w N k) pass (refusal 9 k)

-- a root edge may not lead to node v among N: a table's leads to the last node, a loose table's to any that there is
unfoldable pub wrong_root : Bool → ℕ → ℕ → Bool
wrong_root loose v N = cond loose (ltb N v) (not (eqb v N))

-- rules 1 to 3 of the header, of a table or of a loose one, and 10 where `lent` places of the sheet are lent and `need N` are needed
unfoldable pub check_header_of : Bool → List ℕ → ℕ → (ℕ → ℕ) → Answer (Unit {0})
check_header_of loose bytes lent need =
    let w = word_at bytes in
    cond (ltb (length bytes) 8) (refusal 1 0)
    (cond (ltb 65535 (nodes w)) (refusal 2 0)
    (cond (not (eqb (length bytes) (8 * (nodes w + 1)))) (refusal 1 0)
    (cond (wrong_root loose (root w / 2) (nodes w)) (refusal 3 0)
    (cond (ltb lent (need (nodes w))) (refusal 10 0)
    pass))))

-- ... of a table
abbrev pub check_header : List ℕ → ℕ → (ℕ → ℕ) → Answer (Unit {0})
check_header bytes lent need = check_header_of false bytes lent need

-- rules 4 to 8 record by record upward
unfoldable pub check_records : Words → ℕ → ℕ → Answer (Unit {0})
check_records w n N = each (λ k. check_record w n (suc k)) N

-- rule 9, of the records below N upward
unfoldable pub check_names : Words → ℕ → Answer (Unit {0})
check_names w N = each (λ k. check_named w N (suc k)) (N - 1)

-- rules 4 to 9, of a diagram of n settings and N nodes
unfoldable pub check_diagram : Words → ℕ → ℕ → Answer (Unit {0})
check_diagram w n N = and_then (check_records w n N) (λ _. check_names w N)

-- all rules in their order: the table's n and N, or the first refusal
unfoldable pub check : List ℕ → ℕ → (ℕ → ℕ) → Answer (ℕ × ℕ)
check bytes lent need =
    let w = word_at bytes in
    and_then (check_header bytes lent need) λ _.
    and_then (check_diagram w (settings w) (nodes w)) λ _.
    value (settings w, nodes w)

-- a table is accepted, with n settings and N nodes, if none of rules 1 to 9 refuses it, whatever memory is lent
abbrev pub Accepts : List ℕ → ℕ → ℕ → Type 0
Accepts bytes n N = check bytes 0 (λ _. 0) ≡ value (n, N)
