-- Unranking a list of numbers: what is answered, and what stands in the list of setups afterwards. The sheet is handed back blank (`blank`). Assumes nothing.
use Rattle.std.specs.Prelude.{ℕ, ◌+◌, ◌-◌, ◌/◌, Bool, cond, List, ltb, length}
use Rattle.words.specs.Words.{word_at, words_over}
use Rattle.diagram.specs.Format.{settings}
use Rattle.diagram.specs.Meaning.{permitted}
use Rattle.diagram.specs.Answer.{Answer, value, refusal, and_then, pass, each}
use Rattle.checking.specs.Operations.{checking}
use Rattle.ranking.specs.Operations.{unrank_setup}

-- the items of a list: its whole words. Item number i + 1 is word i
abbrev pub items : List ℕ → ℕ
items list = length list / 8

-- rule 17: the rank after rank i is not below it
unfoldable pub check_rise : (ℕ → ℕ) → ℕ → Answer (Unit {0})
check_rise ranks i = cond (ltb (ranks (i + 1)) (ranks i)) (refusal 17 (i + 2)) pass

-- ... of m ranks
unfoldable pub check_rising : (ℕ → ℕ) → ℕ → Answer (Unit {0})
check_rising ranks m = each (check_rise ranks) (m - 1)

-- a refusal at another place
unfoldable pub at_place : {A : Type 0} → ℕ → Answer A → Answer A
at_place place (value a) = value a
at_place place (refusal number _) = refusal number place

-- rule 14: rank i has a setup, or is refused as that number alone is, with the item as its place
unfoldable pub check_rank : (ℕ → ℕ) → ℕ → (ℕ → Bool) → ℕ → Answer (Unit {0})
check_rank ranks n P i = and_then (at_place (i + 1) (unrank_setup (ranks i) n P)) (λ _. pass)

-- ... of m ranks
unfoldable pub check_ranks : (ℕ → ℕ) → ℕ → ℕ → (ℕ → Bool) → Answer (Unit {0})
check_ranks ranks m n P = each (check_rank ranks n P) m

-- the setups of a list of ranks, where there is room for `room`: rule 18, then 17 over the whole list, then 14 over the whole list; how many there are
unfoldable pub unrank_items : List ℕ → ℕ → ℕ → (ℕ → Bool) → Answer ℕ
unrank_items ranks room n P =
    cond (ltb room (items ranks)) (refusal 18 0)
    (and_then (check_rising (word_at ranks) (items ranks)) λ _.
    and_then (check_ranks (word_at ranks) (items ranks) n P) λ _.
    value (items ranks))

-- unranking a list: after the table's own refusals
unfoldable pub unranking_list : List ℕ → List ℕ → List ℕ → ℕ → Answer ℕ
unranking_list table ranks sheet room = and_then (checking table sheet) (λ _. unrank_items ranks room (settings (word_at table)) (permitted (word_at table)))

-- what is answered, where it is a value (and 0 where it is none, which no promise meets)
unfoldable pub value_of : Answer ℕ → ℕ
value_of (value v) = v
value_of (refusal number place) = 0

-- the setup of rank i: what unranking that number alone gives
unfoldable pub setup_at : (ℕ → ℕ) → ℕ → (ℕ → Bool) → ℕ → ℕ
setup_at ranks n P i = value_of (unrank_setup (ranks i) n P)

-- the list of setups after an answer: the setups, then what stood there; or, after a refusal, all as before
unfoldable pub setups_by : (ℕ → ℕ) → ℕ → (ℕ → Bool) → Answer ℕ → List ℕ → List ℕ
setups_by ranks n P (value m) setups = words_over (setup_at ranks n P) m setups
setups_by ranks n P (refusal number place) setups = setups

-- the list of setups after the call
unfoldable pub setups_after : List ℕ → List ℕ → List ℕ → List ℕ → List ℕ
setups_after table ranks sheet setups = setups_by (word_at ranks) (settings (word_at table)) (permitted (word_at table)) (unranking_list table ranks sheet (items setups)) setups
