-- The answer about a list, rule by rule, and the list of setups after the call, in the terms of the code. Assumes nothing.
use Prim.Native.Nat.{ℕ, ◌+◌, ◌^◌, ◌≤◌, ◌<◌}
use mathlib.Core.Path.{◌≡◌, refl, sym, ap, ◌∙◌}
use mathlib.Core.Bool.{Bool}
use mathlib.Core.List.{List}
use borrow.Author.Tests.{lt-ltb, le-ltb}
use Rattle.words.specs.Words.{word_at, words_over}
use Rattle.diagram.specs.Meaning.{under, permitted}
use Rattle.diagram.specs.Count.{count_below}
use Rattle.diagram.specs.Answer.{Answer, value, refusal, and_then, pass}
use Rattle.diagram.specs.Reading.{IsHeader}
use Rattle.rules.specs.declared.Refusal.{Refusal}
use Rattle.std.specs.Prelude.{Result, Ok, Err}
use Rattle.rules.specs.Refusals.{number_of, place_of, verdict_as}
use Rattle.lists.specs.Operations.{items, check_rising, unrank_items, unranking_list, setup_at, setups_by, setups_after}
use Rattle.lists.specs.Inner.{Rising, Parted}
use Rattle.lists.proofs.Ranks.{rising_list, ranks_high, ranks_fine}

-- answer a is due, and `out` is what it leaves of the list of setups
abbrev Answers : List ℕ → List ℕ → ℕ → (ℕ → Bool) → Answer ℕ → List ℕ → Type 0
Answers ranks setups n P a out = (a ≡ unrank_items ranks (items setups) n P) × (out ≡ setups_by (word_at ranks) n P a setups)

pub room_short : (ranks setups : List ℕ) (n : ℕ) (P : ℕ → Bool) → items setups < items ranks → Answers ranks setups n P (refusal 18 0) setups
unfolding unrank_items setups_by
room_short ranks setups n P l = (rw (lt-ltb (items setups) (items ranks) l), refl)

-- the verdict v on rule 17
module _ (ranks : List ℕ) (v : Result (Unit {0}) Refusal) (v-is : verdict_as v ≡ check_rising (word_at ranks) (items ranks)) where
  abbrev w : ℕ → ℕ
  w = word_at ranks

  abbrev m : ℕ
  m = items ranks

  rises : v ≡ Ok tt → check_rising w m ≡ pass
  rises p = sym v-is ∙ ap verdict_as p

  pub passed_rising : v ≡ Ok tt → Rising w m
  passed_rising p = rising_list w m (rises p)

  module _ (setups : List ℕ) (n : ℕ) (P : ℕ → Bool) (room : m ≤ items setups) where
    pub falls_refused : (r : Refusal) → v ≡ Err r → Answers ranks setups n P (refusal (number_of r) (place_of r)) setups
    unfolding unrank_items setups_by and_then
    falls_refused r p = (rw (le-ltb (items setups) m room, ← v-is, p), refl)

    -- it passed, and the first `fine` ranks are below the count c
    module _ (p : v ≡ Ok tt) (c fine : ℕ) (c-is : c ≡ count_below P (2 ^ n)) (S : Parted w m c fine) where
      pub range_refused : fine < m → Answers ranks setups n P (refusal 14 (fine + 1)) setups
      unfolding unrank_items setups_by and_then
      range_refused l = (rw (le-ltb (items setups) m room, rises p, ranks_high w n P m c fine c-is S l), refl)

      pub list_served : m ≤ fine → (out : List ℕ) → out ≡ words_over (setup_at w n P) m setups → Answers ranks setups n P (value m) out
      unfolding unrank_items setups_by and_then
      list_served l out q = (rw (le-ltb (items setups) m room, rises p, ranks_fine w n P m c fine c-is S l), q)

-- the list of setups after the call, by the answer: as before, after a refusal
module _ (table ranks sheet setups : List ℕ) where
  pub setups_kept : (number place : ℕ) (a : Answer ℕ) → a ≡ refusal number place → a ≡ unranking_list table ranks sheet (items setups) → setups ≡ setups_after table ranks sheet setups
  unfolding setups_after setups_by
  setups_kept number place a p q = rw (sym q ∙ p)

  -- ... and as the root edge e over n settings gives it
  pub setups_left : (n N e : ℕ) (a : Answer ℕ) → a ≡ unranking_list table ranks sheet (items setups) → IsHeader (word_at table) n N e → (out : List ℕ) → out ≡ setups_by (word_at ranks) n (under (word_at table) e) a setups
      → out ≡ setups_after table ranks sheet setups
  unfolding setups_after permitted
  setups_left n N e a q h out p = p ∙ rw (q, h.settings_is, h.root_is)
