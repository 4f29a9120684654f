-- "Each setup equals what unranking that number alone gives", as theorems about the two operations. Assumes nothing.
use Prim.Native.Nat.{ℕ, ◌+◌, ◌^◌, ◌<◌}
use mathlib.Core.Path.{◌≡◌, refl, sym, ap, ◌∙◌}
use mathlib.Core.Bool.{Bool}
use mathlib.Core.List.{List}
use native.Mathlib.Omega.{arith}
use native.Mathlib.Nat.{lt_of_lt_of_le}
use lib.Dec.{ltb}
use lib.Pow.{pow_mono}
use Rattle.words.specs.Words.{Bytes, word_at}
use Rattle.words.proofs.Laws.{words_read}
use Rattle.words.proofs.Cases.{passed}
use Rattle.diagram.specs.Format.{settings}
use Rattle.diagram.specs.Meaning.{permitted}
use Rattle.diagram.specs.Answer.{Answer, value, refusal, and_then, pass}
use Rattle.diagram.proofs.AnswerLaws.{refused_not, value_inj, then_some, then_value, each_all}
use Rattle.checking.specs.Operations.{checking}
use Rattle.ranking.specs.Operations.{unrank_setup, unranking}
use Rattle.ranking.proofs.Bounds.{setup_fits}
use Rattle.lists.specs.Operations.{items, check_rising, at_place, check_rank, check_ranks, unrank_items, unranking_list, value_of, setup_at, setups_by, setups_after}

-- an item that passes rule 14 is unranked alone
item_alone : (ranks : ℕ → ℕ) (n : ℕ) (P : ℕ → Bool) (i : ℕ) → check_rank ranks n P i ≡ pass → unrank_setup (ranks i) n P ≡ value (setup_at ranks n P i)
unfolding check_rank setup_at at_place value_of
item_alone ranks n P i e = go (unrank_setup (ranks i) n P) (then_some (at_place (i + 1) (unrank_setup (ranks i) n P)) _ e)
  where
    go : (a : Answer ℕ) → (x : ℕ) × (at_place (i + 1) a ≡ value x) × (pass ≡ pass) → a ≡ value (value_of a)
    go (value x) s = refl
    go (refusal number place) s = absurd (refused_not s.1)

-- a list that is served: the check passes, it has so many items, and each is unranked alone
served : (t ranks s : List ℕ) (room m : ℕ) → unranking_list t ranks s room ≡ value m
    → (v : ℕ × ℕ) × (checking t s ≡ value v) × (m ≡ items ranks)
    × ((i : ℕ) → i < m → unrank_setup (word_at ranks i) (settings (word_at t)) (permitted (word_at t)) ≡ value (setup_at (word_at ranks) (settings (word_at t)) (permitted (word_at t)) i))
unfolding unranking_list unrank_items check_ranks
served t ranks s room m e =
    let n = settings (word_at t) in
    let P = permitted (word_at t) in
    let w = word_at ranks in
    let a = then_some (checking t s) _ e in
    let b = passed (ltb room (items ranks)) refused_not a.2 in
    let c = then_value (check_rising w (items ranks)) _ b.1 in
    let d = then_value (check_ranks w (items ranks) n P) _ c.1 in
    let q : m ≡ items ranks = sym (value_inj d.1) in
    (a.0, a.1, q, λ i l. item_alone w n P i (each_all _ (items ranks) d.0 i (omega arith)))

module _ (t ranks s : List ℕ) (bytes : Bytes t) where
  -- where the list is served, item i + 1 is what unranking that number alone answers, with any sheet that serves
  pub served_alone : (setups : List ℕ) (m : ℕ) → unranking_list t ranks s (items setups) ≡ value m
      → (s' : List ℕ) (v : ℕ × ℕ) → checking t s' ≡ value v → (i : ℕ) → i < m
      → unranking t (word_at ranks i) s' ≡ value (word_at (setups_after t ranks s setups) i)
  unfolding unranking and_then setups_after setups_by
  served_alone setups m e s' v ok i l =
      let f = setup_at (word_at ranks) (settings (word_at t)) (permitted (word_at t)) in
      let a : unranking t (word_at ranks i) s' ≡ value (f i) = rw ok ((served t ranks s (items setups) m e).3 i l) in
      let b : f i < 2 ^ 64 = lt_of_lt_of_le (setup_fits t s' (f i) (word_at ranks i) bytes a) (pow_mono {i = 63} {j = 64} (omega arith)) in
      a ∙ ap value (sym (rw e (words_read f m setups i l b)))

  -- where some number would be refused alone, with the list's sheet or with any that serves, the list is refused
  pub refused_alone : (room : ℕ) (s' : List ℕ) → ((v : ℕ × ℕ) → checking t s ≡ value v → (u : ℕ × ℕ) × (checking t s' ≡ value u))
      → (i : ℕ) → i < items ranks → (number place : ℕ) → unranking t (word_at ranks i) s' ≡ refusal number place
      → (number' : ℕ) × (place' : ℕ) × (unranking_list t ranks s room ≡ refusal number' place')
  unfolding unranking and_then
  refused_alone room s' serves i l number place q = go (unranking_list t ranks s room) refl
    where
      go : (a : Answer ℕ) → unranking_list t ranks s room ≡ a → (number' : ℕ) × (place' : ℕ) × (a ≡ refusal number' place')
      go (refusal number' place') e = (number', place', refl)
      go (value m) e =
          let a = served t ranks s room m e in
          let ok = (serves a.0 a.1).1 in
          let z : unranking t (word_at ranks i) s' ≡ value (setup_at (word_at ranks) (settings (word_at t)) (permitted (word_at t)) i) = rw ok (a.3 i (omega (arith, a.2))) in
          absurd (refused_not (sym q ∙ z))
