-- Unranking a list hands the sheet back as asked: its own refusals are 18, 17 and 14. Assumes nothing.
use Prim.Native.Nat.{ℕ, ◌+◌, ◌-◌}
use mathlib.Core.Path.{refl}
use mathlib.Core.Bool.{Bool}
use mathlib.Core.List.{List}
use native.Mathlib.Omega.{arith}
use lib.Dec.{ltb}
use Rattle.words.specs.Words.{word_at}
use Rattle.diagram.specs.Format.{settings, nodes}
use Rattle.diagram.specs.Meaning.{permitted}
use Rattle.diagram.specs.Answer.{Answer, value, refusal}
use Rattle.diagram.proofs.Refusals.{Refuses, refuses, passes, unless, then_refuses, each_refuses}
use Rattle.checking.specs.Operations.{blank}
use Rattle.checking.specs.Sheets.{HandedBack}
use Rattle.checking.proofs.Blank.{Late, hands_back}
use Rattle.ranking.specs.Operations.{unrank_setup}
use Rattle.ranking.proofs.Bounds.{unrank_refuses}
use Rattle.lists.specs.Operations.{items, check_rise, check_rising, at_place, check_rank, check_ranks, unrank_items, unranking_list}

-- another place, the same number
at_place_lem : (place : ℕ) (a : Answer ℕ) → Refuses Late a → Refuses Late (at_place place a)
unfolding at_place
at_place_lem place (value v) h = passes Late v
at_place_lem place (refusal number p) h = refuses Late number place (h number p refl)

items_refuse : (ranks : List ℕ) (room n : ℕ) (P : ℕ → Bool) → Refuses Late (unrank_items ranks room n P)
unfolding unrank_items check_rising check_rise check_ranks check_rank
items_refuse ranks room n P =
    let w = word_at ranks in
    let m = items ranks in
    unless Late (ltb room m) 18 0 (omega arith)
    (then_refuses Late (check_rising w m) _ (each_refuses Late (check_rise w) (m - 1) (λ i _. unless Late (ltb (w (i + 1)) (w i)) 17 (i + 2) (omega arith) (passes Late tt))) λ _ _.
    then_refuses Late (check_ranks w m n P) _
    (each_refuses Late (check_rank w n P) m (λ i _. then_refuses Late (at_place (i + 1) (unrank_setup (w i) n P)) _ (at_place_lem (i + 1) (unrank_setup (w i) n P) (unrank_refuses Late (omega arith) (w i) n P)) (λ _ _. passes Late tt))) λ _ _.
    passes Late m)

pub list_back : (t ranks s : List ℕ) (room : ℕ) → HandedBack (nodes (word_at t) + 1) (unranking_list t ranks s room) s (blank t s)
unfolding unranking_list
list_back t ranks s room = hands_back (λ N. N + 1) t s _ (λ _. items_refuse ranks room (settings (word_at t)) (permitted (word_at t)))
