-- Where a rank leaves the way that was kept, and the way before the first rank, in the terms of the code. Assumes nothing.
use Prim.Native.Nat.{ℕ, ◌-◌, ◌/◌, ◌^◌, ◌≤◌, ◌<◌}
use mathlib.Core.Path.{◌≡◌, sym, ap, ◌∙◌}
use mathlib.Core.List.{List}
use native.Mathlib.Omega.{arith}
use native.Mathlib.Nat.{div-div-eq-div-mul, zero-div}
use lib.ListN.{length, get_or, set, replicate, length-set, length-replicate, get_or-replicate}
use lib.Seq.{get_or-set_same, get_or-set_other}
use lib.Pow.{pow-add}
use Rattle.words.specs.Words.{word_at}
use Rattle.words.proofs.Cases.{less, same, more, tri}
use Rattle.diagram.specs.Meaning.{under}
use Rattle.diagram.specs.Count.{count_below}
use Rattle.counting.specs.Inner.{Opens}
use Rattle.descent.specs.declared.Way.{Way}
use Rattle.descent.specs.Inner.{IsBelow}
use Rattle.descent.proofs.Choosing.{chosen_first}
use Rattle.trail.specs.Inner.{Ends, Entry, Trail, Follows, Resumes}
use Rattle.trail.proofs.Keeping.{left_below}

-- some end is above a rank that has a setup
pub some_end : (t s : List ℕ) (n root r : ℕ) (edges ends : List ℕ) (last : ℕ) → Resumes t s n root r edges ends last → Ends ends r
some_end t s n root r edges ends last R = record { top = n; few = omega (arith, R.trail.few); above = rw R.trail.top R.inside }

-- where h settings are left, the way that was kept goes on to rank r
module _ (t s : List ℕ) (n root r : ℕ) (edges ends : List ℕ) (last : ℕ) (R : Resumes t s n root r edges ends last)
    (h : ℕ) (above : r < get_or ends h 0) (first : (k : ℕ) → r < get_or ends k 0 → h ≤ k) where
  abbrev T : Trail t s n root r edges ends 0 last
  T = R.trail

  low : h ≤ n
  low = first n (rw T.top R.inside)

  E : Entry t s n root r h (get_or edges h 0) (get_or ends h 0) (last / 2 ^ (h - 0))
  E = T.entry h (omega arith) low above

  left_few : E.left < count_below (under (word_at t) (get_or edges h 0)) (2 ^ h)
  left_few = left_below (word_at t) n root r h (get_or edges h 0) E.left (last / 2 ^ (h - 0)) E.chosen

  module _ (g c : ℕ) (B : IsBelow (word_at t) (get_or edges h 0) h g c) where
    left_is : c - (get_or ends h 0 - r) ≡ E.left
    left_is = omega (arith, E.end_is, B.count_is, left_few)

    pub resumed : (way : Way) → way.edge.value ≡ get_or edges h 0 → way.height ≡ g → way.count ≡ c → way.left ≡ c - (get_or ends h 0 - r) → way.digits ≡ last / 2 ^ h → Follows t s n root r edges ends h way
    resumed way p q u v d =
        let z : h - 0 ≡ h = omega arith in
        record {
          low = low;
          stands = record {
            opens = rw p E.opens;
            below = rw (p, q, u) B;
            left_fits = rw (v, u, left_is) (rw B.count_is left_few);
          };
          chosen = rw (p, v, left_is, d) (rw z at E.chosen);
          trail = record {
            few = T.few;
            edges_long = T.edges_long;
            ends_long = T.ends_long;
            top = T.top;
            entry = λ k i j m.
                let y : last / 2 ^ h / 2 ^ (k - h) ≡ last / 2 ^ (k - 0) =
                div-div-eq-div-mul last (2 ^ h) (2 ^ (k - h)) ∙ ap (λ (b : ℕ). last / b) (sym (pow-add 2 h (k - h))) ∙ ap (λ (b : ℕ). last / 2 ^ b) (omega arith) in
                rw (d, y) (T.entry k (omega arith) j m);
          };
        }

-- before the first rank only the root is kept
module _ (t s : List ℕ) (n root c : ℕ) (O : Opens t s root n) (c-is : c ≡ count_below (under (word_at t) root) (2 ^ n)) where
  abbrev none : List ℕ
  none = replicate 64 0

  long : length none ≡ 64
  long = length-replicate {A = ℕ} 64 0

  inside : n < length none
  inside = omega (arith, O.few, long)

  top_is : get_or (set none n c) n 0 ≡ c
  top_is = get_or-set_same none n c 0 inside

  first_entries : (k : ℕ) → 0 ≤ k → k ≤ n → 0 < get_or (set none n c) k 0 → Entry t s n root 0 k (get_or (set none n root) k 0) (get_or (set none n c) k 0) (0 / 2 ^ (k - 0))
  first_entries k i j u =
      elim (tri k n) [
        | less l ↦ absurd (omega (arith, get_or-set_other none n k c 0 (λ e. omega arith), get_or-replicate {A = ℕ} 64 k 0 0 (omega (arith, O.few))))
        | same l ↦
            let some : 0 < c = rw (l, top_is) at u in
            rw (l, top_is, get_or-set_same none n root 0 inside, zero-div) (record {
              opens = O;
              left = 0;
              chosen = chosen_first (word_at t) n root 0 (omega (arith, c-is));
              end_is = omega (arith, c-is);
            })
        | more l ↦ absurd (omega arith)
      ]

  pub trail_first : Trail t s n root 0 (set none n root) (set none n c) 0 0
  trail_first = record {
    few = O.few;
    edges_long = simp length-set long;
    ends_long = simp length-set long;
    top = top_is ∙ c-is;
    entry = first_entries;
  }
