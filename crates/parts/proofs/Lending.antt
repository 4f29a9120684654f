-- The places of the sheet that are lent for the new numbers. Assumes nothing.
use Prim.Native.Nat.{ℕ, ◌+◌, ◌-◌, ◌*◌, ◌≤◌}
use mathlib.Core.Path.{◌≡◌, sym, ap, ◌∙◌}
use mathlib.Core.List.{List}
use native.Mathlib.Omega.{arith}
use lib.ListN.{length, take, drop}
use lib.Seq.{length-take-le, drop-drop}
use Rattle.checking.specs.Inner.{Past}
use Rattle.cutting.specs.Cut.{Room}
use Rattle.parts.specs.Operations.{needed}

-- the places that are needed for a table of N nodes, lent as a map
module _ (sheet : List ℕ) (N : ℕ) (fits : 8 * needed N ≤ length sheet) where
  abbrev lent : List ℕ
  lent = take (8 * needed N) sheet

  pub lent_long : length lent ≡ 8 * needed N
  lent_long = length-take-le (8 * needed N) sheet fits

  -- they are room enough: N + 2 n + 1 places are used
  pub lent_room : (table : List ℕ) (n : ℕ) → 8 * N + 8 ≤ length table → n ≤ 63 → N ≤ 65535 → Room table lent n N
  lent_room table n l few m = record { table_long = l; map_long = omega (arith, lent_long); few_settings = few; few_nodes = m }

-- what is past more places is past fewer
pub past_more : (m m' : ℕ) (s s' : List ℕ) → m ≤ m' → Past m s s' → Past m' s s'
past_more m m' s s' l q =
    let e : 8 * m' ≡ 8 * m + (8 * m' - 8 * m) = omega arith in
    ap (λ (i : ℕ). drop i s') e ∙ sym (drop-drop (8 * m' - 8 * m) (8 * m) s') ∙ ap (drop (8 * m' - 8 * m)) q ∙ drop-drop (8 * m' - 8 * m) (8 * m) s ∙ ap (λ (i : ℕ). drop i s) (sym e)
