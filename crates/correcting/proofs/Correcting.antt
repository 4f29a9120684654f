-- The closest setup by its way through the diagram, in the terms of the code. Assumes nothing.
use Prim.Native.Nat.{ℕ, ◌*◌, ◌/◌, ◌^◌, ◌≤◌, ◌<◌}
use mathlib.Core.Path.{◌≡◌, sym, ap, ◌∙◌}
use mathlib.Core.Logic.{◌≢◌}
use mathlib.Core.Bool.{Bool, true, false}
use mathlib.Core.List.{List}
use native.Mathlib.Nat.{lt_of_lt_of_le}
use native.Mathlib.Omega.{arith}
use lib.ListN.{length}
use lib.Pow.{pow_mono}
use Rattle.words.specs.Words.{word_at}
use Rattle.diagram.specs.Format.{Words, height}
use Rattle.diagram.specs.Meaning.{under}
use Rattle.diagram.specs.Answer.{Answer, value, refusal, and_then}
use Rattle.diagram.proofs.Paths.{height_le_settings, under_never}
use Rattle.counting.specs.Inner.{Countable}
use Rattle.walking.specs.Inner.{Lies, LiesIn}
use Rattle.distances.specs.Distance.{distance}
use Rattle.distances.specs.Inner.{Nearest}
use Rattle.distances.proofs.Distances.{dist_self, dist_begins}
use Rattle.distances.proofs.Near.{nearest_up, own_nearest}
use Rattle.distances.proofs.Looking.{edge_looks}
use Rattle.nearing.specs.Inner.{Filled, Opens}
use Rattle.checking.specs.Operations.{test_setup}
use Rattle.checking.proofs.Answering.{test_is}
use Rattle.correcting.specs.Search.{closest}
use Rattle.correcting.specs.Operations.{needed, closest_setup}
use Rattle.correcting.specs.Inner.{Seekable}
use Rattle.correcting.proofs.Searching.{closest_is, closest_none, nearest_closest}

-- where x is not permitted, but some setup is
module _ (t s : List ℕ) (n N e x : ℕ) (S : Seekable t s n N e x) where
  abbrev w : Words
  w = word_at t

  lies : Lies t n e
  lies = let C = S.countable in record { nodes = N; holds = C.holds; reduced = C.reduced; inside = C.inside }

  fits : x < 2 ^ 63
  fits = lt_of_lt_of_le S.small (pow_mono S.countable.holds.few_settings)

  pub beside_asks : LiesIn t e × (x < 2 ^ 63) × (under w e x ≡ false)
  beside_asks = ((n, lies), fits, S.out)

  pub nearest_asks : (s' : List ℕ) → Filled t s' x N → Opens t s' e x
  nearest_asks s' F =
      let i = S.countable.inside in
      record {
        lies = (n, lies);
        filled = record { room = omega (arith, F.room); far = λ d l. F.far d (omega arith) };
        not_never = S.not_never;
        small = fits;
      }

  -- what is nearest by the settings of the root's node is so by all
  pub of_all : (y : ℕ) → Nearest (under w e) (height w (e / 2)) x y → Nearest (under w e) n x y
  of_all y = nearest_up (under w e) (height w (e / 2)) n x y (height_le_settings w n N S.countable.holds.ordered (e / 2) S.countable.inside) (edge_looks t n e lies)

-- where the test answers no, and the edge is not `never`
pub seekable : (t s : List ℕ) (n N e x : ℕ) → Countable t s n N e → 8 * needed N ≤ length s → (a : Answer Bool) → a ≡ test_setup x n (under (word_at t) e) → (b : Bool) → a ≡ value b → b ≡ false → e ≢ 1
    → Seekable t s n N e x
seekable t s n N e x C room a a-is b q out some =
    let i = test_is n x (under (word_at t) e) b (sym a-is ∙ q) in
    record { countable = C; room = room; small = i.0; out = i.1 ∙ out; not_never = some }

-- the answer, after the test of x
module _ (n x : ℕ) (P : ℕ → Bool) (a : Answer Bool) (a-is : a ≡ test_setup x n P) where
  -- rule 12
  pub out_of_range : (number place : ℕ) → a ≡ refusal number place → refusal number place ≡ closest_setup x n P
  unfolding closest_setup and_then
  out_of_range number place q = ap (λ b. and_then b (λ _. closest P n x)) (sym q ∙ a-is)

  going_on : (b : Bool) → a ≡ value b → closest_setup x n P ≡ closest P n x
  unfolding closest_setup and_then
  going_on b q = ap (λ c. and_then c (λ _. closest P n x)) (sym a-is ∙ q)

  -- what the test says
  test_says : (b : Bool) → a ≡ value b → (x < 2 ^ n) × (P x ≡ b)
  test_says b q = test_is n x P b (sym a-is ∙ q)

  -- the nearest, with its distance as the code has it
  pub answers : (b : Bool) → a ≡ value b → n ≤ 64 → (y d : ℕ) → Nearest P n x y → d ≡ distance 64 x y → value (y, d) ≡ closest_setup x n P
  answers b q few y d N d-is =
      let as-n : d ≡ distance n x y = d-is ∙ dist_begins n 64 x y few N.begins in
      ap (λ (c : ℕ). value (y, c)) as-n ∙ sym (going_on b q ∙ closest_is P n x y (distance n x y) (nearest_closest P n x y (test_says b q).0 N))

  -- x itself, where it is permitted
  pub answers_own : (b : Bool) → a ≡ value b → b ≡ true → n ≤ 64 → value (x, 0) ≡ closest_setup x n P
  answers_own b q p few = answers b q few x 0 (own_nearest P n x ((test_says b q).1 ∙ p)) (sym (dist_self 64 x))

-- rule 21: the edge is `never`
pub none_permitted : (w : Words) (e n x : ℕ) (a : Answer Bool) → a ≡ test_setup x n (under w e) → (b : Bool) → a ≡ value b → e ≡ 1 → refusal 21 0 ≡ closest_setup x n (under w e)
none_permitted w e n x a a-is b q never =
    sym (going_on n x (under w e) a a-is b q ∙ closest_none (under w e) n x (λ z _. ap (λ (d : ℕ). under w d z) never ∙ under_never w z))
