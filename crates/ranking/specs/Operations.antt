-- Ranking and unranking: what each answers. Both hand the sheet back blank (`blank`). Assumes nothing.
use Rattle.std.specs.Prelude.{ℕ, ◌^◌, Bool, cond, List}
use Rattle.words.specs.Words.{word_at}
use Rattle.diagram.specs.Format.{settings}
use Rattle.diagram.specs.Meaning.{permitted}
use Rattle.diagram.specs.Count.{count_below, select}
use Rattle.diagram.specs.Answer.{Answer, value, refusal, and_then, or_refuse}
use Rattle.checking.specs.Operations.{checking, test_setup}

-- the rank of setup x of n settings: how many smaller ones P permits; or rule 13, where the test answers no
unfoldable pub rank_setup : ℕ → ℕ → (ℕ → Bool) → Answer ℕ
rank_setup x n P = and_then (test_setup x n P) (λ b. cond b (value (count_below P x)) (refusal 13 0))

-- ranking: the rank of setup x (its number in lexicographic order), after the table's own refusals
unfoldable pub ranking : List ℕ → ℕ → List ℕ → Answer ℕ
ranking table x sheet = and_then (checking table sheet) (λ _. rank_setup x (settings (word_at table)) (permitted (word_at table)))

-- setup number r of n settings: the one that P permits with exactly r smaller ones that it permits; or rule 14
unfoldable pub unrank_setup : ℕ → ℕ → (ℕ → Bool) → Answer ℕ
unrank_setup r n P = or_refuse 14 (select P (2 ^ n) r)

-- unranking: the setup with rank r, after the table's own refusals
unfoldable pub unranking : List ℕ → ℕ → List ℕ → Answer ℕ
unranking table r sheet = and_then (checking table sheet) (λ _. unrank_setup r (settings (word_at table)) (permitted (word_at table)))
