-- Equal contents, equal files, of what operations hand out. Assumes nothing.
use Prim.Native.Nat.{ℕ, ◌+◌, ◌*◌, ◌^◌, ◌<◌}
use mathlib.Core.Path.{◌≡◌}
use mathlib.Core.Logic.{◌↔◌}
use mathlib.Core.Bool.{and_comm, or_comm, and-not_self}
use mathlib.Core.List.{List}
use mathlib.Core.Option.{some}
use Rattle.words.specs.Words.{word_at, bytes_of}
use Rattle.diagram.specs.Format.{settings}
use Rattle.diagram.specs.Meaning.{permitted}
use Rattle.diagram.proofs.Accept.{accepts_accepted}
use Rattle.checking.proofs.Bounds.{settings_fit}
use Rattle.tables.specs.EqualFiles.{SameSetups}
use Rattle.tables.specs.Table.{table_of}
use Rattle.tables.proofs.TableLaws.{table_of-some, accepted_table, equal_tables}
use Rattle.tables.proofs.WritingLaws.{empty_table}
use Rattle.tables.proofs.HandingOut.{handed_out}
use Rattle.parts.specs.Operations.{part_writing}
use Rattle.parts.proofs.Promised.{written_part}
use Rattle.naming.specs.declared.Operation.{Operation}
use Rattle.naming.specs.declared.Operation.TheVariants.{Joined, Shared, Without}
use Rattle.naming.specs.Combination.{names, combination}
use Rattle.combining.proofs.Theorems.{handed_result}
use Rattle.tightening.proofs.Theorems.{handed_table}
use Rattle.console.specs.Files.{PartFile, CombinedFile, ProperFile}

-- the file of a loose table is the table of its setups
proper_table : {t f : List ℕ} → ProperFile t f → table_of (settings (word_at t)) (permitted (word_at t)) ≡ some f
proper_table {t} {f} c = handed_table t c.sheet c.out c.answer c.after_sheet c.after_out c.keeps f c.handed

-- two loose tables with the same n yield identical files exactly where they permit the same setups
pub loose_files : (t u f g : List ℕ) → settings (word_at t) ≡ settings (word_at u) → ProperFile t f → ProperFile u g → SameSetups (settings (word_at t)) t u ↔ (f ≡ g)
loose_files t u f g e a b = equal_tables (settings (word_at t)) (permitted (word_at t)) (permitted (word_at u)) f g (proper_table a) (rw e (proper_table b))

-- a part made proper is itself
pub part_made_proper : (t : List ℕ) (k j : ℕ) (p f : List ℕ) → PartFile t k j p → ProperFile p f → f ≡ p
part_made_proper t k j p f a b =
    let n = settings (word_at t) in
    let w = handed_out (part_writing t k j a.sheet _) a.out a.answer a.after_out a.keeps.answers a.keeps.writes p a.handed in
    let T = table_of-some n _ p (written_part t k j a.sheet _ p w) in
    let same : settings (word_at p) ≡ n = (accepts_accepted p n T.0 T.2.accepts).has_settings in
    let made : table_of n (permitted (word_at p)) ≡ some f = rw (← same) (proper_table b) in
    let own = accepted_table n p T.0 T.1 T.2.accepts in
    cc

-- the file of two books is the table of what is named
combined_table : {op : Operation} {t u f : List ℕ} → CombinedFile op t u f → (settings (word_at t) ≡ settings (word_at u)) × (table_of (settings (word_at t)) (combination op (permitted (word_at t)) (permitted (word_at u))) ≡ some f)
combined_table {op} {t} {u} {f} c =
    let r = handed_result op t c.sheet1 u c.sheet2 c.pairs c.out c.reply c.after_sheet1 c.after_sheet2 c.after_pairs c.after_out c.keeps f c.handed in
    (r.one_n, r.table)

-- two books combined by different ways yield identical files exactly where both ways name the same setups
pub combined_files : (op op' : Operation) (t u t' u' f g : List ℕ) → settings (word_at t) ≡ settings (word_at t') → CombinedFile op t u f → CombinedFile op' t' u' g
    → ((x : ℕ) → x < 2 ^ settings (word_at t) → names op (permitted (word_at t) x) (permitted (word_at u) x) ≡ names op' (permitted (word_at t') x) (permitted (word_at u') x)) ↔ (f ≡ g)
unfolding combination
combined_files op op' t u t' u' f g e a b = equal_tables (settings (word_at t)) _ _ f g (combined_table a).1 (rw e (combined_table b).1)

-- joined in either order
pub joined_either_way : (t u f g : List ℕ) → CombinedFile Joined t u f → CombinedFile Joined u t g → f ≡ g
joined_either_way t u f g a b = (combined_files Joined Joined t u u t f g (combined_table a).0 a b).0 (λ x l. or_comm (permitted (word_at t) x) (permitted (word_at u) x))

-- shared in either order
pub shared_either_way : (t u f g : List ℕ) → CombinedFile Shared t u f → CombinedFile Shared u t g → f ≡ g
shared_either_way t u f g a b = (combined_files Shared Shared t u u t f g (combined_table a).0 a b).0 (λ x l. and_comm (permitted (word_at t) x) (permitted (word_at u) x))

-- a table without itself is the empty table: the header alone, with root edge 1
pub without_itself : (t f : List ℕ) → CombinedFile Without t t f → f ≡ bytes_of 8 (settings (word_at t) * 2 ^ 58 + 1)
unfolding combination
without_itself t f a =
    let n = settings (word_at t) in
    let made = (combined_table a).1 in
    let T = table_of-some n _ f made in
    let same = (accepts_accepted f n T.0 T.2.accepts).has_settings in
    let empty = empty_table n (combination Without (permitted (word_at t)) (permitted (word_at t))) (rw (← same) (settings_fit f T.1)) (λ x l. and-not_self (permitted (word_at t) x)) in
    cc
