-- Equal contents, equal files: canonicity, to the byte. Assumes nothing.
use Prim.Native.Nat.{ℕ, zero, suc, ◌+◌, ◌*◌, ◌<◌}
use mathlib.Core.Path.{◌≡◌, sym, ap, ◌∙◌}
use mathlib.Core.List.{List}
use native.Mathlib.Omega.{arith}
use Rattle.words.specs.Words.{Bytes, word_at}
use Rattle.words.proofs.Bytes.{words_inj}
use Rattle.diagram.specs.Format.{Words, settings, nodes, root}
use Rattle.diagram.specs.Meaning.{permitted}
use Rattle.diagram.specs.Rules.{Accepts}
use Rattle.diagram.specs.Ordered.{Accepted}
use Rattle.diagram.proofs.Accept.{accepts_accepted}
use Rattle.diagram.proofs.Fields.{fields_inj}
use Rattle.diagram.proofs.Canonical.{Same, canonical}
use Rattle.tables.specs.EqualFiles.{SameSetups, EqualFiles}

-- a header is its fields
header_is : (w w' : Words) → settings w ≡ settings w' → nodes w ≡ nodes w' → root w ≡ root w' → w 0 ≡ w' 0
unfolding settings nodes root
header_is w w' = fields_inj (w 0) (w' 0)

-- accepted tables hold proper diagrams, so they have the same header and records, word by word
same_bytes : (n M N : ℕ) (s t : List ℕ) → Bytes s → Bytes t → Accepts s n M → Accepts t n N → SameSetups n s t → s ≡ t
unfolding permitted
same_bytes n M N s t p q a b same =
    let c = canonical (root (word_at s)) (root (word_at t)) A.proper B.proper A.root_node B.root_node same in
    words_inj s t p q (M + 1) A.long (B.long ∙ ap (λ (m : ℕ). 8 * (m + 1)) (sym c.count)) (word c)
  where
    A : Accepted s n M
    A = accepts_accepted s n M a

    B : Accepted t n N
    B = accepts_accepted t n N b

    word : Same (word_at s) (word_at t) M N (root (word_at s)) (root (word_at t)) → (k : ℕ) → k < M + 1 → word_at s k ≡ word_at t k
    word c zero l = header_is (word_at s) (word_at t) (A.has_settings ∙ sym B.has_settings) (A.has_nodes ∙ c.count ∙ sym B.has_nodes) c.edge
    word c (suc k) l = c.records k (omega arith)

-- so two accepted tables with the same n permit the same setups exactly when they are byte for byte equal
pub equal_files : EqualFiles
equal_files n M N s t p q a b = (same_bytes n M N s t p q a b, λ e x l. ap (λ (u : List ℕ). permitted (word_at u) x) e)
