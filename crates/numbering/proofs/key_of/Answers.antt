-- `numbering::key_of` meets its contract. Assumes nothing.
use Prim.Native.Nat.{◌<◌}
use Rattle.words.specs.Words.{word_at}
use Rattle.numbering.specs.Renewal.{Renewable}
use Rattle.numbering.proofs.Keys.{place_live, key_fits, key_is}
use Rattle.numbering.proofs.key_of.Goals as goal
use Rattle.numbering.proofs.key_of.Goals.{Else-word_at-eq0}

-- the node is kept, and its record can be read off
live : (c : Else-word_at-eq0) → 0 < word_at c.args.map.now c.args.v.0
live c = place_live _ _ _ c.word_at.ensures c.if-word_at-eq0.false

renewable : (c : Else-word_at-eq0) → Renewable c.args.map.now c.args.word
renewable c = c.requires.kept (live c)

pub normal_word-requires : goal.normal_word-requires
normal_word-requires c =
    key_fits _ _ _ _ _ _ _ (renewable (goal.at.normal_word-requires c).Else-word_at-eq0) c.from-fields.ensures c.image_of-high.ensures c.image_of-low.ensures

pub returns : goal.returns
returns c =
    key_is _ _ _ _ _ _ _ (renewable (goal.at.returns c).Else-word_at-eq0) c.from-fields.ensures c.image_of-high.ensures c.image_of-low.ensures _ _ (live (goal.at.returns c).Else-word_at-eq0)
    c.normal_word.ensures _ c.flagged.ensures
