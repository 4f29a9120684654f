-- `merging::key_in` meets its contract. Assumes nothing.
use Rattle.numbering.proofs.Keys.{keyed_readable}
use Rattle.merging.proofs.key_in.Goals as goal

pub key_of-requires : goal.key_of-requires
key_of-requires c =
    keyed_readable _ _ _ _ c.requires.1 c.requires.0 _ _ c.requires.2 c.requires.3 c.word_in.ensures
