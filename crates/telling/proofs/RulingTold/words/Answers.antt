-- What is told of a ruling: case by case. Assumes nothing.
use Rattle.telling.specs.Told.{found_words}
use Rattle.telling.proofs.RulingTold.words.Goals as goal

pub returns-in-Permitted : goal.returns-in-Permitted
unfolding found_words
returns-in-Permitted c = rw c.in-Permitted.is

pub returns-in-Empty : goal.returns-in-Empty
unfolding found_words
returns-in-Empty c = rw c.in-Empty.is

pub returns-in-By : goal.returns-in-By
unfolding found_words
returns-in-By c = rw c.in-By.is
