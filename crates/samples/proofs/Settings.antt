-- The samples of the way down hold, all of them: by computing. Assumes nothing.
use mathlib.Core.Path.{refl}
use native.Mathlib.Omega.{arith}
use Rattle.words.specs.Words.{be_at, word_at, bytes_of}
use Rattle.diagram.specs.Format.{high_field, middle_field, low_field, root, height, then_edge, else_edge}
use Rattle.diagram.specs.Meaning.{bit, branch, flip, holds, plain, under, permitted}
use Rattle.diagram.specs.Count.{indicator, count_below}
use Rattle.descent.specs.Settings.{count_beginning}
use Rattle.samples.specs.Samples.{table, A, All}
use Rattle.samples.specs.Settings.{setting_samples}

pub settings_hold : All setting_samples
unfolding table A All setting_samples be_at word_at bytes_of high_field middle_field low_field root height then_edge else_edge bit branch flip holds plain under permitted indicator count_below count_beginning
settings_hold = (
  record { less = refl; below = omega arith },
  (
    record { less = refl; below = omega arith },
    (
      record { less = refl; below = omega arith },
      (
        record { less = refl; below = omega arith },
        (refl, (refl, (refl, (refl, (refl, (refl, (refl, tt))))))),
      ),
    ),
  ),
)
