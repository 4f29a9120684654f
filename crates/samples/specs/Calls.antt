-- A list of part-write calls on table A with k = 2: both parts written, one of them twice, and refusals 10, 11 and 15 in between. Assumes nothing.
use Rattle.std.specs.Prelude.{ℕ, List, [], ◌∷◌}
use Rattle.words.specs.Words.{bytes_of}
use Rattle.diagram.specs.Answer.{Answer, value, refusal}
use Rattle.checking.specs.Operations.{blank_for}
use Rattle.tables.specs.Writing.{length_of, out_after}
use Rattle.parts.specs.Operations.{needed}
use Rattle.parts.specs.Calls.{Call}
use Rattle.samples.specs.Samples.{A, A₀, A₁, sheet}

-- a call for part j, with m places and b bytes of zeros, that came to this
unfoldable pub call : ℕ → ℕ → ℕ → Answer (List ℕ) → Call
call j m b came = record {
  index = j;
  sheet = sheet m;
  out = bytes_of b 0;
  answer = length_of came;
  after_sheet = blank_for needed A (sheet m);
  after_out = out_after came (bytes_of b 0);
}

-- part 1, part 0, three refusals, and part 0 again
unfoldable pub calls : List Call
calls =
    call 1 515 40 (value A₁) ∷ call 0 515 48 (value A₀) ∷ call 1 515 39 (refusal 11 0) ∷ call 2 515 48 (refusal 15 0) ∷ call 0 514 48 (refusal 10 0) ∷ call 0 515 32 (value A₀) ∷ []
