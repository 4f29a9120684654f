-- `programs::bytes_of`: each call of the closure gives its byte. Assumes nothing.
use Rattle.std.proofs.Common.{rules, ◌≡◌}
use Rattle.programs.specs.Laying.{byte_of}
use Rattle.programs.proofs.Calls.{each}
use Rattle.programs.proofs.bytes_of.Goals as goal

pub returns : goal.returns
returns g c = λ i lt. each _ (λ k y. y ≡ byte_of c.args.words.now k) _ (λ k y q t. search rules) _ _ i 0 c.from_fn.ensures.items lt
