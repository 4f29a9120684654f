-- `reducing::renew` meets its contract. Assumes nothing.
use Prim.Native.Nat.{◌^◌, ◌<◌}
use mathlib.Core.Path.{◌≡◌, ap, ◌∙◌}
use mathlib.Core.Bool.{true, false}
use native.Mathlib.Omega.{arith}
use lib.ListN.{length}
use borrow.Author.Rules.{rules}
use Rattle.words.specs.Words.{word_at}
use Rattle.reducing.specs.Levels.{through}
use Rattle.reducing.specs.Inner.{edge_of, result_of}
use Rattle.reducing.proofs.Collecting.{through_small}
use Rattle.reducing.proofs.Renewing.{renewed_long, renewed, renewed_differ}
use Rattle.reducing.proofs.renew.Goals as goal
use Rattle.reducing.proofs.renew.Goals.{After-put_word-3, After-through_of-e}

pub through_of-t-requires : goal.through_of-t-requires
through_of-t-requires c = let p = c.requires in omega (arith, p.0, (p.4 true).0, c.word_at.ensures)

pub through_of-e-requires : goal.through_of-e-requires
through_of-e-requires c = let p = c.requires in omega (arith, p.0, (p.4 false).0, c.word_at-2.ensures)

-- what the two edges become
then_is : (c : After-through_of-e) → c.through_of-t.result.value
    ≡ through (result_of (word_at c.args.sheet.now) c.args.p) (edge_of (word_at c.args.sheet.now) c.args.p true c.args.i)
then_is c = c.through_of-t.ensures ∙ ap (through _) c.word_at.ensures

else_is : (c : After-through_of-e) → c.through_of-e.result.value
    ≡ through (result_of (word_at c.args.sheet.now) c.args.p) (edge_of (word_at c.args.sheet.now) c.args.p false c.args.i)
else_is c = c.through_of-e.ensures ∙ ap (through _) c.word_at-2.ensures

then_small : (c : After-through_of-e) → c.through_of-t.result.value < 131072
then_small c = rw (then_is c) (through_small _ _ (c.requires.4 true).1)

else_small : (c : After-through_of-e) → c.through_of-e.result.value < 131072
else_small c = rw (else_is c) (through_small _ _ (c.requires.4 false).1)

pub word_of-requires : goal.word_of-requires
word_of-requires c =
    (c.requires.3, then_small (goal.at.word_of-requires c).After-through_of-e, else_small (goal.at.word_of-requires c).After-through_of-e, c.requires.5)

-- the length stays
long : (c : After-put_word-3) → length c.put_word-3.new.bytes ≡ length c.args.sheet.now
long c =
    let p = c.requires in
    renewed_long c.args.few _ _ _ _ _ c.args.i _ _ _ _ _ p.0 p.1 p.2 (then_is (goal.at.After-put_word-3 c).After-through_of-e) (else_is (goal.at.After-put_word-3 c).After-through_of-e) c.word_of.ensures c.put_word.ensures c.put_word-2.ensures
    c.put_word-3.ensures

pub returns : goal.returns
returns c =
    let p = c.requires in
    let t = then_small (goal.at.returns c).After-through_of-e in
    let e = else_small (goal.at.returns c).After-through_of-e in
    let z = c.word_of.ensures in
    let fits : c.word_of.result < 2 ^ 64 = search rules in
    let u = c.put_word.ensures in
    let v = c.put_word-2.ensures in
    let w = c.put_word-3.ensures in (
      long (goal.at.returns c).After-put_word-3,
      renewed c.args.few _ _ _ _ _ _ _ _ _ _ _ p.0 p.1 p.2 (then_is (goal.at.returns c).After-through_of-e) (else_is (goal.at.returns c).After-through_of-e) z u v w (omega arith) (omega arith) fits,
      c.ne.ensures ∙ renewed_differ c.args.few _ _ _ _ _ _ _ _ _ _ _ p.0 p.1 p.2 (then_is (goal.at.returns c).After-through_of-e) (else_is (goal.at.returns c).After-through_of-e) z u v w (omega arith) (omega arith) fits,
    )
