-- `tightening::make_proper` meets its contract: an accepted table is copied, another one is made proper as a loose one. Assumes nothing.
use Prim.Native.Nat.{◌+◌, ◌*◌, ◌/◌, ◌≤◌}
use mathlib.Core.Path.{◌≡◌, sym, ap, subst, ◌∙◌}
use native.Mathlib.Omega.{arith}
use lib.ListN.{length}
use Rattle.words.specs.Words.{words_over}
use Rattle.diagram.specs.Ordered.{Accepted}
use Rattle.diagram.proofs.Accept.{check_accepted}
use Rattle.loose.proofs.Loosely.{accepted_loosely}
use Rattle.checking.specs.Operations.{checking_for}
use Rattle.checking.specs.Inner.{header_as, Lends}
use Rattle.tightening.specs.Operations.{needed}
use Rattle.tightening.proofs.Promised.{accepted_as, tightens_as, tightened}
use Rattle.tightening.proofs.Left.{left_promised}
use Rattle.tightening.proofs.make_proper.Goals as goal
use Rattle.tightening.proofs.make_proper.Goals.{In-Ok}

-- a table that passes is accepted, and as much is lent as is needed
passed : (c : In-Ok) → let a = c.args in let s = c.in-Ok.header in
    Accepted a.table.now s.settings s.nodes × (needed s.nodes ≤ length a.sheet.now / 8)
unfolding checking_for
passed c =
    check_accepted _ _ needed _ _ (sym c.begin_with.ensures.answers ∙ ap header_as c.in-Ok.is)

-- and the sheet is as it was lent
lent : (c : In-Ok) → c.begin_with.new.sheet ≡ c.args.sheet.now
lent c = (subst (Lends _ _ _ _) c.in-Ok.is c.begin_with.ensures.lends).1

pub blank-requires : goal.blank-requires
blank-requires c = omega (arith, (passed (goal.at.blank-requires c).In-Ok).1, ap length (lent (goal.at.blank-requires c).In-Ok))

pub copy_table-requires : goal.copy_table-requires
copy_table-requires c =
    let A = (passed (goal.at.copy_table-requires c).In-Ok).0 in
    accepted_as (sym A.has_settings) A

pub returns-in-Ok : goal.returns-in-Ok
returns-in-Ok c =
    let p = passed (goal.at.returns-in-Ok c).In-Ok in
    let N = c.in-Ok.header.nodes in
    tightened _ _ _ _ _ (accepted_loosely _ _ _ p.0) (omega (arith, p.1)) _ _ _ (tightens_as p.0.has_settings c.copy_table.ensures)
    (c.blank.ensures ∙ ap (words_over (λ _. 0) (8 * N + 512)) (lent (goal.at.returns-in-Ok c).In-Ok))

pub returns : goal.returns
returns c =
    let k = c.begin_with.ensures in
    let q = c.in_default.is in
    left_promised _ _ _ _ (sym k.answers ∙ ap header_as q) _ (subst (Lends _ _ _ _) q k.lends) c.make_loose_proper.ensures

pub overflow_mul-header : goal.overflow_mul-header
overflow_mul-header c = record { fits = omega (arith, (passed (goal.at.overflow_mul-header c).In-Ok).0.few) }

pub overflow_add-header : goal.overflow_add-header
overflow_add-header c = record { fits = omega (arith, (passed (goal.at.overflow_add-header c).In-Ok).0.few) }
