use Prim.Native.Nat.{◌+◌, ◌<◌}
use native.Mathlib.Omega.{arith}
use Rattle.keys.specs.Keys.{strides}
use Rattle.keys.proofs.Searching.{probe_first, step_fits, slot_below, held_le, probe_free, probe_here, probe_next, probe_round}
use Rattle.keys.proofs.search.Goals as goal
use Rattle.keys.proofs.search.Goals.{In-loop-d}

pub loop-d-init : goal.loop-d-init
loop-d-init c = probe_first _ _ _ _ c.requires.3 c.requires.0 _ _ c.mixed_of-mix.ensures c.home_of-slot.ensures

-- and there are slots to search
left : (c : In-loop-d) → c.loop-d.d < c.args.p + strides c.args.p
left c = omega (arith, c.loop-d-test.true, c.strides_of-turns.ensures.0)

below : (c : In-loop-d) → c.loop-d.slot < c.args.p
below c = slot_below _ _ _ _ c.requires.3 c.requires.0 _ _ c.loop-d.invariant (left c)

pub overflow_add-p : goal.overflow_add-p
overflow_add-p c = omega (arith, c.requires.1, below c)

pub word_at-held-requires : goal.word_at-held-requires
word_at-held-requires c = omega (arith, c.requires.1, below c)

pub returns-then-held-eq0 : goal.returns-then-held-eq0
returns-then-held-eq0 c =
    probe_free _ _ _ _ c.requires.3 c.requires.0 _ _ c.loop-d.invariant (left (goal.at.returns-then-held-eq0 c).In-loop-d) _ c.word_at-held.ensures c.if-held-eq0.true

pub word_at-requires : goal.word_at-requires
word_at-requires c =
    let l = held_le _ _ _ _ c.requires.3 c.requires.0 _ _ c.loop-d.invariant (left (goal.at.word_at-requires c).In-loop-d) _ c.word_at-held.ensures in
    omega (arith, c.requires.1, c.requires.0, c.requires.3.few)

pub returns-then-word_at-key : goal.returns-then-word_at-key
returns-then-word_at-key c =
    probe_here _ _ _ _ c.requires.3 c.requires.0 _ _ c.loop-d.invariant (left (goal.at.returns-then-word_at-key c).In-loop-d) _ c.word_at-held.ensures
    c.if-held-eq0.false _ c.word_at.ensures c.if-word_at-key.true

pub slot_after-slot-requires : goal.slot_after-slot-requires
slot_after-slot-requires c =
    (below (goal.at.slot_after-slot-requires c).In-loop-d, step_fits _ _ _ _ c.requires.3 c.requires.0 _ _ _ c.loop-d.d _ c.mixed_of-mix.ensures c.stride_of-by.ensures c.strides_of-turns.ensures.0 c.step_of.ensures, omega (arith, c.requires.1))

pub loop-d-preserved : goal.loop-d-preserved
loop-d-preserved c =
    probe_next _ _ _ _ c.requires.3 c.requires.0 _ _ c.loop-d.invariant (left (goal.at.loop-d-preserved c).In-loop-d) _ c.word_at-held.ensures
    c.if-held-eq0.false _ c.word_at.ensures c.if-word_at-key.false _ _ _ c.mixed_of-mix.ensures c.stride_of-by.ensures c.strides_of-turns.ensures.0 _ c.step_of.ensures _ c.slot_after-slot.ensures

pub returns : goal.returns
returns c =
    probe_round _ _ _ _ c.requires.3 c.requires.0 _ _ c.loop-d.invariant (omega (arith, c.loop-d.invariant.bound, c.loop-d-test.false, c.strides_of-turns.ensures.0))
