-- `rows::enter_row` meets its contract: the first entry by the flag, the others mixed. Assumes nothing.
use Rattle.std.proofs.Common.{ℕ, ◌+◌, ◌*◌, ◌≤◌, length, refl, arith, rules}
use Rattle.rows.proofs.Entering.{high_before, low_before, entered_plain, entered_flagged}
use Rattle.rows.proofs.enter_row.Goals as goal
use Rattle.rows.proofs.enter_row.Goals.{After-node-2}

-- their rows lie before the node's own, and there is room for that
record Bounds (m k high low long : ℕ) : Type 0 where
  high-low : (m + 1) * high + (m + 1) ≤ (m + 1) * k
  low-low : (m + 1) * low + (m + 1) ≤ (m + 1) * k
  room : 8 * ((m + 1) * (k + 1)) ≤ long

bounds : (c : After-node-2) → let a = c.args in Bounds a.m a.k.0 c.node.result.0 c.node-2.result.0 (length a.sheet.now)
bounds c =
    let r = c.record_at-record.ensures in
    record {
      high-low = high_before _ _ _ _ _ _ _ c.requires.0 c.requires.1 r _ c.node.ensures;
      low-low = low_before _ _ _ _ _ _ _ c.requires.0 c.requires.1 r _ c.node-2.ensures;
      room = c.requires.1.room;
    }

pub overflow_mul-high : goal.overflow_mul-high
overflow_mul-high c =
    record { fits = omega (arith, high_before _ _ _ _ _ _ _ c.requires.0 c.requires.1 c.record_at-record.ensures _ c.node.ensures, c.requires.1.room) }

pub overflow_mul-low : goal.overflow_mul-low
overflow_mul-low c = record { fits = omega (arith, bounds (goal.at.overflow_mul-low c).After-node-2) }

pub load-first-requires : goal.load-first-requires
load-first-requires c = omega (arith, bounds (goal.at.load-first-requires c).After-node-2)

pub overflow_add-low : goal.overflow_add-low
overflow_add-low c = record { fits = omega (arith, bounds (goal.at.overflow_add-low c).After-node-2) }

pub mix-requires : goal.mix-requires
mix-requires c =
    let b = bounds (goal.at.mix-requires c).After-node-2 in
    (omega arith, omega arith, omega arith, omega (arith, c.store.auto.bytes))

pub overflow_add-low-else-flagged : goal.overflow_add-low-else-flagged
overflow_add-low-else-flagged c = record { fits = omega (arith, bounds (goal.at.overflow_add-low-else-flagged c).After-node-2) }

pub mix-requires-else-flagged : goal.mix-requires-else-flagged
mix-requires-else-flagged c =
    let b = bounds (goal.at.mix-requires-else-flagged c).After-node-2 in
    (omega arith, omega arith, omega arith, omega (arith, c.store-else-flagged.auto.bytes))

pub returns-then-flagged : goal.returns-then-flagged
returns-then-flagged c =
    entered_flagged _ _ _ _ _ _ _ c.requires.0 c.requires.1 c.record_at-record.ensures _ _ _ _ _ _ c.node.ensures c.node-2.ensures c.store.ensures (search rules) (search rules) c.load-first.ensures _ c.flagged.ensures c.if-flagged.true
    (omega (arith, c.wrapping_neg.ensures)) c.mix.ensures

pub returns-else-flagged : goal.returns-else-flagged
returns-else-flagged c =
    entered_plain _ _ _ _ _ _ _ c.requires.0 c.requires.1 c.record_at-record.ensures _ _ _ _ _ _ c.node.ensures c.node-2.ensures c.store-else-flagged.ensures (search rules) (search rules) c.load-first.ensures _ c.flagged.ensures c.if-flagged.false
    refl c.mix-else-flagged.ensures
