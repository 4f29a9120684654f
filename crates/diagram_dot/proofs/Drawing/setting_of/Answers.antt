-- `diagram_dot::Drawing::setting_of` is safe: a node's height is at most n. Assumes nothing.
use Rattle.diagram.proofs.Paths.{height_le_settings}
use Rattle.diagram_dot.proofs.Drawing.setting_of.Goals as goal

pub overflow_sub-result : goal.overflow_sub-result
overflow_sub-result c =
    rw c.height_at.ensures.0 (height_le_settings _ _ _ c.args.self.now.holds.ordered _ c.requires.1)
