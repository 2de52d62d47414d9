use Rattle.conditions.proofs.size.Size.and.Goals as goal

pub returns : goal.returns
returns c = λ left right is_left is_right. c.beside.ensures _ _ (c.at.ensures left is_left) (c.at-2.ensures right is_right)
