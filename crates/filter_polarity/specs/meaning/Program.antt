-- What contracts see of a falling condition and of a program.
use Rattle.std.specs.Prelude.{ℕ, ◌≤◌, IsTrue}
use Rattle.graph_types.specs.meaning.Piece.{most_members}
use Rattle.graph_types.specs.declared.ids.Mode.{Mode}
use Rattle.conditions.specs.declared.condition.Cond.{Cond}
use Rattle.filter_polarity.specs.meaning.Polarity.{is_falling}
use Rattle.conditions.specs.meaning.Written.{IsWithinLimits}

-- a condition, and the mode in which it is falling
pub record FallingValue : Type 0 where
  pub mode : Mode
  pub cond : Cond

-- pieces of one mode with at most `size` members, a filter that cuts the search off, and what is looked for
pub record ProgramValue : Type 0 where
  pub mode : Mode
  pub size : ℕ
  pub filter : Cond
  pub matching : Cond

-- what is true of each program
pub record IsProgram (p : ProgramValue) : Type 0 where
  pub some_member : 1 ≤ p.size
  pub few_members : p.size ≤ most_members
  pub falls : IsTrue (is_falling p.mode p.filter)
  pub filter_within : IsWithinLimits p.filter
  pub matching_within : IsWithinLimits p.matching
