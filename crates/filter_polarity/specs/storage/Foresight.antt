-- What a program keeps beside its conditions.
use Rattle.std.specs.Prelude.{◌≡◌, ◌||◌, Bool, List}
use Rattle.filter_polarity.specs.meaning.Program.{IsProgram, ProgramValue}
use Rattle.label_needs.specs.meaning.Needs.{needs_vertex_labels}
use Rattle.shape_bounds.specs.declared.outcome.Outcome.{Outcome}
use Rattle.shape_bounds.specs.storage.Outlooks.{Foretells}

-- it is a program, both outlooks are those of its conditions, and it tells whether one of them needs labels of vertices
pub record IsForeseen (p : ProgramValue) (filter_outlook matching_outlook : List Outcome) (needs : Bool) : Type 0 where
  pub program : IsProgram p
  pub filter : Foretells p.filter filter_outlook
  pub matching : Foretells p.matching matching_outlook
  pub labels : needs ≡ (needs_vertex_labels p.filter || needs_vertex_labels p.matching)
