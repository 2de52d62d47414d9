use Rattle.command_words.proofs.Spelt.{read_as_written}
use Rattle.command_words.proofs.laws.settings_are_read_as_they_are_written.Goals as goal

pub returns : goal.returns
returns c = λ written plain. read_as_written written plain
