use Rattle.std.proofs.Common.{sym, ◌∙◌}
use Rattle.command_words.proofs.Splitting.{parted-at}
use Rattle.command_words.proofs.settings.split_at_equals.Goals as goal

pub returns : goal.returns
returns c = parted-at c.args.text.now c.in_ok-equals.equals (sym c.equals_place.ensures ∙ c.in_ok-equals.was)
