-- Why reading words tells no command.
use Rattle.std.specs.Prelude.{◌≡◌, Option, None, Some, IsSome}
use Rattle.command_words.specs.declared.command.Command.{Command}
use Rattle.command_words.specs.declared.command.Options.{Options}
use Rattle.command_words.specs.declared.command.Verb.{Verb}
use Rattle.command_words.specs.declared.command.Verb.TheVariants.{Rehearse}
use Rattle.command_words.specs.declared.command.WordsFault.{WordsFault}
use Rattle.command_words.specs.declared.command.WordsFault.TheVariants as fault

-- The words after a command give no options, or there is no memory for the digits of a schedule, which one command
-- alone has.
abbrev pub LacksOptions : Verb → Option Options → WordsFault → Type 0
LacksOptions verb options fault.Usage = options ≡ None
LacksOptions verb options fault.NoMemory = (verb ≡ Rehearse) × IsSome options

-- All words give no command, or there is no memory for the digits of a rehearsal's schedule.
abbrev pub LacksCommand : Option Command → WordsFault → Type 0
LacksCommand command fault.Usage = command ≡ None
LacksCommand command fault.NoMemory = (options : Options) × (command ≡ Some (record { verb = Rehearse; options = options }))
