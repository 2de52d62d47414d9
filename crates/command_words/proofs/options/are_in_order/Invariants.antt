-- What is left of the words is in order where all of them are.
use Rattle.std.proofs.Common.{◌≡◌, false, length, map, string_bytes}
use Rattle.std.specs.Option.{option_map_or}
use Rattle.command_words.specs.meaning.Words.{is_in_order, settings_of}
use Rattle.command_words.proofs.options.are_in_order.Given as goal

abbrev pub invariant-loop-rest : goal.invariant-loop-rest
invariant-loop-rest l = option_map_or (is_in_order l.verb) (settings_of (map string_bytes l.rest)) false
    ≡ option_map_or (is_in_order l.verb) (settings_of (map string_bytes l.words)) false

abbrev pub decreases-loop-rest : goal.decreases-loop-rest
decreases-loop-rest l = length l.rest
