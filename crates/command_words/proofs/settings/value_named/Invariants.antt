-- What is left of the words gives the name the value that all of them give.
use Rattle.std.proofs.Common.{◌≡◌, List, Some, length, map, string_bytes}
use Rattle.command_words.specs.meaning.Words.{Setting, settings_of, value_named}
use Rattle.command_words.proofs.settings.value_named.Given as goal

abbrev pub invariant-loop-rest : goal.invariant-loop-rest
invariant-loop-rest l = (settings : List Setting) → settings_of (map string_bytes l.words) ≡ Some settings →
    (left : List Setting) × (settings_of (map string_bytes l.rest) ≡ Some left) × (value_named l.name settings ≡ value_named l.name left)

abbrev pub decreases-loop-rest : goal.decreases-loop-rest
decreases-loop-rest l = length l.rest
