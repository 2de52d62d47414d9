-- How settings are written on the command line.
use Rattle.std.specs.Prelude.{◌≡◌, ℕ, false, List, [], ◌∷◌, ◌++◌}
use Rattle.std.specs.List.{list_any}
use Rattle.command_words.specs.meaning.Words.{Setting, setting_of, is_equals}

-- a name and its value, with one of the two ways to write them
pub data Spelled : Type 0 where
  -- `--name=value`
  in_one_word : List ℕ → List ℕ → Spelled
  -- `--name` and `value`
  in_two_words : List ℕ → List ℕ → Spelled

-- what is written
abbrev pub setting_spelled : Spelled → Setting
setting_spelled (in_one_word name value) = setting_of name value
setting_spelled (in_two_words name value) = setting_of name value

-- the words that it is written in
abbrev pub words_spelled : Spelled → List (List ℕ)
words_spelled (in_one_word name value) = (45 ∷ 45 ∷ name ++ 61 ∷ value) ∷ []
words_spelled (in_two_words name value) = (45 ∷ 45 ∷ name) ∷ value ∷ []

-- the words of several, in order
abbrev pub all_words : List Spelled → List (List ℕ)
all_words [] = []
all_words (s ∷ more) = words_spelled s ++ all_words more

-- its name has no `=`
abbrev pub HasPlainName : Spelled → Type 0
HasPlainName s = list_any is_equals (setting_spelled s).name ≡ false
