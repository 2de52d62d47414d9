-- The words of the command line: a command, and the values that it gives to options.
use Rattle.std.specs.Prelude.{ℕ, ◌+◌, Bool, true, false, ◌&&◌, List, [], ◌∷◌, ◌++◌, take, drop, eqb, nat_le, codes, Option, None, Some, is_none, length, unwrap_or, if◌then◌else◌}
use Rattle.std.specs.List.{position, list_all, list_any}
use Rattle.std.specs.Option.{option_map, option_map_or, option_and_then}
use Rattle.std.specs.Str.{bytes_eq}
use Rattle.line_fields.specs.meaning.Fields.{is_dash, is_digit, number_of}
use Rattle.command_words.specs.declared.command.Verb.{Verb}
use Rattle.command_words.specs.declared.command.Verb.TheVariants.{Mine, Fold, Migrate, Rehearse, Trial}
use Rattle.command_words.specs.declared.command.Options.{Options}
use Rattle.command_words.specs.declared.command.Command.{Command}

-- ---- what the commands and their options are

-- the command that a word names
abbrev pub verb_of : List ℕ → Option Verb
verb_of word =
    if bytes_eq word (codes "mine") then Some Mine
    else if bytes_eq word (codes "fold") then Some Fold
    else if bytes_eq word (codes "migrate") then Some Migrate
    else if bytes_eq word (codes "rehearse") then Some Rehearse
    else if bytes_eq word (codes "trial") then Some Trial
    else None

-- the options of commands that mine a job in windows, on one thread
abbrev pub window_options : List (List ℕ)
window_options = codes "shards" ∷ codes "window" ∷ codes "max-records" ∷ codes "max-lines" ∷ []

-- and on several
abbrev pub mining_options : List (List ℕ)
mining_options = codes "workers" ∷ window_options

-- the options of the command that makes a job, for it
abbrev pub making_options : List (List ℕ)
making_options = codes "seed" ∷ codes "vertices" ∷ codes "updates" ∷ []

-- the options of a command
abbrev pub option_names : Verb → List (List ℕ)
option_names Mine = codes "records" ∷ mining_options
option_names Fold = codes "at" ∷ []
option_names Migrate = []
option_names Rehearse = codes "schedule" ∷ codes "records" ∷ window_options
option_names Trial = making_options ++ mining_options

abbrev pub has_option : Verb → List ℕ → Bool
has_option verb name = list_any (bytes_eq name) (option_names verb)

-- an option that takes a number: its name, and the least and the most that it takes
pub record NumberOption : Type 0 where
  pub name : List ℕ
  pub least : ℕ
  pub most : ℕ

abbrev pub from_to : List ℕ → ℕ → ℕ → NumberOption
from_to name least most = record { name = name; least = least; most = most }

-- all of these
abbrev pub number_options : List NumberOption
number_options =
    from_to (codes "workers") 1 16
    ∷ from_to (codes "shards") 1 64
    ∷ from_to (codes "window") 1 4096
    ∷ from_to (codes "max-records") 1 10000000
    ∷ from_to (codes "max-lines") 1 4000000000
    ∷ from_to (codes "records") 1 2
    ∷ from_to (codes "at") 0 4000000000
    ∷ from_to (codes "seed") 0 2147483647
    ∷ from_to (codes "vertices") 2 10000
    ∷ from_to (codes "updates") 0 1000000
    ∷ []

-- what stands where they are not named; a fold goes to the end then
abbrev pub default_options : Options
default_options = record {
  workers = 2;
  shards = 8;
  window = 256;
  max_records = 100000;
  max_lines = 4000000000;
  records = 2;
  at = None;
  seed = 1;
  vertices = 200;
  updates = 2000;
  schedule = [];
}

-- the least and the most that the option of this name takes
abbrev pub range_in : List NumberOption → List ℕ → Option (ℕ × ℕ)
range_in [] name = None
range_in (option ∷ options) name =
    if bytes_eq name option.name then Some (option.least, option.most) else range_in options name

abbrev pub range_of : List ℕ → Option (ℕ × ℕ)
range_of name = range_in number_options name

-- 1 to 10 digits with a value from `least` to `most`
abbrev pub is_number_within : ℕ → ℕ → List ℕ → Bool
is_number_within least most value = option_map_or (λ n. nat_le least n && nat_le n most) (number_of 10 value) false

-- the most digits of a schedule
abbrev pub most_digits : ℕ
most_digits = 4096

-- so many digits at most, or none
abbrev pub is_schedule : List ℕ → Bool
is_schedule value = nat_le (length value) most_digits && list_all is_digit value

-- the option of this name takes this value
abbrev pub takes_value : List ℕ → List ℕ → Bool
takes_value name value =
    if bytes_eq name (codes "schedule") then is_schedule value
    else option_map_or (λ range. is_number_within range.0 range.1 value) (range_of name) false

-- ---- how options stand on the command line

-- a name, and the value that it is given
pub record Setting : Type 0 where
  pub name : List ℕ
  pub value : List ℕ

abbrev pub setting_of : List ℕ → List ℕ → Setting
setting_of name value = record { name = name; value = value }

abbrev pub is_equals : ℕ → Bool
is_equals b = eqb b 61

-- what stands after `--`
abbrev pub after_dashes : List ℕ → Option (List ℕ)
after_dashes (a ∷ b ∷ text) = if is_dash a && is_dash b then Some text else None
after_dashes word = None

-- the first `=` parts a name from its value
abbrev pub setting_of_text : List ℕ → Option Setting
setting_of_text text = option_map (λ i. setting_of (take i text) (drop (i + 1) text)) (position is_equals text)

-- `--name=value`
abbrev pub one_word_setting : List ℕ → Option Setting
one_word_setting word = option_and_then setting_of_text (after_dashes word)

-- `--name` and the next word, whatever that begins with
abbrev pub two_word_setting : List ℕ → List ℕ → Option Setting
two_word_setting word next = option_map (λ name. setting_of name next) (after_dashes word)

-- the settings that some words are, where each word belongs to one
abbrev pub settings_of : List (List ℕ) → Option (List Setting)
settings_of [] = Some []
settings_of (word ∷ []) = option_map (λ s. s ∷ []) (one_word_setting word)
settings_of (word ∷ next ∷ words) = elim (one_word_setting word) [
  | Some s ↦ option_map (λ more. s ∷ more) (settings_of (next ∷ words))
  | None ↦ option_and_then (λ s. option_map (λ more. s ∷ more) (settings_of words)) (two_word_setting word next)
]

-- ---- what they say

-- the value that the first setting of this name gives
abbrev pub value_named : List ℕ → List Setting → Option (List ℕ)
value_named name [] = None
value_named name (s ∷ settings) = if bytes_eq s.name name then Some s.value else value_named name settings

-- the command has the option, which takes the value, and its name does not stand again
abbrev pub setting_fits : Verb → Setting → List Setting → Bool
setting_fits verb s later = has_option verb s.name && takes_value s.name s.value && is_none (value_named s.name later)

abbrev pub is_in_order : Verb → List Setting → Bool
is_in_order verb [] = true
is_in_order verb (s ∷ settings) = setting_fits verb s settings && is_in_order verb settings

-- the number that is given to a name
abbrev pub number_named : List ℕ → List Setting → Option ℕ
number_named name settings = option_and_then (number_of 10) (value_named name settings)

abbrev pub number_or : ℕ → List ℕ → List Setting → ℕ
number_or usual name settings = unwrap_or (number_named name settings) usual

-- the digits that are given to a name
abbrev pub digits_or : List ℕ → List ℕ → List Setting → List ℕ
digits_or usual name settings = unwrap_or (value_named name settings) usual

-- each option as it is named, or else its default
abbrev pub options_of : List Setting → Options
options_of settings = record {
  workers = number_or default_options.workers (codes "workers") settings;
  shards = number_or default_options.shards (codes "shards") settings;
  window = number_or default_options.window (codes "window") settings;
  max_records = number_or default_options.max_records (codes "max-records") settings;
  max_lines = number_or default_options.max_lines (codes "max-lines") settings;
  records = number_or default_options.records (codes "records") settings;
  at = number_named (codes "at") settings;
  seed = number_or default_options.seed (codes "seed") settings;
  vertices = number_or default_options.vertices (codes "vertices") settings;
  updates = number_or default_options.updates (codes "updates") settings;
  schedule = digits_or default_options.schedule (codes "schedule") settings;
}

-- the options that the words after a command give
abbrev pub options_of_words : Verb → List (List ℕ) → Option Options
options_of_words verb words =
    option_and_then (λ settings. if is_in_order verb settings then Some (options_of settings) else None) (settings_of words)

-- the command that all words give
abbrev pub command_of : List (List ℕ) → Option Command
command_of [] = None
command_of (word ∷ words) =
    option_and_then (λ verb. option_map (λ options. record { verb = verb; options = options }) (options_of_words verb words)) (verb_of word)
