-- The commands that `run` knows, and what their options come to.
use Rattle.std.specs.Prelude.{ℕ, Bool, false, ◌||◌, codes, List, [], ◌∷◌, eqb, if◌then◌else◌}
use Rattle.std.specs.Str.{bytes_eq}
use Rattle.command_words.specs.declared.command.Command.{Command}
use Rattle.command_words.specs.declared.command.Options.{Options}
use Rattle.command_words.specs.declared.command.Verb.TheVariants.{Mine, Fold, Migrate, Rehearse, Trial}
use Rattle.record_text.specs.declared.record_format.RecordFormat.{RecordFormat}
use Rattle.record_text.specs.declared.record_format.RecordFormat.TheVariants.{One, Two}
use Rattle.tesseract.specs.declared.terms.Terms.{Terms}
use Rattle.trial_job.specs.meaning.TrialJob.{trial_text}

abbrev pub mine_command : Options → Command
mine_command options = record { verb = Mine; options = options }

abbrev pub fold_command : Options → Command
fold_command options = record { verb = Fold; options = options }

abbrev pub migrate_command : Options → Command
migrate_command options = record { verb = Migrate; options = options }

abbrev pub rehearse_command : Options → Command
rehearse_command options = record { verb = Rehearse; options = options }

abbrev pub trial_command : Options → Command
trial_command options = record { verb = Trial; options = options }

-- the format of this number
abbrev pub format_of : ℕ → RecordFormat
format_of n = if eqb n 1 then One else Two

-- the terms on which a job is mined
abbrev pub terms_of : Options → Terms
terms_of options = record { lines = options.max_lines; records = options.max_records; format = format_of options.records }

-- The terms on which the job of a trial is mined. Its records are only counted, so their format does not matter.
abbrev pub trial_terms : Options → Terms
trial_terms options = record { lines = options.max_lines; records = options.max_records; format = One }

-- the bytes of the job that a trial makes
abbrev pub trial_bytes : Options → List ℕ
trial_bytes options = trial_text options.seed options.vertices options.updates

-- the first word is that of a command that works on one thread alone
abbrev pub is_still : List (List ℕ) → Bool
is_still [] = false
is_still (word ∷ words) = bytes_eq word (codes "fold") || bytes_eq word (codes "migrate") || bytes_eq word (codes "rehearse")
