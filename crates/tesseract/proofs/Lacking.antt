-- What words leave that give no command, and those of a command for whose digits there is no memory.
use Rattle.std.proofs.Common.{◌≡◌, ℕ, List, [], ◌++◌, Option, None, Some, refl, sym, ap, subst, ◌∙◌}
use Rattle.std.specs.Io.KnownBytes.{Appends, Keeps}
use Rattle.command_words.specs.calls.Reading.{LacksCommand}
use Rattle.command_words.specs.declared.command.Command.{Command}
use Rattle.command_words.specs.declared.command.Options.{Options}
use Rattle.command_words.specs.declared.command.Verb.{Verb}
use Rattle.command_words.specs.declared.command.Verb.TheVariants.{Fold, Migrate, Rehearse}
use Rattle.command_words.specs.declared.command.WordsFault.{WordsFault}
use Rattle.command_words.specs.declared.command.WordsFault.TheVariants as words_fault
use Rattle.command_words.specs.meaning.Words.{command_of}
use Rattle.job_io.proofs.Gathering.{AppendsFront-kept, Appends-kept}
use Rattle.job_io.proofs.Known.{BothKnown-same}
use Rattle.tesseract.specs.calls.Run.{AnswersWords, EndState, Tells, WritesPrefix, WritesTold}
use Rattle.tesseract.specs.declared.status.Status.{Status}
use Rattle.tesseract.specs.declared.status.Status.TheVariants as status
use Rattle.tesseract.specs.declared.terms.Terms.{Terms}
use Rattle.tesseract.specs.meaning.Commands.{fold_command, migrate_command, rehearse_command}
use Rattle.tesseract.specs.meaning.Status.{status_line, status_of_words}
use Rattle.tesseract.proofs.Commands.{same_command}
use Rattle.tesseract.proofs.Telling.{TellJob-nil}

-- nothing is appended
kept : (bytes : Option (List ℕ)) → Appends bytes bytes []
kept bytes = Appends-kept bytes bytes (stays bytes)
  where
    stays : (bytes : Option (List ℕ)) → Keeps bytes bytes
    stays None = tt
    stays (Some bytes) = refl

-- a job that was not begun has a prefix of its text on the sink, which tells it
WritesPrefix-unbegun : (terms : Terms) (left written : Option (List ℕ)) → WritesPrefix terms left left written written
WritesPrefix-unbegun terms left written = BothKnown-same _ left (λ bytes. record { len = 0; written = kept written })

WritesTold-unbegun : (terms : Terms) (left written : Option (List ℕ)) → WritesTold terms left left written written
WritesTold-unbegun terms left written = BothKnown-same _ left (λ bytes. ([], kept written, TellJob-nil terms bytes))

other_verb : (words : List (List ℕ)) (options given : Options) (verb : Verb) → command_of words ≡ Some (rehearse_command options) →
    command_of words ≡ Some (record { verb = verb; options = given }) → Rehearse ≡ verb
other_verb words options given verb rehearse is =
    ap (λ (c : Command). c.verb) (same_command words (rehearse_command options) (record { verb = verb; options = given }) rehearse is)

pub AnswersWords-lacking : (words : List (List ℕ)) (input out err0 err : EndState) (fault : WordsFault) →
    LacksCommand (command_of words) fault →
    Tells err0.bytes err.bytes err0.faults err.faults (status_line (status_of_words fault)) →
    AnswersWords words input input out out err0 err (status_of_words fault)
AnswersWords-lacking words input out err0 err words_fault.Usage lacks told = record {
  usage = (λ is. lacks, λ none. refl);
  folded = λ options given. absurd (let e : None ≡ Some (fold_command options) = sym lacks ∙ given in cc);
  migrated = λ options given. absurd (let e : None ≡ Some (migrate_command options) = sym lacks ∙ given in cc);
  rehearsed = λ options given. absurd (let e : None ≡ Some (rehearse_command options) = sym lacks ∙ given in cc);
  read_cause = λ is. absurd (let e : status.Usage ≡ status.ReadFault = is in cc);
  write_cause = λ is. absurd (let e : status.Usage ≡ status.WriteFault = is in cc);
  told = told;
}
AnswersWords-lacking words input out err0 err words_fault.NoMemory lacks told = record {
  usage = (
    λ is. absurd (let e : status.NoMemory ≡ status.Usage = is in cc),
    λ none. absurd (let e : Some (rehearse_command lacks.0) ≡ None = sym lacks.1 ∙ none in cc),
  );
  folded = λ options given. absurd (let e : Rehearse ≡ Fold = other_verb words lacks.0 options Fold lacks.1 given in cc);
  migrated = λ options given. absurd (let e : Rehearse ≡ Migrate = other_verb words lacks.0 options Migrate lacks.1 given in cc);
  rehearsed = λ options given. (WritesPrefix-unbegun _ input.bytes out.bytes, WritesTold-unbegun _ input.bytes out.bytes);
  read_cause = λ is. absurd (let e : status.NoMemory ≡ status.ReadFault = is in cc);
  write_cause = λ is. absurd (let e : status.NoMemory ≡ status.WriteFault = is in cc);
  told = told;
}
