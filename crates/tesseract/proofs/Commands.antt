-- Which command the first word names.
use Rattle.std.proofs.Common.{◌≡◌, Bool, true, false, ◌||◌, ℕ, List, [], ◌∷◌, codes, Option, None, Some, if◌then◌else◌, refl, sym, ap, ◌∙◌}
use Rattle.std.specs.Option.{option_and_then, option_map}
use Rattle.std.specs.Str.{bytes_eq}
use Rattle.command_words.specs.declared.command.Verb.{Verb}
use Rattle.command_words.specs.declared.command.Verb.TheVariants.{Mine, Fold, Migrate, Rehearse, Trial}
use Rattle.command_words.specs.declared.command.Options.{Options}
use Rattle.command_words.specs.declared.command.Command.{Command}
use Rattle.command_words.specs.meaning.Words.{command_of, options_of_words, verb_of}
use Rattle.tesseract.specs.meaning.Commands.{is_still, mine_command, trial_command}

-- a command with options that were given
of_verb : (verb : Verb) (options : Option Options) (c : Command) →
    option_map (λ options. record { verb = verb; options = options }) options ≡ Some c → verb ≡ c.verb
of_verb verb None c given = absurd (let e : None ≡ Some c = given in cc)
of_verb verb (Some options) c given =
    let e : Some (record { verb = verb; options = options }) ≡ Some c = given in
    let same : ◌≡◌ {A = Command} (record { verb = verb; options = options }) c = cc in
    ap (λ (c : Command). c.verb) same

named : (verb : Option Verb) (said : Verb → Option Options) (c : Command) →
    option_and_then (λ verb. option_map (λ options. record { verb = verb; options = options }) (said verb)) verb ≡ Some c →
    verb ≡ Some c.verb
named None said c given = absurd (let e : None ≡ Some c = given in cc)
named (Some verb) said c given = ap Some (of_verb verb (said verb) c given)

-- the command is that of the first word
first_word : (word : List ℕ) (words : List (List ℕ)) (c : Command) → command_of (word ∷ words) ≡ Some c →
    verb_of word ≡ Some c.verb
first_word word words c given = named (verb_of word) (λ verb. options_of_words verb words) c given

-- what the first word names, by which of the names it is
abbrev verb_by : Bool → Bool → Bool → Bool → Bool → Option Verb
verb_by m f g r t =
    if m then Some Mine else if f then Some Fold else if g then Some Migrate else if r then Some Rehearse else if t then Some Trial else None

-- a command that works on one thread alone
abbrev works_alone : Verb → Bool
works_alone Mine = false
works_alone Fold = true
works_alone Migrate = true
works_alone Rehearse = true
works_alone Trial = false

alone : (m f g r t : Bool) (verb : Verb) → verb_by m f g r t ≡ Some verb → works_alone verb ≡ true → f || g || r ≡ true
alone true f g r t verb named works = absurd (let e : Some Mine ≡ Some verb = named in let same : Mine ≡ verb = cc in
    let no : false ≡ true = ap works_alone same ∙ works in cc)
alone false true g r t verb named works = refl
alone false false true r t verb named works = refl
alone false false false true t verb named works = refl
alone false false false false true verb named works = absurd (let e : Some Trial ≡ Some verb = named in let same : Trial ≡ verb = cc in
    let no : false ≡ true = ap works_alone same ∙ works in cc)
alone false false false false false verb named works = absurd (let e : None ≡ Some verb = named in cc)

first_alone : (words : List (List ℕ)) (c : Command) → command_of words ≡ Some c → works_alone c.verb ≡ true → is_still words ≡ true
first_alone [] c given works = absurd (let e : None ≡ Some c = given in cc)
first_alone (word ∷ words) c given works =
    alone (bytes_eq word (codes "mine")) (bytes_eq word (codes "fold")) (bytes_eq word (codes "migrate"))
    (bytes_eq word (codes "rehearse")) (bytes_eq word (codes "trial")) c.verb (first_word word words c given) works

-- to fold takes one thread alone
pub fold-is_still : (words : List (List ℕ)) (c : Command) → command_of words ≡ Some c → c.verb ≡ Fold →
    is_still words ≡ true
fold-is_still words c given fold = first_alone words c given (ap works_alone fold)

-- and so does to migrate
pub migrate-is_still : (words : List (List ℕ)) (c : Command) → command_of words ≡ Some c → c.verb ≡ Migrate →
    is_still words ≡ true
migrate-is_still words c given migrate = first_alone words c given (ap works_alone migrate)

-- and to rehearse
pub rehearse-is_still : (words : List (List ℕ)) (c : Command) → command_of words ≡ Some c → c.verb ≡ Rehearse →
    is_still words ≡ true
rehearse-is_still words c given rehearse = first_alone words c given (ap works_alone rehearse)

-- words that give two commands give them with the same verb and options
pub same_command : (words : List (List ℕ)) (c d : Command) → command_of words ≡ Some c → command_of words ≡ Some d → c ≡ d
same_command words c d first second = let e : Some c ≡ Some d = sym first ∙ second in cc

-- to fold is not to mine
pub fold-is_not_mine : (words : List (List ℕ)) (c : Command) (options : Options) → command_of words ≡ Some c →
    c.verb ≡ Fold → command_of words ≡ Some (mine_command options) → ⊥
fold-is_not_mine words c options given fold mine =
    let same = same_command words c (mine_command options) given mine in
    let verbs : Fold ≡ Mine = sym fold ∙ ap (λ (c : Command). c.verb) same in cc

-- nor is to migrate
pub migrate-is_not_mine : (words : List (List ℕ)) (c : Command) (options : Options) → command_of words ≡ Some c →
    c.verb ≡ Migrate → command_of words ≡ Some (mine_command options) → ⊥
migrate-is_not_mine words c options given migrate mine =
    let same = same_command words c (mine_command options) given mine in
    let verbs : Migrate ≡ Mine = sym migrate ∙ ap (λ (c : Command). c.verb) same in cc

-- nor is to rehearse
pub rehearse-is_not_mine : (words : List (List ℕ)) (c : Command) (options : Options) → command_of words ≡ Some c →
    c.verb ≡ Rehearse → command_of words ≡ Some (mine_command options) → ⊥
rehearse-is_not_mine words c options given rehearse mine =
    let same = same_command words c (mine_command options) given mine in
    let verbs : Rehearse ≡ Mine = sym rehearse ∙ ap (λ (c : Command). c.verb) same in cc

-- words that give this command are those of a trial with its options
pub trial-options : (words : List (List ℕ)) (c : Command) (options : Options) → command_of words ≡ Some c →
    command_of words ≡ Some (trial_command options) → c.options ≡ options
trial-options words c options given trial = ap (λ (c : Command). c.options) (same_command words c (trial_command options) given trial)
