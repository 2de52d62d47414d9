-- The format of a text, which its first line sets.
use Rattle.std.specs.Prelude.{ℕ, Bool, true, false, not, Option, None, Some}
use Rattle.std.specs.Option.{is_none}
use Rattle.record_text.specs.declared.read.RecordLine.{RecordLine}
use Rattle.record_text.specs.declared.read.RecordLine.TheVariants.{Nothing, Head, Rem, Add, Done}
use Rattle.record_text.specs.declared.record_format.RecordFormat.{RecordFormat}
use Rattle.record_text.specs.declared.record_format.RecordFormat.TheVariants.{One, Two}

-- format 2 has counts; format 1, in which a text is whose first line is no head, has none
abbrev pub has_counts : Option RecordFormat → Bool
has_counts None = false
has_counts (Some One) = false
has_counts (Some Two) = true

-- The line has the form of this format: a head is the first line that says anything, and a line that closes
-- a timestamp has a count exactly where the format has them.
abbrev pub is_of_form : Option RecordFormat → RecordLine → Bool
is_of_form format Nothing = true
is_of_form format Head = is_none format
is_of_form format (Rem t p) = true
is_of_form format (Add t p) = true
is_of_form format (Done t None) = not (has_counts format)
is_of_form format (Done t (Some n)) = has_counts format

-- the format of a text whose first line says this; a line that says nothing sets none
abbrev pub format_begun : RecordLine → Option RecordFormat
format_begun Nothing = None
format_begun Head = Some Two
format_begun (Rem t p) = Some One
format_begun (Add t p) = Some One
format_begun (Done t count) = Some One

-- the format after a line
abbrev pub format_after : Option RecordFormat → RecordLine → Option RecordFormat
format_after None said = format_begun said
format_after (Some format) said = Some format
