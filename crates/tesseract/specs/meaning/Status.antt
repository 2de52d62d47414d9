-- What is said of how a run ended.
use Rattle.std.specs.Prelude.{ℕ, List, [], ◌++◌, codes, decimal, Option, None, Some}
use Rattle.command_words.specs.declared.command.WordsFault.{WordsFault}
use Rattle.command_words.specs.declared.command.WordsFault.TheVariants as words
use Rattle.graph_types.specs.declared.refusal.Refusal.{Refusal}
use Rattle.graph_types.specs.declared.refusal.Refusal.TheVariants as why
use Rattle.job.specs.declared.fault.JobFault.{JobFault}
use Rattle.job.specs.declared.fault.JobFault.TheVariants as fault
use Rattle.job.specs.declared.fault.JobRefusal.{JobRefusal}
use Rattle.job.specs.declared.fault.JobRefusal.TheVariants as refused
use Rattle.program_grammar.specs.declared.fault.ProgramKind.{ProgramKind}
use Rattle.program_grammar.specs.declared.fault.ProgramKind.TheVariants as program
use Rattle.program_grammar.specs.declared.header.Word.{Word}
use Rattle.program_grammar.specs.declared.header.Word.TheVariants as word
use Rattle.snapshot_fold.specs.declared.fault.FoldRefusal.{FoldRefusal}
use Rattle.snapshot_fold.specs.declared.fault.FoldRefusal.TheVariants as contradiction
use Rattle.snapshot_fold.specs.declared.folding.FoldStop.{FoldStop}
use Rattle.snapshot_fold.specs.declared.folding.FoldStop.TheVariants as fold
use Rattle.tesseract.specs.declared.status.Status.{Status}
use Rattle.tesseract.specs.declared.status.Status.TheVariants as status
use Rattle.tesseract.specs.declared.status.InputKind.{InputKind}
use Rattle.tesseract.specs.declared.status.InputKind.TheVariants as input
use Rattle.tesseract.specs.declared.status.LimitKind.{LimitKind}
use Rattle.tesseract.specs.declared.status.LimitKind.TheVariants as limit

-- how words that could not be read are told
abbrev pub status_of_words : WordsFault → Status
status_of_words words.Usage = status.Usage
status_of_words words.NoMemory = status.NoMemory

-- how a job that is refused so is told
abbrev pub status_of_refusal : JobRefusal → Status
status_of_refusal (refused.Program line kind) = status.BadProgram line kind
status_of_refusal (refused.BadLine line) = status.BadInput line input.BadLine
status_of_refusal (refused.Update line refusal) = status.BadInput line (input.Update refusal)
status_of_refusal (refused.Labels at) = status.Limit limit.Labels at
status_of_refusal (refused.Batch at) = status.Limit limit.Batch at
status_of_refusal (refused.OpenBatch line) = status.BadInput line input.OpenBatch
status_of_refusal (refused.LineBytes at) = status.Limit limit.LineBytes at
status_of_refusal (refused.Lines at) = status.Limit limit.Lines at

-- the same, where a job may have ended well
abbrev pub status_of_end : Option JobRefusal → Status
status_of_end None = status.Ok
status_of_end (Some refusal) = status_of_refusal refusal

-- how a line that leads no further is told
abbrev pub status_of_fault : JobFault → Status
status_of_fault (fault.Refused refusal) = status_of_refusal refusal
status_of_fault fault.NoMemory = status.NoMemory

-- how a stop of a fold is told
abbrev pub status_of_fold : FoldStop → Status
status_of_fold fold.NoMemory = status.NoMemory
status_of_fold fold.ReadFault = status.ReadFault
status_of_fold (fold.BadLine line) = status.BadInput line input.BadLine
status_of_fold (fold.Refused line refusal) = status.BadInput line (input.Record refusal)
status_of_fold (fold.NotDone line) = status.BadInput line input.NotDone
status_of_fold (fold.TooLong at) = status.Limit limit.LineBytes at
status_of_fold (fold.TooMany at) = status.Limit limit.Lines at

-- the exit status
abbrev pub exit_number : Status → ℕ
exit_number status.Ok = 0
exit_number status.NoMemory = 1
exit_number status.Usage = 2
exit_number (status.BadProgram line kind) = 3
exit_number (status.BadInput line kind) = 4
exit_number (status.Limit kind at) = 5
exit_number status.ReadFault = 6
exit_number status.WriteFault = 7

-- a word as a header has it
abbrev pub word_text : Word → List ℕ
word_text word.Mode = codes "mode"
word_text word.Size = codes "size"
word_text word.Filter = codes "filter"
word_text word.Match = codes "match"
word_text word.Begin = codes "begin"

-- the name of a kind
abbrev pub program_kind : ProgramKind → List ℕ
program_kind program.BadLine = codes "BadLine"
program_kind (program.Missing word) = codes "Missing " ++ word_text word
program_kind program.SizeRange = codes "SizeRange"
program_kind program.TooDeep = codes "TooDeep"
program_kind program.TooLong = codes "TooLong"
program_kind program.NotFalling = codes "NotFalling"

abbrev pub refusal_text : Refusal → List ℕ
refusal_text why.Loop = codes "Loop"
refusal_text (why.NoVertex v) = codes "NoVertex " ++ decimal v
refusal_text why.VertexExists = codes "VertexExists"
refusal_text why.EdgeExists = codes "EdgeExists"
refusal_text why.NoEdge = codes "NoEdge"

abbrev pub fold_refusal_text : FoldRefusal → List ℕ
fold_refusal_text contradiction.WrongForm = codes "WrongForm"
fold_refusal_text contradiction.MixedModes = codes "MixedModes"
fold_refusal_text contradiction.OutOfOrder = codes "OutOfOrder"
fold_refusal_text contradiction.AddsPresent = codes "AddsPresent"
fold_refusal_text contradiction.RemovesAbsent = codes "RemovesAbsent"
fold_refusal_text (contradiction.WrongCount said held) =
    codes "WrongCount " ++ decimal said ++ codes " " ++ decimal held

abbrev pub input_kind : InputKind → List ℕ
input_kind input.BadLine = codes "BadLine"
input_kind (input.Update refusal) = refusal_text refusal
input_kind (input.Record refusal) = fold_refusal_text refusal
input_kind input.OpenBatch = codes "OpenBatch"
input_kind input.NotDone = codes "NotDone"

abbrev pub limit_kind : LimitKind → List ℕ
limit_kind limit.Lines = codes "Lines"
limit_kind limit.Labels = codes "Labels"
limit_kind limit.LineBytes = codes "LineBytes"
limit_kind limit.Batch = codes "Batch"
limit_kind limit.Records = codes "Records"

-- the line on standard error; there is none where a run ended well
abbrev pub status_line : Status → List ℕ
status_line status.Ok = []
status_line status.NoMemory = codes "no memory\n"
status_line status.Usage = codes "usage: tesseract COMMAND [--NAME VALUE]\n"
status_line (status.BadProgram line kind) =
    codes "program: line " ++ decimal line ++ codes ": " ++ program_kind kind ++ codes "\n"
status_line (status.BadInput line kind) =
    codes "input: line " ++ decimal line ++ codes ": " ++ input_kind kind ++ codes "\n"
status_line (status.Limit kind at) =
    codes "limit: " ++ limit_kind kind ++ codes " " ++ decimal at ++ codes "\n"
status_line status.ReadFault = codes "read fault\n"
status_line status.WriteFault = codes "write fault\n"
