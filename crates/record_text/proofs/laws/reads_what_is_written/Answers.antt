use Rattle.record_text.proofs.Written.{rem_written, new_written, done_written, head_written}
use Rattle.record_text.proofs.laws.reads_what_is_written.Goals as goal

pub returns-clause-removed : goal.returns-clause-removed
returns-clause-removed c = λ t piece line fits can is. (rem_written t piece line fits can is).reads

pub returns-clause-added : goal.returns-clause-added
returns-clause-added c = λ t piece line fits can is. (new_written t piece line fits can is).reads

pub returns-clause-done : goal.returns-clause-done
returns-clause-done c = λ t count line fits few is. (done_written t count line fits few is).reads

pub returns-clause-head : goal.returns-clause-head
returns-clause-head c = λ line is. (head_written line is).reads
