use Rattle.ae_tool.proofs.Calls.{outcome_of, part_written, ended, usage_words, other_words_refused, read_fault, write_fault, memory_told, rest_left, completes, demo_completes, takes_nothing}
use Rattle.ae_tool.proofs.call.aeth.Goals as goal

pub returns-clause-outcome : goal.returns-clause-outcome
returns-clause-outcome g c h = outcome_of _ _ _ _ _ _ c.serve.ensures h

pub returns-clause-part : goal.returns-clause-part
returns-clause-part g c = part_written _ _ _ _ _ _ c.serve.ensures

pub returns-clause-ended : goal.returns-clause-ended
returns-clause-ended g c w m = (ended _ _ _ _ _ _ c.serve.ensures w m).once

pub returns-clause-no_fault : goal.returns-clause-no_fault
returns-clause-no_fault g c w m = (ended _ _ _ _ _ _ c.serve.ensures w m).no_fault

pub returns-clause-no_want : goal.returns-clause-no_want
returns-clause-no_want g c w m = (ended _ _ _ _ _ _ c.serve.ensures w m).no_want

pub returns-clause-usage : goal.returns-clause-usage
returns-clause-usage g c = usage_words _ _ _ _ _ _ c.serve.ensures

pub returns-clause-other_words : goal.returns-clause-other_words
returns-clause-other_words g c h = (other_words_refused _ _ _ _ _ _ c.serve.ensures h).0

pub returns-clause-untouched : goal.returns-clause-untouched
returns-clause-untouched g c h = let w = other_words_refused _ _ _ _ _ _ c.serve.ensures h in (w.1, w.2)

pub returns-clause-read : goal.returns-clause-read
returns-clause-read g c h = (read_fault _ _ _ _ _ _ c.serve.ensures h).0

pub returns-clause-read_line : goal.returns-clause-read_line
returns-clause-read_line g c h = (read_fault _ _ _ _ _ _ c.serve.ensures h).1

pub returns-clause-write : goal.returns-clause-write
returns-clause-write g c = write_fault _ _ _ _ _ _ c.serve.ensures

pub returns-clause-memory : goal.returns-clause-memory
returns-clause-memory g c = memory_told _ _ _ _ _ _ c.serve.ensures

pub returns-clause-left : goal.returns-clause-left
returns-clause-left g c = rest_left _ _ _ _ _ _ c.serve.ensures

pub returns-clause-complete : goal.returns-clause-complete
returns-clause-complete g c command job read written i = completes _ _ _ _ _ _ c.serve.ensures command job read written i

pub returns-clause-demo : goal.returns-clause-demo
returns-clause-demo g c size job written = demo_completes _ _ _ _ _ _ c.serve.ensures size job written

pub returns-clause-takes_nothing : goal.returns-clause-takes_nothing
returns-clause-takes_nothing g c size job = takes_nothing _ _ _ _ _ _ c.serve.ensures size job
