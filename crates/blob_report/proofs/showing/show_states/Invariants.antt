use Rattle.std.proofs.Common.{take}
use Rattle.std.specs.FinMap.{entries}
use Rattle.blob_report.specs.Ends.{HasPrinted}
use Rattle.blob_report.specs.Reports.{states_text}
use Rattle.blob_report.proofs.showing.show_states.Given as goal

-- the lines of the first states are printed
abbrev pub invariant-shown : goal.invariant-shown
invariant-shown g l = HasPrinted g.K.Sink (states_text (take l.i (entries l.relation.states))) l.fn.sink l.sink
