use Rattle.blob_report.proofs.formatting.run_format.Goals as goal

pub returns-in-Ok-print-clause-reads : goal.returns-in-Ok-print-clause-reads
returns-in-Ok-print-clause-reads g c = λ tells done. c.in-Ok.ensures.reads tells
