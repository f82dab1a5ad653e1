use Rattle.cc_base.proofs.memory.SwappedFilesFiles.load.Goals as goal

pub returns-in-None-clause-quiet : goal.returns-in-None-clause-quiet
returns-in-None-clause-quiet c = λ calm.
    let still = c.load.ensures.quiet calm in
    (still.0, record { load_faults = still.1.load_faults; store_faults = still.1.store_faults }, still.2)
