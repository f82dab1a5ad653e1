use Rattle.cc_base.proofs.memory.SwappedFilesFiles.store.Goals as goal

pub returns-clause-quiet : goal.returns-clause-quiet
returns-clause-quiet c = λ calm.
    let still = c.store.ensures.quiet calm in
    (still.0, record { load_faults = still.1.load_faults; store_faults = still.1.store_faults }, still.2)
