use Rattle.pit_run.proofs.threads.fn.run_scoped.scope+FnOnce.call_once.Goals as goal

-- what the bounds say comes first here, and last there
pub scope-requires : goal.scope-requires
scope-requires g c =
    let asked = c.requires.1.1.1.1.1 in
    let bounds = asked.1 in
    (bounds.0, (bounds.1, (bounds.2, (bounds.3, (bounds.4, (bounds.5, (bounds.6, (bounds.7, (bounds.8, asked.0)))))))))
