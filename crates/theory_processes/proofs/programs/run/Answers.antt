use Rattle.theory_processes.proofs.programs.run.Goals as goal

pub returns : goal.returns
returns g c = c.rounds_are_calls.ensures.run _ _ _ c.run_router.ensures.runs
