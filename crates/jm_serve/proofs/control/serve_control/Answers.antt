use Rattle.jm_serve.proofs.control.serve_control.Goals as goal

pub returns-clause-serves : goal.returns-clause-serves
returns-clause-serves g c = record { calls = c.serve-end.new.worker.call; rounds = c.serve-end.ensures.makes }
