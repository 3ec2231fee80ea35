use Rattle.ipx_net.proofs.log_index.LogIndex.read.Goals as goal

pub returns-in-Opened-clause-scan : goal.returns-in-Opened-clause-scan
returns-in-Opened-clause-scan c = rw c.in-Opened.is (c.open.ensures.scan 0 0)

pub returns-in-Unit-clause-scan : goal.returns-in-Unit-clause-scan
returns-in-Unit-clause-scan c = rw c.in-Unit.is (c.add_unit.ensures.scan 0)

pub returns-in-Carried-clause-scan : goal.returns-in-Carried-clause-scan
returns-in-Carried-clause-scan c = rw c.in-Carried.is (c.carry.ensures.scan 0)
