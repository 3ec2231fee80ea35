use Rattle.ipx_query.proofs.query_core.QueryCore.networks.Goals as goal

pub returns-clause-listed : goal.returns-clause-listed
returns-clause-listed c = rw (← c.self.view_is) c.list.ensures.listed

pub returns-clause-no_memory_if_none : goal.returns-clause-no_memory_if_none
returns-clause-no_memory_if_none c = rw (← c.self.view_is) c.list.ensures.no_memory_if_none
