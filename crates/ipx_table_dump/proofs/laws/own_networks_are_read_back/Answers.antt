use Rattle.std.proofs.Common.{ap, ◌∙◌}
use Rattle.ipx_table_dump.specs.TableParts.{are_all_titles, own_networks_read, titles_read}
use Rattle.ipx_table_dump.proofs.OwnBack.{owns_read_back, titles_read_back}
use Rattle.ipx_table_dump.proofs.laws.own_networks_are_read_back.Goals as goal

pub returns-clause-networks : goal.returns-clause-networks
returns-clause-networks c ports routes services now text t =
    ap own_networks_read t.spelled ∙ owns_read_back ports now t.known

pub returns-clause-titles : goal.returns-clause-titles
returns-clause-titles c ports routes services now text t =
    ap are_all_titles (ap titles_read t.spelled ∙ titles_read_back ports now t.known)
