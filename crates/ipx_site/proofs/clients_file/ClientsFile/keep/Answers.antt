use Rattle.std.proofs.Common.{◌∙◌, List, ap, inl, inr, refl, subst}
use Rattle.ipx_site.specs.ClientsFile.{AreHeardLast}
use Rattle.ipxnet_server.specs.ServerHears.{ServerView}
use Rattle.ipx_site.proofs.clients_file.ClientsFile.keep.Goals as goal

-- it lists those that were heard last
pub returns-in-Ok-None-clause-kept : goal.returns-in-Ok-None-clause-kept
returns-in-Ok-None-clause-kept g c = λ due.
    let at_ports = c.servers-2.ensures ∙ ap (λ s. s.servers.items) c.servers.ensures in
    let same = c.in-Ok-None.ensures.same c.in-Ok-None.field-0-is in
    (same.0, subst (λ (servers : List ServerView). AreHeardLast servers same.0) at_ports same.1, inl (same.2, refl, refl))

-- it listed others
pub returns-clause-kept : goal.returns-clause-kept
returns-clause-kept g c = λ due.
    let at_ports = c.servers-2.ensures ∙ ap (λ s. s.servers.items) c.servers.ensures in
    let heard = c.in-Ok-Some.list.clients.items in
    let list = rw c.in-Ok-Some.field-0-is at c.in-Ok-Some.ensures.list in
    let others = rw c.in-Ok-Some.field-0-is at c.in-Ok-Some.ensures.others in
    (heard, subst (λ (servers : List ServerView). AreHeardLast servers heard) at_ports list.0, inr (others, refl, refl))
