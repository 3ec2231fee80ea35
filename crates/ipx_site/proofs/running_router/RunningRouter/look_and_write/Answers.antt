use Rattle.std.proofs.Common.{◌≡◌, ◌∙◌, ℕ, Option, ap, subst, sym}
use Rattle.std.specs.Prelude.{is_some}
use Rattle.ipx_metrics.specs.MeteredRouter.{CountedView}
use Rattle.ipx_sockets.specs.Moments.{HasPassed}
use Rattle.ipx_site.specs.RouterMetrics.{with_file, with_refusal}
use Rattle.ipx_site.specs.RouterWork.{notes_of}
use Rattle.ipx_site.specs.SiteCore.{SiteCore}
use Rattle.ipx_site.specs.WorkRefusals.{IsDoneIfDue, IsRefusedIfDue, KeepsClients, LooksAtClients, LooksAtKnown, Refusals, WorkNotes}
use Rattle.ipx_site.specs.declared.client_log.ClientLog.{ClientLog}
use Rattle.ipx_site.specs.declared.clients_file.ClientsFile.{ClientsFile}
use Rattle.ipx_site.specs.declared.written_files.WrittenFile.TheVariants.{Metrics, Secret, Tables}
use Rattle.ipx_site.proofs.running_router.RunningRouter.look_and_write.Goals as goal

pub returns-clause-totals : goal.returns-clause-totals
returns-clause-totals g c =
    let now = c.args.now in
    let old = c.args.self.now in
    let looked = c.look_at_clients-clients in
    let knew = c.look-known in
    let wrote = c.write_files in
    let kept = c.keep-kept in
    let first = looked.ensures.rest in
    let then = knew.ensures.rest in
    let last = wrote.ensures.rest in
    let files = wrote.ensures.totals in
    let refused : Refusals = record { clients = looked.result; known = knew.result; tables = files.0; metrics = files.1; secret = kept.result } in
    let ports = wrote.ensures.ports ∙ knew.ensures.ports ∙ looked.ensures.ports in
    let counted = c.count_file.ensures ∙ ap (with_file Secret kept.result) (files.4 ∙ ap (λ t. with_file Metrics files.1 (with_file Tables files.0 t))
    (c.count_refusal-2.ensures ∙ ap (with_refusal knew.result) (ap (λ n. n.totals) then ∙ c.count_refusal.ensures ∙ ap (with_refusal looked.result) (ap (λ n. n.totals) first)))) in
    let knows : CountedView → WorkNotes → WorkNotes → Type 0 = λ v a b. LooksAtKnown knew.result v now a.looked b.looked a.responses b.responses a.known b.known in
    let at_core = subst (λ (k : SiteCore). knows k.core.core.core (notes_of looked.new.self) (notes_of knew.new.self)) looked.ensures.core knew.ensures.known in
    let from_old = subst (λ (n : WorkNotes). knows old.core.core.core.core n (notes_of knew.new.self)) first at_core in
    let to_new = subst (λ (n : WorkNotes). knows old.core.core.core.core (notes_of old) n) (sym last) from_old in
    let may_tables : WorkNotes → Type 0 = λ n. IsRefusedIfDue (is_some n.tables_file) (HasPassed 10000 n.written now) files.0 in
    let may_metrics : WorkNotes → Type 0 = λ n. IsRefusedIfDue (is_some n.metrics_file) (HasPassed 10000 n.written now) files.1 in
    let keeps : KeepsClients kept.result wrote.new.self.ports now wrote.new.self.clients_file kept.new.self = record {
      early = kept.ensures.early;
      looked = kept.ensures.looked;
      refused = kept.ensures.refused;
      failed = kept.ensures.failed;
      kept = kept.ensures.kept;
      rest = kept.ensures.rest;
    } in
    let at_ports = subst (λ p. KeepsClients kept.result p now wrote.new.self.clients_file kept.new.self) ports keeps in (
      refused,
      counted,
      record {
        clients = subst (λ (l : ClientLog). LooksAtClients looked.result old.ports now old.client_log l) (sym (ap (λ n. n.client_log) last ∙ ap (λ n. n.client_log) then)) looked.ensures.clients;
        known = to_new;
        tables = subst may_tables first (subst may_tables then files.2);
        metrics = subst may_metrics first (subst may_metrics then files.3);
        secret = subst (λ (f : ClientsFile). KeepsClients kept.result old.ports now f kept.new.self) (ap (λ n. n.clients_file) last ∙ ap (λ n. n.clients_file) then ∙ ap (λ n. n.clients_file) first) at_ports;
        tables_file = ap (λ n. n.tables_file) last ∙ ap (λ n. n.tables_file) then ∙ ap (λ n. n.tables_file) first;
        metrics_file = ap (λ n. n.metrics_file) last ∙ ap (λ n. n.metrics_file) then ∙ ap (λ n. n.metrics_file) first;
      },
    )

pub returns-clause-written : goal.returns-clause-written
returns-clause-written g c =
    subst (λ (at : Option ℕ). IsDoneIfDue 10000 c.args.now at c.write_files.new.self.written)
    (ap (λ n. n.written) c.look-known.ensures.rest ∙ ap (λ n. n.written) c.look_at_clients-clients.ensures.rest) c.write_files.ensures.written

pub returns-clause-warnings : goal.returns-clause-warnings
returns-clause-warnings g c =
    ap (λ n. n.warnings) c.write_files.ensures.rest ∙ ap (λ n. n.warnings) c.look-known.ensures.rest ∙ ap (λ n. n.warnings) c.look_at_clients-clients.ensures.rest

pub returns-clause-drops : goal.returns-clause-drops
returns-clause-drops g c =
    ap (λ n. n.drops) c.write_files.ensures.rest ∙ ap (λ n. n.drops) c.look-known.ensures.rest ∙ ap (λ n. n.drops) c.look_at_clients-clients.ensures.rest
