use Rattle.std.proofs.Common.{ap, subst, sym, ◌∙◌}
use Rattle.ipx_sockets.specs.Moments.{AreLoggedIfDue, IsLoggedIfDue}
use Rattle.ipx_site.specs.FrameLog.{AreMistakesLogged}
use Rattle.ipx_site.specs.TunnelLog.{drop_counts}
use Rattle.ipx_site.specs.declared.frame_log.FrameLog.{FrameLog}
use Rattle.ipx_site.specs.declared.tunnel_log.TunnelLog.{TunnelLog}
use Rattle.ipx_site.specs.declared.drop_log.DropLog.{DropLog}
use Rattle.ipx_sockets.specs.declared.throttled_log.ThrottledLog.{ThrottledLog}
use Rattle.ipx_site.proofs.drop_log.DropLog.tell.Goals as goal

pub returns : goal.returns
returns g c =
    let r = c.tell_router_drops.ensures in
    let s = c.tell_source_drops.ensures in
    let new = c.tell_source_drops.new.self in
    let old = c.args.self.now in
    let now = c.args.now in
    let of = c.args.outcomes.now in
    record {
      bad = subst (λ (l : ThrottledLog). IsLoggedIfDue of.bad now old.bad l) (sym (ap (λ (d : DropLog). d.bad) s.rest)) r.bad;
      not_ours = subst (λ (l : ThrottledLog). IsLoggedIfDue of.not_ours now old.not_ours l) (sym (ap (λ (d : DropLog). d.not_ours) s.rest)) r.not_ours;
      no_route = subst (λ (l : ThrottledLog). IsLoggedIfDue of.no_route now old.no_route l) (sym (ap (λ (d : DropLog). d.no_route) s.rest)) r.no_route;
      hop_limit = subst (λ (l : ThrottledLog). IsLoggedIfDue of.hop_limit now old.hop_limit l) (sym (ap (λ (d : DropLog). d.hop_limit) s.rest)) r.hop_limit;
      bad_control = subst (λ (l : ThrottledLog). IsLoggedIfDue of.bad_control now old.bad_control l) (sym (ap (λ (d : DropLog). d.bad_control) s.rest)) r.bad_control;
      forwarded_control = subst (λ (l : ThrottledLog). IsLoggedIfDue c.args.source.forwarded_control.count now l new.forwarded_control) (ap (λ (d : DropLog). d.forwarded_control) r.rest) s.forwarded_control;
      group_source = subst (λ (l : ThrottledLog). IsLoggedIfDue c.args.source.group_source.count now l new.group_source) (ap (λ (d : DropLog). d.group_source) r.rest) s.group_source;
      looped_source = subst (λ (l : ThrottledLog). IsLoggedIfDue c.args.source.looped_source.count now l new.looped_source) (ap (λ (d : DropLog). d.looped_source) r.rest) s.looped_source;
      at_tunnels = subst (λ (l : TunnelLog). AreLoggedIfDue (drop_counts c.args.ports.now.ethernet.sockets.ethernet.items c.args.ports.now.port_indices.items) now l.ports c.tell.new.self.ports)
          (ap (λ (d : DropLog). d.tunnels) s.rest ∙ ap (λ (d : DropLog). d.tunnels) r.rest) c.tell.ensures;
      frames = subst (λ (l : FrameLog). AreMistakesLogged c.args.ports.now.ethernet.switches.items c.args.ports.now.port_indices.items now l c.tell-2.new.self)
          (ap (λ (d : DropLog). d.frames) s.rest ∙ ap (λ (d : DropLog). d.frames) r.rest) c.tell-2.ensures;
    }
