use Rattle.std.proofs.Common.{ℕ, List, subst, sym}
use Rattle.toml.specs.View.{view}
use Rattle.ip_prefixes.specs.Prefixes.{ReadsPrefix}
use Rattle.ipx_config.proofs.PeerTexts.{prefix_reads}
use Rattle.ipx_config.proofs.ipxnet_peers.prefix_of.Goals as goal

pub returns-in_ok-as_str-in-None : goal.returns-in_ok-as_str-in-None
returns-in_ok-as_str-in-None c =
    prefix_reads (view c.args.value.now) c.in_ok-as_str-in-None.field-0.now (sym c.in_ok-as_str-in-None.ensures) c.in-None.ensures c.parse.result
    (subst (λ (it : List ℕ). ReadsPrefix it c.parse.result) c.as_bytes.ensures.value c.parse.ensures)
