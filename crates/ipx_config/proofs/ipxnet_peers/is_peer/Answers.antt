use Rattle.std.proofs.Common.{◌∙◌, ap, inl, inr, sym}
use Rattle.std.proofs.lemmas.Option.{same_Some}
use Rattle.ipx_config.specs.IpxnetPeers.{is_host_name}
use Rattle.ipx_config.proofs.ipxnet_peers.is_peer.Goals as goal

pub returns-in-Some-as_str-clause-peer : goal.returns-in-Some-as_str-clause-peer
returns-in-Some-as_str-clause-peer c = λ is.
    elim is [
      | inl w ↦ absurd (c.in-None.ensures w.0 w.1)
      | inr w ↦ c.is_host_name.ensures
          ∙ ap is_host_name (c.as_bytes.ensures.value ∙ sym (same_Some w.0 _ (sym w.1 ∙ sym c.in-Some-as_str.ensures))) ∙ w.2
    ]
