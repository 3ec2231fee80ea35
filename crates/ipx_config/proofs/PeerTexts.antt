-- which texts are peers of an ipxnet port
use Rattle.std.proofs.Common.{String, ◌≡◌, ◌∙◌, ℕ, List, Option, Some, None, inl, inr, subst, sym}
use Rattle.std.proofs.lemmas.Option.{same_Some}
use Rattle.std.specs.Global.{Global}
use Rattle.toml.specs.Data.{Data, as_str}
use Rattle.ip_prefixes.specs.Prefixes.{ReadsPrefix, WritesPrefix}
use Rattle.ip_prefixes.specs.declared.prefix.Prefix.{Prefix as IpPrefix}
use Rattle.ipx_config.specs.declared.ipxnet_port.Peer.{Peer}
use Rattle.ipx_config.specs.Fields.{Reads}
use Rattle.ipx_config.specs.IpxnetPeers.{IsHostName, IsPeer, IsPrefix}
use Rattle.ipx_config.specs.Values.{IsIpAddress}

-- what a text that is no IP address reads as a prefix
pub prefix_reads : (d : Data) (text : List ℕ) → as_str d ≡ Some text → ((ip : List ℕ) → IsIpAddress d ip → ⊥)
    → (r : Option IpPrefix) → ReadsPrefix text r → Reads IsPrefix d r
prefix_reads d text is none None reads = λ p h.
    elim h [
      | inl w ↦ none w.0 w.1
      | inr w ↦ reads p (subst (λ (t : List ℕ). WritesPrefix t p) (same_Some w.0 text (sym w.1 ∙ is)) w.2)
    ]
prefix_reads d text is none (Some p) reads = inr (text, is, reads)

-- what is neither a prefix nor a name is no peer
pub no_peer : (d : Data) → ((p : IpPrefix) → IsPrefix d p → ⊥) → ((name : String Global) → IsHostName d name → ⊥)
    → (peer : Peer) → IsPeer d peer → ⊥
no_peer d prefix name peer h = elim h [ inl w ↦ prefix w.0 w.2 | inr w ↦ name w.0 w.2 ]
