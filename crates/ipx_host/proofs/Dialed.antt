-- What a host that dials keeps of its address.
use Rattle.std.proofs.Common.{refl, ◌∙◌}
use Rattle.spx_messages.specs.Changes.{SameSelf}
use Rattle.spx_messages.specs.EndpointView.{EndpointView}

pub same_self : (a : EndpointView) → SameSelf a a
same_self a = record { network = refl; node = refl; router = refl; buffers = λ s. refl }

pub same_on : (a b c : EndpointView) → SameSelf a b → SameSelf b c → SameSelf a c
same_on a b c p q = record {
  network = q.network ∙ p.network;
  node = q.node ∙ p.node;
  router = q.router ∙ p.router;
  buffers = λ s. q.buffers s ∙ p.buffers s;
}
