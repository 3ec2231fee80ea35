-- Under the premises of the headline, what each end handed out is a prefix of what was handed in at its peer,
-- in terms of the entries.
use Rattle.std.proofs.Common.{◌↔◌, ℕ, inl, inr}
use Rattle.spx_theory.specs.LogHeadline.{LogHeadline}
use Rattle.spx_theory.specs.LogPremises.{HavePeer, IsEnd, LogPremises}
use Rattle.spx_theory.specs.Peers.{ArePeers}
use Rattle.spx_theory.specs.PremisesRead.{PeersAreRead}
use Rattle.spx_theory.specs.Scene.{Scene}
use Rattle.ipx_net.specs.Begins.{Begins, BeginsAsRead}

pub each_begins : (s : Scene) (end : ℕ) → LogHeadline s.log → LogPremises s.log → IsEnd s.log end → Begins s.log end
each_begins s end headline premises made =
    record {
      made = made;
      begins = λ peer peers. headline.hands_on premises end peer peers;
      alone = λ none. (headline.alone_hands premises end none).1;
    }

peers_read : (s : Scene) → PeersAreRead s → (c d : ℕ) → HavePeer s.log c d → ArePeers s.log c d
peers_read s law c d peers =
    elim peers [
      | inl one ↦ inl ((law.read c d).0 one)
      | inr two ↦ inr ((law.read d c).0 two)
    ]

peers_said : (s : Scene) → PeersAreRead s → (c d : ℕ) → ArePeers s.log c d → HavePeer s.log c d
peers_said s law c d peers =
    elim peers [
      | inl one ↦ inl ((law.read c d).1 one)
      | inr two ↦ inr ((law.read d c).1 two)
    ]

to_entries : (s : Scene) → PeersAreRead s → (end : ℕ) → BeginsAsRead s.log end → Begins s.log end
to_entries s law end b =
    record {
      made = (law.ends end).1 b.made;
      begins = λ peer peers. b.begins peer (peers_read s law end peer peers);
      alone = λ none. b.alone (λ peer peers. none peer (peers_said s law end peer peers));
    }

of_entries : (s : Scene) → PeersAreRead s → (end : ℕ) → Begins s.log end → BeginsAsRead s.log end
of_entries s law end b =
    record {
      made = (law.ends end).0 b.made;
      begins = λ peer peers. b.begins peer (peers_said s law end peer peers);
      alone = λ none. b.alone (λ peer peers. none peer (peers_read s law end peer peers));
    }

-- an answer to the one is an answer to the other
pub begins_said : (P : Type 0) (s : Scene) → PeersAreRead s → (end : ℕ) → (P ↔ BeginsAsRead s.log end) → P ↔ Begins s.log end
begins_said P s law end is = (λ p. to_entries s law end (is.0 p), λ b. is.1 (of_entries s law end b))
