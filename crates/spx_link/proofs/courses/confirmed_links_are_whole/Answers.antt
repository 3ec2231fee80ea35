use Rattle.std.proofs.Common.{refl}
use Rattle.spx_link.specs.Offer.{offer_link}
use Rattle.spx_link.proofs.Coming.{whole_offered, whole_polled, whole_received, whole_taken}
use Rattle.spx_link.proofs.courses.confirmed_links_are_whole.Goals as goal

pub returns : goal.returns
returns c =
    record {
      dialed = λ own s a buffers now is. absurd (cc);
      accepted = λ own s a h buffers now is. absurd (cc);
      poll = λ l now has. whole_polled l now has;
      receive = λ l h body has. whole_received l h body has;
      offer = λ l us none. whole_offered l (offer_link l us) refl none;
      end = λ l is. absurd (cc);
      take = λ l has. whole_taken l has;
      owe_reply = λ l has is. record { end_queued = (has is).end_queued; queue = (has is).queue };
      lose = λ l is. absurd (cc);
      pace = λ l window manual has is. record { end_queued = (has is).end_queued; queue = (has is).queue };
      again = λ l place has is. record { end_queued = (has is).end_queued; queue = (has is).queue };
    }
