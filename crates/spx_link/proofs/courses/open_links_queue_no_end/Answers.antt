use Rattle.std.proofs.Common.{refl}
use Rattle.spx_link.proofs.Coming.{no_end_polled, no_end_received, no_end_taken}
use Rattle.spx_link.proofs.courses.open_links_queue_no_end.Goals as goal

pub returns : goal.returns
returns c =
    record {
      dialed = λ own s a buffers now early. refl;
      accepted = λ own s a h buffers now early. refl;
      poll = λ l now has. no_end_polled l now has;
      receive = λ l h body has. no_end_received l h body has;
      offer = λ l us has. has;
      end = λ l early. absurd (cc);
      take = λ l has. no_end_taken l has;
      owe_reply = λ l has. has;
      lose = λ l early. absurd (cc);
      pace = λ l window manual has. has;
      again = λ l place has. has;
    }
