use Rattle.std.proofs.Common.{refl}
use Rattle.spx_link.proofs.Keeping.{poll_keeps, receive_keeps, take_keeps}
use Rattle.spx_link.proofs.Unpaced.{poll_so}
use Rattle.spx_link.proofs.by_clock.unpaced_links_go_by_the_clock.Goals as goal

pub returns : goal.returns
returns c =
    record {
      poll = λ l now u. poll_so l now u;
      dialed = λ own s a buffers now. record { window = refl; manual = refl };
      accepted = λ own s a h buffers now. record { window = refl; manual = refl };
      polled = λ l now. (poll_keeps l now).pace;
      receive = λ l h body. (receive_keeps l h body).pace;
      offer = λ l us. refl;
      end = λ l. refl;
      take = λ l. (take_keeps l).pace;
      owe_reply = λ l. refl;
      lose = λ l. refl;
      again = λ l place. refl;
    }
