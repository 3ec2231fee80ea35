use Rattle.std.proofs.Common.{refl}
use Rattle.spx_link.proofs.Coming.{no_take, taken_polled, taken_received, taken_taken}
use Rattle.spx_link.proofs.courses.taken_and_held_are_expected.Goals as goal

pub returns : goal.returns
returns c =
    record {
      dialed = λ own s a buffers now. refl;
      accepted = λ own s a h buffers now. refl;
      poll = λ l now taken has. taken_polled l now taken has;
      receive = λ l h body taken has. taken_received l h body taken has;
      offer = λ l us taken has. has;
      end = λ l taken has. has;
      take = λ l u taken some has. taken_taken l u taken some has;
      no_take = λ l none. no_take l none;
      owe_reply = λ l taken has. has;
      lose = λ l taken has. has;
      pace = λ l window manual taken has. has;
      again = λ l place taken has. has;
    }
