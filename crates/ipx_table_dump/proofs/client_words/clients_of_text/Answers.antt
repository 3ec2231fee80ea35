use Rattle.std.proofs.Common.{◌≡◌, ℕ, Bool, true, false, not, List, length, ap, sym, ◌∙◌, arith}
use Rattle.std.specs.Str.{bytes_eq}
use Rattle.std.proofs.lemmas.Slice.Eq.{bytes_eq-Decides}
use Rattle.ipx_table_dump.specs.ClientsText.{clients_text}
use Rattle.ipx_table_dump.proofs.ClientLines.{text_back}
use Rattle.ipx_table_dump.proofs.client_words.clients_of_text.Goals.{then-len-gt-MAX_CLIENT_PLACES-via-then-len-gt-MAX_CLIENT_PLACES, then-len-gt-MAX_CLIENT_PLACES-via-else-len-gt-MAX_CLIENT_PLACES+then-ne}
use Rattle.ipx_table_dump.proofs.client_words.clients_of_text.Goals as goal

differs : (xs ys : List ℕ) (b : Bool) → xs ≡ ys → b ≡ not (bytes_eq xs ys) → b ≡ true → ⊥
differs xs ys b same is says =
    let one : bytes_eq xs ys ≡ true = (bytes_eq-Decides xs ys).1 same in
    let no : true ≡ false = sym says ∙ is ∙ ap not one in
    cc

pub returns-then-len-gt-MAX_CLIENT_PLACES-clause-back : goal.returns-then-len-gt-MAX_CLIENT_PLACES-clause-back
returns-then-len-gt-MAX_CLIENT_PLACES-clause-back c cs each is =
    let same : c.in_ok-clients.clients.items ≡ cs = text_back cs c.in_ok-clients.clients.items c.args.text.now each is c.in_ok-clients.ensures in
    elim c.then-len-gt-MAX_CLIENT_PLACES.branch [
      | then-len-gt-MAX_CLIENT_PLACES-via-then-len-gt-MAX_CLIENT_PLACES w ↦
          absurd (omega (arith, ap length same, is.few, w.if-len-gt-MAX_CLIENT_PLACES.true, c.len.ensures))
      | then-len-gt-MAX_CLIENT_PLACES-via-else-len-gt-MAX_CLIENT_PLACES+then-ne w ↦ differs w.as_bytes.result.now c.args.text.now w.ne.result (w.as_bytes.ensures.value ∙ c.in_ok-again.ensures ∙ ap clients_text (c.deref.ensures.value ∙ same) ∙ sym is.spelled) w.ne.ensures w.if-ne.true
    ]

pub returns-clause-back : goal.returns-clause-back
returns-clause-back c cs each is = text_back cs c.in_ok-clients.clients.items c.args.text.now each is c.in_ok-clients.ensures
