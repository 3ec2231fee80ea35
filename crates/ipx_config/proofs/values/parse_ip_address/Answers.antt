-- what reads as an address has a text that the parser takes
use Rattle.std.proofs.Common.{◌≡◌, sym, ◌∙◌}
use Rattle.std.proofs.lemmas.Option.{same_Some}
use Rattle.ipx_config.proofs.values.parse_ip_address.Goals as goal

pub returns-in-Err : goal.returns-in-Err
returns-in-Err c a (text, is_text, dotted, set) =
    let same : text ≡ c.in_ok-text.text.now = sym (same_Some c.in_ok-text.text.now text (c.in_ok-text.ensures ∙ is_text)) in
    c.in-Err.ensures.value (record { octets = a }) (rw (← same) dotted)
