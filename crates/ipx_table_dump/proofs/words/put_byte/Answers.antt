use Rattle.std.proofs.Common.{◌≡◌, ◌++◌, ◌∷◌, [], ◌∙◌, ap, rules, string_bytes}
use Rattle.std.specs.Prelude.{OnOk}
use Rattle.ipx_table_dump.proofs.Rows.{byte_more}
use Rattle.ipx_table_dump.proofs.words.put_byte.Goals as goal

pub returns : goal.returns
returns c =
    let first : string_bytes c.push.new.self ≡ string_bytes c.args.text.now ++ c.digit_in.result ∷ [] =
    c.in_ok-push.ensures.bytes ∙ ap (λ t. string_bytes c.args.text.now ++ t) (c.push.ensures.ascii c.digit_in.ensures.ascii) in
    let second : OnOk c.push-2.result (string_bytes c.push-2.new.self ≡ string_bytes c.push.new.self ++ c.digit_in-2.result ∷ []) = search rules in
    byte_more c.push-2.result (string_bytes c.args.text.now) (string_bytes c.push.new.self) (string_bytes c.push-2.new.self) c.args.byte c.digit_in.result c.digit_in-2.result
    c.digit_in.ensures.digit c.digit_in-2.ensures.digit first second
