use Rattle.std.proofs.Common.{string_bytes}
use Rattle.std.specs.Prelude.{codes}
use Rattle.ipx_inspect.specs.ShowLine.{address_text, name_text, word_text}
use Rattle.ipx_table_dump.proofs.Rows.{parts_joined}
use Rattle.ipx_table_dump.proofs.service_lines.put_place.Goals as goal

pub returns : goal.returns
returns c =
    parts_joined c.put_address.result (string_bytes c.args.text.now) (string_bytes c.put_short.new.text) (string_bytes c.push_str.new.self) (string_bytes c.put_name.new.text)
    (string_bytes c.push_str-2.new.self) (string_bytes c.put_address.new.text)
    (word_text c.args.key.now.kind) (codes " ") (name_text c.args.key.now.name) (codes " at ") (address_text c.args.at)
    c.in_ok-put_short.ensures c.in_ok-push_str.ensures.bytes c.in_ok-put_name.ensures c.in_ok-push_str-2.ensures.bytes c.put_address.ensures
