use Rattle.ipx_wire.proofs.ByteLists.{IsBytes-address, IsBytes-append, IsBytes-drop, IsBytes-number}
use Rattle.ipx_wire.proofs.RoundTrip.{address_more, address_read, number_more, same_address}
use Rattle.ipx_wire.proofs.Spelled.{address_alike, four_alike, two_alike}
use Rattle.ipx_wire.proofs.laws.field_laws.Goals as goal

pub returns : goal.returns
returns c = record {
  bytes = record { behind = IsBytes-drop; joined = IsBytes-append };
  numbers = record { before_any_bytes = number_more; has_bytes = IsBytes-number; two_are_one_list = two_alike; four_are_one_list = four_alike };
  addresses = record { is_one = same_address; is_read = address_read; has_bytes = IsBytes-address; before_any_bytes = address_more; are_one_list = address_alike };
}
