-- What was written of a header, and what was read of one.
use Rattle.std.proofs.Common.{◌≡◌, ◌<◌, ◌≤◌, ℕ, ◌-◌, ◌%◌, List, ◌++◌, length, take, drop, true, sym, ap, ◌∙◌, subst, append_assoc}
use Rattle.std.proofs.lemmas.List.{take_rest}
use Rattle.std.proofs.lemmas.Slice.Eq.{bytes_eq-Decides}
use Rattle.std.specs.Prelude.{slice_index}
use Rattle.byteorder.specs.Endian.{big_number}
use Rattle.ipx_wire.specs.Ipx.{IsWritten}
use Rattle.ipx_tunnels.specs.declared.tunnel.Session.{Session}
use Rattle.ipx_tunnels.specs.Tunnels.{IsL2tpv3, cookie_bytes, session_size}
use Rattle.ipx_tunnels.specs.TunnelFaults.{is_cookie_there}

-- four fields were written, one after the other
pub four_fields : (old begin id cookie more id' cookie' more' xs : List ℕ) (k : ℕ) → IsWritten old (((begin ++ id) ++ cookie) ++ more) xs k
    → id ≡ id' → cookie ≡ cookie' → more ≡ more' → IsWritten old (begin ++ id' ++ cookie' ++ more') xs k
four_fields old begin id cookie more id' cookie' more' xs k was e f g =
    let a = append_assoc (begin ++ id) cookie more in
    let b = append_assoc begin id (cookie ++ more) in
    let same : ((begin ++ id) ++ cookie) ++ more ≡ begin ++ id' ++ cookie' ++ more' = cc in
    subst (λ (written : List ℕ). IsWritten old written xs k) same was

-- a datagram of a session was read
pub read_session : (s : Session) (bytes : List ℕ) (size id : ℕ) → size ≡ session_size s → size ≤ length bytes → slice_index bytes 0 < 128 → slice_index bytes 1 % 16 ≡ 3
    → id ≡ big_number 4 (take (length bytes - 4) (drop 4 bytes)) → id ≡ s.id → is_cookie_there s bytes ≡ true
    → IsL2tpv3 s bytes (take (length bytes - size) (drop size bytes))
read_session s bytes size id is_size whole is_data version reads is_id there = record {
  whole = subst (λ (n : ℕ). n ≤ length bytes) is_size whole;
  data_bit = is_data;
  version = version;
  session = sym (ap (big_number 4) (take_rest bytes 4)) ∙ sym reads ∙ is_id;
  cookie = sym ((bytes_eq-Decides (cookie_bytes s.cookie) (take (length (cookie_bytes s.cookie)) (drop 8 bytes))).0 there);
  held = ap (λ (n : ℕ). drop n bytes) (sym is_size) ∙ sym (take_rest bytes size);
}
