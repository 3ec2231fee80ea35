-- The list of entries in bytes: each entry is read from the bytes when needed, and none is stored.
use Rattle.std.specs.Prelude.{ℕ, zero, suc, ◌/◌, List, [], ◌∷◌, length, take, drop}
use Rattle.ipx_wire.specs.Ipx.{number}
use Rattle.ipx_control.specs.declared.rip.packet.RipEntry.{RipEntry}
use Rattle.ipx_control.specs.declared.sap.packet.ServiceEntry.{ServiceEntry}

module _ {E : Type 0} (entry_in : List ℕ → E) (size : ℕ) where
  -- the first n entries, of `size` bytes each
  abbrev pub first_entries : ℕ → List ℕ → List E
  first_entries zero bytes = []
  first_entries (suc n) bytes = entry_in bytes ∷ first_entries n (drop size bytes)

  -- all whole entries in the bytes
  abbrev pub whole_entries : List ℕ → List E
  whole_entries bytes = first_entries (length bytes / size) bytes

-- the entry at the front of bytes: network 4 bytes, hops 2, ticks 2
abbrev pub rip_entry_in : List ℕ → RipEntry
rip_entry_in bytes = record {
  network = record { 0 = number 4 0 bytes };
  hops = number 2 4 bytes;
  ticks = number 2 6 bytes;
}

abbrev pub rip_entries_in : List ℕ → List RipEntry
rip_entries_in = whole_entries rip_entry_in 8

-- the service at the front of bytes: type 2 bytes, name 48, network 4, node 6, socket 2, hops 2
abbrev pub service_in : List ℕ → ServiceEntry
service_in bytes = record {
  kind = number 2 0 bytes;
  name = take 48 (drop 2 bytes);
  at = record {
    network = record { 0 = number 4 0 (drop 50 bytes) };
    node = record { 0 = take 6 (drop 4 (drop 50 bytes)) };
    socket = record { 0 = number 2 10 (drop 50 bytes) };
  };
  hops = number 2 62 bytes;
}

abbrev pub service_entries_in : List ℕ → List ServiceEntry
service_entries_in = whole_entries service_in 64
