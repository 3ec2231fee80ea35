-- The index of a log, as the code keeps it.
use Rattle.std.specs.Prelude.{ℕ, ◌≤◌, ◌+◌, map, vec_len, vec_capacity}
use Rattle.spx_theory.specs.Scan.{Scan}
use Rattle.ipx_net.specs.declared.parcel_origin.Maker.{Maker}
use Rattle.ipx_net.specs.declared.parcel_origin.ParcelOrigin.{ParcelOrigin}
use Rattle.ipx_net.specs.declared.reading.Reading.{Reading}
use Rattle.ipx_net.specs.declared.role.Role.{Role}
use Rattle.ipx_net.specs.declared.log_index.LogIndex.{LogIndex}
use Rattle.ipx_net.specs.declared.parcel_origin.Maker.TheVariants as Makers
use Rattle.spx_theory.specs.Scan as Scans

abbrev pub maker_view : Maker → Scans.Maker
maker_view (Makers.ByUnit who) = Scans.ByUnit who
maker_view (Makers.BySystem who) = Scans.BySystem who
maker_view (Makers.ByRouter router) = Scans.ByRouter router
maker_view Makers.FromOutside = Scans.FromOutside

abbrev pub mark_view : ParcelOrigin → Scans.Mark
mark_view m =
    record { origin = m.origin; maker = maker_view m.maker; passed = m.passed; units = m.units }

abbrev pub reading_view : Reading → Scans.Reading
reading_view r =
    record { who = r.who; maker = maker_view r.maker; from = r.from; to = r.to; first = r.first }

abbrev pub role_view : Role → Scans.Role
role_view r =
    record { buffers = r.buffers; called = r.called; joined = r.joined; partner = r.partner }

abbrev pub scan_of : LogIndex → Scan
scan_of s =
    record {
      marks = map mark_view s.marks.items;
      sent = s.sent.items;
      readings = map reading_view s.readings.items;
      roles = map role_view s.roles.items;
      newest = s.newest;
    }

-- space for so many more of each
pub record HasSpace (more : ℕ) (s : LogIndex) : Type 0 where
  pub marks : vec_len s.marks + more ≤ vec_capacity s.marks
  pub sent : vec_len s.sent + more ≤ vec_capacity s.sent
  pub readings : vec_len s.readings + more ≤ vec_capacity s.readings
  pub roles : vec_len s.roles + more ≤ vec_capacity s.roles
