-- When a host that pings is done, and its exit status. Defined by this project.
use Rattle.std.specs.Prelude.{ℕ, ◌-◌, ◌==◌, ◌||◌, ◌&&◌, Bool, nat_le, is_some, None, if◌then◌else◌}
use Rattle.ipx_wire.specs.declared.address.Address.{Address}
use Rattle.ipx_wire.specs.declared.address.Node.{Node}
use Rattle.ipx_query.specs.declared.ping_core.PingCore.{PingCore}

-- nothing was sent or received yet
abbrev pub new_ping : Address → Node → Address → ℕ → ℕ → PingCore
new_ping own router to id count = record {
  own = own;
  router = router;
  to = to;
  id = id;
  count = count;
  sent = 0;
  sent_at = 0;
  answered = 0;
  hops = None;
  passed = 0;
}

-- it is over if all requests were sent, and the last was answered or two seconds passed since
abbrev pub is_ping_over : PingCore → ℕ → Bool
is_ping_over p now = nat_le p.count p.sent
    && ((p.sent == 0) || (is_some p.hops || nat_le 2000 (now - p.sent_at)))

-- 0 if a request was answered, otherwise 1
abbrev pub ping_status : PingCore → ℕ
ping_status p = if p.answered == 0 then 1 else 0
