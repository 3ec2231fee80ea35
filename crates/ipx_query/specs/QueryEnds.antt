-- When a host that asks routers is done, and its exit status. Defined by this project.
use Rattle.std.specs.Prelude.{ℕ, ◌-◌, Bool, not, ◌&&◌, ◌||◌, nat_le, is_some, if◌then◌else◌}
use Rattle.std.specs.List.{list_all}
use Rattle.ipx_query.specs.QueryView.{AskView, asked_for}

-- each router that is asked answered; the answer of each came to its end
abbrev pub have_answered : AskView → Bool
have_answered ask = list_all (λ r. r.answered) ask.routers

abbrev pub have_ended : AskView → Bool
have_ended ask = list_all (λ r. r.ended) ask.routers

-- it is over if each answer came to its end and 200 ms passed without one, or four seconds after the first
-- query
abbrev pub is_ask_over : AskView → ℕ → Bool
is_ask_over ask now = is_some ask.begun
    && (nat_le 4000 (asked_for ask now) || (have_ended ask && nat_le 200 (now - ask.heard_at)))

-- 0 if each router answered and no table was full, otherwise 1
abbrev pub ask_status : AskView → ℕ
ask_status ask = if have_answered ask && not ask.cut then 0 else 1
