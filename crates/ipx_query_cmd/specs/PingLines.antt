-- What an operator is shown of a ping: a line for each request, and a last line. Defined by this project. The
-- entry points are `ping_news`, `news_text` and `ping_end_text`.
use Rattle.std.specs.Prelude.{ℕ, ◌+◌, ◌/◌, ◌==◌, ◌&&◌, List, [], ◌∷◌, ◌++◌, Option, Some, None, codes, if◌then◌else◌, is_none, length, max, min, nat_lt, not}
use Rattle.std.specs.Fmt.{decimal}
use Rattle.ipx_wire.specs.declared.address.Address.{Address}
use Rattle.ipx_query.specs.declared.ping_core.PingCore.{PingCore}
use Rattle.ipx_query_cmd.specs.OperatorLines.{network_digits, node_digits, socket_digits, tenths_text, count_with_noun}
use Rattle.ipx_query_cmd.specs.declared.ping_event.PingAnswer.{PingAnswer}
use Rattle.ipx_query_cmd.specs.declared.ping_event.PingEvent.{PingEvent}
use Rattle.ipx_query_cmd.specs.declared.ping_event.PingEvent.TheVariants.{Answered, Unanswered}

-- ---- events

-- the latest request has no answer, if one was sent
abbrev pub unanswered : PingCore → Option PingEvent
unanswered p = if nat_lt 0 p.sent && is_none p.hops then Some (Unanswered p.sent) else None

-- the event of a turn. It is an answer to the latest request, after this many tenths of a millisecond. Or the
-- next request was sent, and the latest one before it had no answer
abbrev pub ping_news : PingCore → PingCore → ℕ → Option PingEvent
ping_news old new tenths =
    if not (new.answered == old.answered) then Some (Answered (record {
      number = old.sent;
      tenths = tenths;
      routers = new.passed;
    }))
    else (if not (new.sent == old.sent) then unanswered old else None)

-- the time of an answer
abbrev pub news_times : Option PingEvent → List ℕ
news_times None = []
news_times (Some (Unanswered number)) = []
news_times (Some (Answered answer)) = answer.tenths ∷ []

-- ---- lines

-- the listener's address, which begins each line
abbrev pub pinged_text : Address → List ℕ
pinged_text to =
    network_digits to.network ++ (codes " " ++ (node_digits to.node ++ (codes " "
    ++ socket_digits to.socket)))

abbrev pub ping_line : Address → PingAnswer → List ℕ
ping_line to answer =
    pinged_text to ++ (codes ": answer " ++ (decimal answer.number ++ (codes " in "
    ++ (tenths_text answer.tenths ++ (codes ", "
    ++ (count_with_noun answer.routers (codes "1 router") (codes " routers") ++ codes "\n"))))))

abbrev pub no_answer_line : Address → ℕ → List ℕ
no_answer_line to number =
    pinged_text to ++ (codes ": no answer " ++ (decimal number ++ codes "\n"))

abbrev pub news_text : Address → Option PingEvent → List ℕ
news_text to None = []
news_text to (Some (Answered answer)) = ping_line to answer
news_text to (Some (Unanswered number)) = no_answer_line to number

-- ---- the last lines

-- the least, the greatest, and the sum of times
abbrev pub least_time : List ℕ → ℕ
least_time [] = 0
least_time (t ∷ []) = t
least_time (t ∷ u ∷ us) = min t (least_time (u ∷ us))

abbrev pub most_time : List ℕ → ℕ
most_time [] = 0
most_time (t ∷ ts) = max t (most_time ts)

abbrev pub whole_time : List ℕ → ℕ
whole_time [] = 0
whole_time (t ∷ ts) = t + whole_time ts

-- the mean is rounded down to a tenth
abbrev pub times_text : List ℕ → List ℕ
times_text times = if length times == 0 then [] else
    codes ", min " ++ (tenths_text (least_time times) ++ (codes ", avg "
    ++ (tenths_text (whole_time times / length times) ++ (codes ", max "
    ++ tenths_text (most_time times)))))

abbrev pub totals_line : ℕ → ℕ → List ℕ → List ℕ
totals_line sent answered times =
    decimal sent ++ (codes " sent, " ++ (decimal answered ++ (codes " answered"
    ++ (times_text times ++ codes "\n"))))

-- the last request has no answer, if so; and how many were sent and answered
abbrev pub ping_end_text : Address → PingCore → List ℕ → List ℕ
ping_end_text to p times = news_text to (unanswered p) ++ totals_line p.sent p.answered times
