-- The lines of ends, one more at a time, and what is printed of an end.
use Rattle.std.proofs.Common.{◌≡◌, ◌∙◌, ℕ, ◌+◌, ◌<◌, List, [], ◌∷◌, ◌++◌, length, get_or, take, append-nil, append_assoc, Option, Some, None, Result, Ok, Err, refl, sym, ap, subst, arith}
use Rattle.std.specs.Prelude.{◌↔◌, IfSome, option_map, slice_get}
use Rattle.std.specs.Result.{result_ok}
use Rattle.std.specs.Io.KnownBytes.{Appends}
use Rattle.std.proofs.KnownBytes.{Appends-trans}
use Rattle.std.proofs.lemmas.List.{length-take, take_more}
use Rattle.spx_link.specs.LinkView.{numbers_of}
use Rattle.spx_link.specs.declared.numbers.Numbers.{Numbers}
use Rattle.spx_messages.specs.EndpointView.{EndpointView, Held, held_at}
use Rattle.ipx_carrier.specs.declared.host_core.HostCore.{HostCore}
use Rattle.ipx_net.specs.declared.endinfo.EndInfo.{EndInfo}
use Rattle.ipx_sim_udp.specs.UdpCalls.{held_by_runner, next_of}
use Rattle.ipx_sim_udp.specs.Ending.{udp_end_line, end_lines, info_of}
use Rattle.ipx_sim_udp.specs.declared.runner.Runner.{Runner}
use Rattle.ipx_sim_udp.specs.declared.layout_binding.End.{End}
use Rattle.ipx_sim_udp.specs.declared.layout_binding.UdpNet.{UdpNet}

-- ---- lines

lines_more : (s : UdpNet) (names : List (List ℕ)) (who : ℕ) (ends : List End) (e : End) (at : ℕ) → at ≡ who + length ends
    → end_lines s names who ends ++ udp_end_line names at (info_of s e) ≡ end_lines s names who (ends ++ e ∷ [])
lines_more s names who [] e at is =
    let here : at ≡ who = omega (arith, is) in
    ap (λ (k : ℕ). udp_end_line names k (info_of s e)) here ∙ sym (append-nil (udp_end_line names who (info_of s e)))
lines_more s names who (x ∷ xs) e at is =
    append_assoc (udp_end_line names who (info_of s x)) (end_lines s names (who + 1) xs) (udp_end_line names at (info_of s e))
    ∙ ap (λ (t : List ℕ). udp_end_line names who (info_of s x) ++ t) (lines_more s names (who + 1) xs e at (omega (arith, is)))

-- the line of one more end was written after those before it
pub written_more : (s : UdpNet) (names : List (List ℕ)) (ends : List End) (who : ℕ) (d : End) (info : EndInfo) (old before now : Option (List ℕ)) → who < length ends
    → info ≡ info_of s (get_or ends who d) → Appends old before (end_lines s names 0 (take who ends)) → Appends before now (udp_end_line names who info)
    → Appends old now (end_lines s names 0 (take (who + 1) ends))
written_more s names ends who d info old before now lt is wrote more =
    let e = get_or ends who d in
    let at : who ≡ 0 + length (take who ends) = omega (arith, length-take who ends, lt) in
    let longer : take who ends ++ e ∷ [] ≡ take (who + 1) ends = sym (take_more ends who d lt) in
    subst (λ (xs : List End). Appends old now (end_lines s names 0 xs)) longer
    (subst (λ (t : List ℕ). Appends old now t) (lines_more s names 0 (take who ends) e who at)
    (Appends-trans old before now (end_lines s names 0 (take who ends)) (udp_end_line names who (info_of s e)) wrote
    (subst (λ (i : EndInfo). Appends before now (udp_end_line names who i)) is more)))

-- ---- ends

-- what an endpoint answers for an id holds for what it has under that id
pub told : {T E : Type 0} (e : E) (f : Held → T) (at : Option Held) (r : Result T E) → ((r ≡ Err e) ↔ (at ≡ None)) → IfSome at (λ h. r ≡ Ok (f h))
    → result_ok r ≡ option_map f at
told e f None r unknown known = ap result_ok (unknown.1 refl)
told e f (Some h) r unknown known = ap result_ok known

abbrev next_in : {E : Type 0} → Result Numbers E → ℕ
next_in (Ok n) = n.next
next_in (Err e) = 0

pub next_told : {E : Type 0} (e : E) (at : Option Held) (r : Result Numbers E) → ((r ≡ Err e) ↔ (at ≡ None)) → IfSome at (λ h. r ≡ Ok (numbers_of h.link))
    → next_in r ≡ next_of at
next_told e None r unknown known = ap next_in (unknown.1 refl)
next_told e (Some h) r unknown known = ap next_in known

-- what holds for an endpoint that was read at its host holds for that host
pub at_host : {T : Type 0} (f : Option Held → T) (hosts : List (Runner HostCore)) (host id : ℕ) (r : Runner HostCore) (e : EndpointView) (x : T)
    → slice_get hosts host ≡ Some r → e ≡ r.core.endpoint → x ≡ f (held_at e id) → x ≡ f (held_by_runner (slice_get hosts host) id)
at_host f hosts host id r e x there same is =
    is ∙ ap (λ (y : EndpointView). f (held_at y id)) same ∙ ap (λ (o : Option (Runner HostCore)). f (held_by_runner o id)) (sym there)
