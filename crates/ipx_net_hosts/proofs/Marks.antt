-- Which ends have had a message that grew too long, through each call.
use Rattle.std.proofs.Common.{ℕ, ◌≡◌, ◌∙◌, ap, inl, inr, List, [], ◌∷◌, ◌++◌, Bool, true, false, get_or, map, set, refl, sym, Result, Ok, Err, IfErr}
use Rattle.std.proofs.Math.Seq.{map-set_same}
use Rattle.std.proofs.lemmas.List.{map-append}
use Rattle.spx_messages.specs.Taking.{overlong, result_view}
use Rattle.spx_messages.specs.declared.fault.EndFault.{EndFault}
use Rattle.spx_messages.specs.declared.taken.Taken.{Taken}
use Rattle.spx_theory.specs.World.{EndNow, HostState}
use Rattle.ipx_net_hosts.specs.Hosts.{HostsView, KeepsMarks, MayAddEnd, is_lost, marks_of}
use Rattle.ipx_net_hosts.specs.Refusing.{TakeIsRefused}
use Rattle.ipx_net_hosts.proofs.Placing.{made}

pub marks_same : (v : HostsView) (ss : List HostState) (es es' : List EndNow) → made ss es ≡ v → es' ≡ es → KeepsMarks v (made ss es')
marks_same v ss es es' view same = ap marks_of same ∙ ap (λ (u : HostsView). marks_of u.ends) view

pub marks_pushed : (v : HostsView) (ss : List HostState) (es es' : List EndNow) (e : EndNow) → made ss es ≡ v → es' ≡ es ++ e ∷ [] → e.overlong ≡ false → MayAddEnd v (made ss es')
marks_pushed v ss es es' e view pushed unmarked =
    inr (ap marks_of pushed ∙ map-append (λ (x : EndNow). x.overlong) es (e ∷ []) ∙ ap (λ b. marks_of es ++ b ∷ []) unmarked ∙ ap (λ (u : HostsView). marks_of u.ends ++ false ∷ []) view)

-- one end is replaced by another with the same mark
pub marks_changed : (v : HostsView) (ss : List HostState) (es : List EndNow) (k : ℕ) (x y : EndNow) → made ss es ≡ v → x ≡ get_or es k x → y.overlong ≡ x.overlong → KeepsMarks v (made ss (set es k y))
marks_changed v ss es k x y view read mark =
    map-set_same (λ (z : EndNow). z.overlong) es k y x (mark ∙ ap (λ (z : EndNow). z.overlong) read) ∙ ap (λ (u : HostsView). marks_of u.ends) view

-- a take that loses a link answers that a message grew too long
pub lost_is_overlong : (r : Result Taken EndFault) → is_lost (result_view r) ≡ true → IfErr r TakeIsRefused → r ≡ Err overlong
lost_is_overlong (Ok t) lost refused = absurd (cc lost)
lost_is_overlong (Err f) lost refused =
    elim refused [
      | inl is ↦ ap Err is
      | inr is ↦ let kept : is_lost (result_view (Err f)) ≡ false = ap (λ g. is_lost (result_view (Err g))) is in absurd (cc (sym lost ∙ kept))
    ]
