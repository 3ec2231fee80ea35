-- What access lists drop at ports adds up to the whole.
use Rattle.std.proofs.Common.{◌≡◌, ◌∙◌, ◌<◌, ◌+◌, ◌^◌, ℕ, List, length, get_or, slice_set, inl, inr, ap, arith, refl, sym}
use Rattle.std.specs.List.{sum_by}
use Rattle.std.proofs.lemmas.List.Sums.{get_or-le-sum_by, sum_by-set}
use Rattle.ipx_carrier.specs.Counting.{raised}
use Rattle.ipx_sockets.specs.declared.port_filter_drops.PortFilterDrops.{PortFilterDrops}
use Rattle.ipx_sockets.specs.PortFilterDrops.{RefusedAddUp, UnknownSendersAddUp, nothing_at_port, one_refused, one_unknown_sender, unknown_senders_over}

-- if one term of a sum is raised by one, so is the sum
raised_sum : {X : Type 0} (f : X → ℕ) (xs : List X) (i : ℕ) (y d : X) (before : ℕ) → i < length xs → before + 1 < 2 ^ 64 → before ≡ sum_by f xs
    → f y ≡ raised (f (get_or xs i d)) → raised before ≡ sum_by f (slice_set xs i y)
raised_sum f xs i y d before lt few is rose =
    let here = get_or-le-sum_by f xs i d lt in
    let set = sum_by-set f xs i y d lt in
    omega arith

pub unknown_senders_add_up : UnknownSendersAddUp
unknown_senders_add_up port before after old new lt few is (inl (same, kept)) = same ∙ is ∙ ap unknown_senders_over (sym kept)
unknown_senders_add_up port before after old new lt few is (inr (rose, kept)) =
    rose ∙ raised_sum (λ (k : PortFilterDrops). k.unknown_senders) old port (one_unknown_sender (get_or old port nothing_at_port)) nothing_at_port before lt few is refl
    ∙ ap unknown_senders_over (sym kept)

pub refused_add_up : RefusedAddUp
refused_add_up port before ports lt few is =
    raised_sum (λ (k : PortFilterDrops). k.refused) ports port (one_refused (get_or ports port nothing_at_port)) nothing_at_port before lt few is refl
